use Rattle.std.proofs.Common.{length, rules}
use Rattle.sw_cli.specs.Script.{spelled}
use Rattle.sw_cli.proofs.Blocks.{closed_sound, closed_wide}
use Rattle.sw_cli.proofs.script.read_blocks.Goals as goal

pub returns-clause-width : goal.returns-clause-width
returns-clause-width c = closed_wide _ _ (λ p. spelled p.0 p.1.items) c.close.result c.loop-line.invariant.sound c.close.ensures.all

pub returns-clause-sound : goal.returns-clause-sound
returns-clause-sound c = closed_sound _ _ (λ p. spelled p.0 p.1.items) c.close.result c.loop-line.invariant.sound c.close.ensures.all

pub loop-line-preserved : goal.loop-line-preserved
loop-line-preserved c =
    let sound = c.in-Ok.ensures.sound (length c.args.schema) c.loop-line.invariant.sound in
    search rules
