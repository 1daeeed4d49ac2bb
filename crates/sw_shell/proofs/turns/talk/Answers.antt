use Rattle.std.proofs.Common.{◌∙◌}
use Rattle.sw_shell.specs.Talks.{seen_at}
use Rattle.sw_shell.proofs.Talking.{reached_more}
use Rattle.sw_shell.proofs.turns.talk.Goals as goal

pub loop-number-preserved : goal.loop-number-preserved
loop-number-preserved g c =
    let first = seen_at c.args.seat.now c.args.console.now in
    let before = seen_at c.loop-number.seat c.loop-number.console in
    let after = seen_at c.turn.new.seat c.turn.new.console in
    let i = c.loop-number.invariant in
    let more = reached_more first before after (i.1, i.2) (rw (c.in-Ok-true.is, c.in-Ok-true.field-0-test) at c.turn.ensures.turned) in
    (c.turn.ensures.number ∙ i.0, more.0, more.1)
