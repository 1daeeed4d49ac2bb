use Rattle.std.proofs.Common.{arith}
use Rattle.sw_spine.proofs.CheckLemmas.{calls_wider}
use Rattle.sw_spine.proofs.touching.make_watched.Goals as goal

pub would_touch-requires : goal.would_touch-requires
would_touch-requires c = calls_wider _ 8 c.args.call.now (omega (arith, c.len-width.ensures.schema.sound.few)) c.requires

pub make-requires : goal.make-requires
make-requires c = record { asks = calls_wider _ 8 c.args.call.now (omega (arith, c.len-width.ensures.schema.sound.few)) c.requires }
