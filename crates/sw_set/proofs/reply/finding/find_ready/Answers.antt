use Rattle.std.proofs.Common.{arith}
use Rattle.sw_set.specs.Prepared.{IsReady}
use Rattle.sw_set.proofs.Replying.Stock.{any-none}
use Rattle.sw_set.proofs.reply.finding.find_ready.Goals as goal

pub unreachable-requires : goal.unreachable-requires
unreachable-requires g c = any-none g.M.CrackerMap.held (IsReady c.args.tail c.args.tape.now) c.args.boxes.now (λ k d lt r. c.loop-at.invariant k d (omega arith) lt r) c.requires
