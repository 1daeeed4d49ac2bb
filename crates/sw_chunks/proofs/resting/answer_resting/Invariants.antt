use Rattle.std.proofs.Common.{◌≡◌, drop, []}
use Rattle.sw_query.specs.Scan.{answer_over}
use Rattle.sw_chunks.specs.Asked.{AreasFit, with_all}
use Rattle.sw_chunks.proofs.Rested.{RestBefore}
use Rattle.sw_chunks.proofs.resting.answer_resting.Given as goal

abbrev pub invariant-loop-k : goal.invariant-loop-k
invariant-loop-k g l =
    (with_all l.query l.reply (drop l.k l.areas) ≡ with_all l.query (answer_over [] l.query.want) l.areas) × AreasFit l.query l.reply (drop l.k l.areas) × RestBefore l.query l.k l.areas
