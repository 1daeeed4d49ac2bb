use Rattle.std.proofs.Common.{◌≡◌, drop, []}
use Rattle.sw_query.specs.Scan.{answer_over}
use Rattle.sw_chunks.specs.Heads.{AreUntouchedSame}
use Rattle.sw_chunks.specs.Asked.{AreasFit, with_all}
use Rattle.sw_chunks.proofs.Steps.{AreAskedBefore}
use Rattle.sw_chunks.proofs.scanning.scan_areas.Given as goal

abbrev pub invariant-loop-k : goal.invariant-loop-k
invariant-loop-k g l =
    AreAskedBefore l.query l.k l.initial.areas l.areas 1 × (with_all l.query l.reply (drop l.k l.initial.areas) ≡ with_all l.query (answer_over [] l.query.want) l.initial.areas) × AreasFit l.query l.reply (drop l.k l.initial.areas) × AreUntouchedSame l.query l.initial.areas l.areas
