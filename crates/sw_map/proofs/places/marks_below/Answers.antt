use Rattle.std.proofs.Common.{rules, not, sym}
use Rattle.std.proofs.lemmas.List.Sorted.{IsPartitionPoint-from_clause}
use Rattle.sw_query.specs.Bounds.{bound_below}
use Rattle.sw_map.proofs.Finding.{marks-parted, marks-point}
use Rattle.sw_map.proofs.places.marks_below.Goals as goal

pub returns-clause-below : goal.returns-clause-below
returns-clause-below c =
    let b = c.args.bound in let ms = c.args.marks.now in
    let point = IsPartitionPoint-from_clause (λ m. not (bound_below b m.bound)) _ _ c.partition_point.ensures.partitioned (marks-parted b ms c.requires) (λ a r q k. search rules) in
    sym (marks-point b ms c.partition_point.result c.partition_point.ensures.bound point)
