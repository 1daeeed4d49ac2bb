use Rattle.std.proofs.Common.{rules}
use Rattle.std.proofs.lemmas.List.Sorted.{IsPartitionPoint-from_clause}
use Rattle.sw_query.specs.Bounds.{bound_below}
use Rattle.sw_tape.proofs.Places.{rising-parted, place-from_point}
use Rattle.sw_tape.proofs.bounds.count_below.Goals as goal

pub returns : goal.returns
returns c =
    let b = c.args.bound in let bs = c.args.bounds.now in
    let point = IsPartitionPoint-from_clause (λ x. bound_below x b) _ _ c.partition_point.ensures.partitioned (rising-parted b bs c.requires) (λ a r q k. search rules) in
    place-from_point b bs c.partition_point.result c.partition_point.ensures.bound point
