use Rattle.std.proofs.Common.{rules, not}
use Rattle.std.proofs.lemmas.List.Sorted.{IsPartitionPoint-from_clause}
use Rattle.sw_query.specs.Bounds.{is_left}
use Rattle.sw_tape.proofs.Around.{rising-split, split-from_point}
use Rattle.sw_tape.proofs.bounds.count_up_to.Goals as goal

pub returns-clause-split : goal.returns-clause-split
returns-clause-split c =
    let v = c.args.value in let bs = c.args.bounds.now in
    let point = IsPartitionPoint-from_clause (λ x. not (is_left x v)) _ _ c.partition_point.ensures.partitioned (rising-split v bs c.requires) (λ a r q k. search rules) in
    split-from_point v bs c.partition_point.result c.partition_point.ensures.bound point
