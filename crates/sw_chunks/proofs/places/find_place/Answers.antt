use Rattle.std.proofs.Common.{rules, ℕ}
use Rattle.std.proofs.Math.Dec.{ltb}
use Rattle.std.proofs.lemmas.List.Sorted.{IsPartitionPoint-from_clause}
use Rattle.sw_table.proofs.KeyFinds.{keys-parted}
use Rattle.sw_chunks.proofs.Found.{found-at, its-key, no-place}
use Rattle.sw_chunks.proofs.places.find_place.Goals as goal

pub returns-then-stands_at : goal.returns-then-stands_at
returns-then-stands_at c =
    let there = c.stands_at.ensures.there c.if-stands_at.true in
    found-at c.args.key c.args.owners.now c.partition_point-at.result (0, 0) c.requires there.0 (there.1 (0, 0))

pub returns-else-stands_at : goal.returns-else-stands_at
returns-else-stands_at c =
    let k = c.args.key in let os = c.args.owners.now in
    let point = IsPartitionPoint-from_clause (λ (o : ℕ × ℕ). ltb o.0 k) _ _ c.partition_point-at.ensures.partitioned (keys-parted its-key k os c.requires) (λ a r q m. search rules) in
    no-place k os c.partition_point-at.result c.requires c.partition_point-at.ensures.bound point (c.stands_at.ensures.other c.if-stands_at.false)
