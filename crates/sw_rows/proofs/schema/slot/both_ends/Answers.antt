use Rattle.std.proofs.Common.{◌-◌, arith, length}
use Rattle.sw_rows.proofs.Schemas.SlotLemmas.{both_ends}
use Rattle.sw_rows.proofs.schema.slot.both_ends.Goals as goal

pub returns : goal.returns
returns c = both_ends c.args.bytes.now (length c.args.bytes.now - 4) c.from_le_bytes.result (omega arith) (λ i. let small = c.type_inv.bytes i in omega arith) c.from_le_bytes.ensures
