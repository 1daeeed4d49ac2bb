use Rattle.std.proofs.Common.{arith}
use Rattle.sw_rows.proofs.Schemas.SlotLemmas.{few_bytes}
use Rattle.sw_rows.proofs.schema.slot.short_word.Goals as goal

pub returns : goal.returns
returns c = few_bytes c.args.bytes.now c.from_le_bytes.result c.requires (λ i. let small = c.type_inv.bytes i in omega arith) (omega arith)
