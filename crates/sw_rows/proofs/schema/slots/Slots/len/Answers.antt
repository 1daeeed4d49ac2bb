use Rattle.std.proofs.Common.{ap, arith, length}
use Rattle.sw_rows.proofs.Schemas.SlotColumns.{many_slots}
use Rattle.sw_rows.proofs.schema.slots.Slots.len.Goals as goal

pub returns : goal.returns
returns c =
    let is = c.self.invariant in
    let many = many_slots c.self.inside.ends.items _ _ _ is.middles is.lens is.codes in
    let all = ap length c.self.view_is in
    omega (arith, c.len.ensures, many, all)
