use Rattle.std.proofs.Common.{◌∙◌, List, ap, arith, set}
use Rattle.sw_rows.specs.Slots.{slot_by, slots_in}
use Rattle.sw_rows.specs.declared.schema.slot.Slot.{Slot}
use Rattle.sw_rows.specs.declared.schema.slots.Ends.{Ends}
use Rattle.sw_rows.proofs.Schemas.SlotColumns.{slots_set, within}
use Rattle.sw_rows.proofs.schema.slots.Slots.set.Goals as goal

pub index_mut-requires : goal.index_mut-requires
index_mut-requires c = let lt = (within _ _ _ _ c.args.self.now c.args.at c.self.invariant c.self.view_is c.requires).0 in omega (arith, lt)

pub index_mut-requires-2 : goal.index_mut-requires-2
index_mut-requires-2 c = let lt = (within _ _ _ _ c.args.self.now c.args.at c.self.invariant c.self.view_is c.requires).1 in omega (arith, lt)

pub index_mut-requires-3 : goal.index_mut-requires-3
index_mut-requires-3 c = let lt = (within _ _ _ _ c.args.self.now c.args.at c.self.invariant c.self.view_is c.requires).2 in omega (arith, lt)

pub index_mut-requires-4 : goal.index_mut-requires-4
index_mut-requires-4 c = let lt = (within _ _ _ _ c.args.self.now c.args.at c.self.invariant c.self.view_is c.requires).3 in omega (arith, lt)

pub returns : goal.returns
returns c =
    let is = c.self.invariant in
    let at = c.args.at in
    let slot = c.args.slot.now in
    let es = c.self.inside.ends.items in
    let ms = c.self.inside.middles.items in
    let ns = c.self.inside.lens.items in
    let cs = c.self.inside.codes.items in
    slots_set es ms ns cs at c.of.result slot.middle slot.many slot.code is.middles is.lens is.codes
    ∙ ap (λ (e : Ends). set (slots_in es ms ns cs) at (slot_by e slot.middle slot.many slot.code)) c.of.ensures
    ∙ ap (λ (ss : List Slot). set ss at slot) c.self.view_is
