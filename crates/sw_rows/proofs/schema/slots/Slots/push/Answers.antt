use Rattle.std.proofs.Common.{◌≡◌, ◌∙◌, ◌++◌, ◌∷◌, [], List, ap, refl}
use Rattle.sw_rows.specs.declared.schema.slot.Slot.{Slot}
use Rattle.sw_rows.specs.declared.schema.slots.Ends.{Ends}
use Rattle.sw_rows.specs.Slots.{slots_in}
use Rattle.sw_rows.proofs.Schemas.SlotColumns.{slots_pushed}
use Rattle.sw_rows.proofs.schema.slots.Slots.push.Goals as goal

pub returns : goal.returns
returns c =
    let is = c.self.invariant in
    let es = c.self.inside.ends.items in
    let ms = c.self.inside.middles.items in
    let ns = c.self.inside.lens.items in
    let cs = c.self.inside.codes.items in
    let slot = c.args.slot.now in
    let ends : Ends = record { first = slot.first; last = slot.last } in
    let pushed : slots_in c.push_reserved.new.self.items c.push_reserved-2.new.self.items c.push_reserved-3.new.self.items c.push_reserved-4.new.self.items ≡ slots_in (es ++ ends ∷ []) (ms ++ slot.middle ∷ []) (ns ++ slot.many ∷ []) (cs ++ slot.code ∷ []) =
    rw (c.push_reserved.ensures.items, c.push_reserved-2.ensures.items, c.push_reserved-3.ensures.items, c.push_reserved-4.ensures.items, c.reserve.ensures.items, c.reserve-2.ensures.items, c.reserve-3.ensures.items, c.reserve-4.ensures.items, c.of.ensures) refl in
    pushed ∙ slots_pushed es ms ns cs ends slot.middle slot.many slot.code is.middles is.lens is.codes ∙ ap (λ (ss : List Slot). ss ++ slot ∷ []) c.self.view_is
