use Rattle.std.proofs.Common.{◌≡◌, ◌∙◌, ◌<◌, ap, arith, get_or, subst, sym, Some}
use Rattle.sw_rows.specs.Slots.{IsTrueOf, slot_by}
use Rattle.sw_rows.specs.Texts.{code_of}
use Rattle.sw_rows.specs.declared.schema.slot.Slot.{Slot}
use Rattle.sw_rows.specs.declared.schema.slots.Ends.{Ends}
use Rattle.sw_rows.proofs.Schemas.SlotColumns.{same_text, slot_there, within}
use Rattle.sw_rows.proofs.schema.slots.Slots.code_at.Goals as goal

pub index-ends-requires : goal.index-ends-requires
index-ends-requires c = let lt = (within _ _ _ _ c.args.self.now c.args.at c.self.invariant c.self.view_is c.requires).0 in omega (arith, lt)

pub index-requires : goal.index-requires
index-requires c = let lt = (within _ _ _ _ c.args.self.now c.args.at c.self.invariant c.self.view_is c.requires).2 in omega (arith, lt)

pub has_middle-requires : goal.has_middle-requires
has_middle-requires c = let lt = (within _ _ _ _ c.args.self.now c.args.at c.self.invariant c.self.view_is c.requires).1 in omega (arith, lt)

pub index-requires-2 : goal.index-requires-2
index-requires-2 c = let lt = (within _ _ _ _ c.args.self.now c.args.at c.self.invariant c.self.view_is c.requires).3 in omega (arith, lt)

pub returns : goal.returns
returns c ts are =
    let is = c.self.invariant in
    let es = c.self.inside.ends.items in
    let ms = c.self.inside.middles.items in
    let ns = c.self.inside.lens.items in
    let cs = c.self.inside.codes.items in
    let at = c.args.at in
    let text = c.args.text.now in
    let e = c.index-ends.result.now in
    let n = c.index.result.now in
    let k = c.index-2.result.now in
    let s : Slot = slot_by (get_or es at e) (get_or ms at 0) (get_or ns at n) (get_or cs at k) in
    let there : get_or c.args.self.now at text ≡ s = ap (λ ss. get_or ss at text) (sym c.self.view_is) ∙ slot_there es ms ns cs at text e 0 n k is.middles is.lens is.codes (within _ _ _ _ c.args.self.now c.args.at c.self.invariant c.self.view_is c.requires).0 in
    let has : IsTrueOf ts s = subst (IsTrueOf ts) there (are at text c.requires) in
    let first = ap (λ (x : Ends). x.first) (sym c.index-ends.ensures) ∙ c.if-ends-text.false in
    let last = ap (λ (x : Ends). x.last) (sym c.index-ends.ensures) ∙ c.if-ends-text-2.false in
    let middle : 16 < text.many → get_or ms at 0 ≡ text.middle = λ long. ap (λ xs. get_or xs at 0) (sym c.deref.ensures.value) ∙ c.has_middle.ensures c.if-not-has_middle.false long in
    let same = same_text s text first last (sym c.index.ensures ∙ c.if-index-text.false) middle in
    ap (code_of ts) (sym same) ∙ has ∙ ap (λ x. Some x) (sym c.index-2.ensures ∙ sym c.from.ensures)
