use Rattle.std.proofs.Common.{◌∙◌, List, ℕ, ap, get_or, length, refl, subst, sym, arith}
use Rattle.sw_table.specs.declared.row.Row.{Row}
use Rattle.sw_table.specs.Packed.{Packed}
use Rattle.sw_load.specs.Gone.{AreBefore}
use Rattle.sw_load.proofs.Places.{before-few, without-at, without-long}
use Rattle.sw_load.proofs.load_rows.LoadRows.key.Goals as goal

pub place_of-requires-clause-small : goal.place_of-requires-clause-small
place_of-requires-clause-small c =
    let s = c.self.inside in let r = c.args.place in
    let left = without-long s.all.items 0 (length s.all.items) s.gone.items refl c.self.invariant in
    let view = ap (λ (v : Packed). length v.items) c.self.view_is in
    omega (arith, left, view, c.requires, c.len-many.ensures.many, c.len-many.ensures.few, ap length c.deref.ensures.value)

pub key-requires : goal.key-requires
key-requires c =
    let s = c.self.inside in let r = c.args.place in
    let left = without-long s.all.items 0 (length s.all.items) s.gone.items refl c.self.invariant in
    let view = ap (λ (v : Packed). length v.items) c.self.view_is in
    let i = c.place_of.ensures.0 in
    let few = before-few r c.deref.result.now i c.place_of.ensures.1 in
    omega (arith, left, view, few, c.requires, c.place_of.ensures.2, ap length c.deref.ensures.value)

pub returns : goal.returns
returns c =
    let s = c.self.inside in let r = c.args.place in let i = c.place_of.ensures.0 in
    let before : AreBefore r s.gone.items i = subst (λ (v : List ℕ). AreBefore r v i) c.deref.ensures.value c.place_of.ensures.1 in
    λ d.
    c.key.ensures d
    ∙ ap (λ (n : ℕ). (get_or s.all.items n d).key) c.place_of.ensures.2
    ∙ sym (ap (λ (x : Row). x.key) (without-at s.all.items 0 (length s.all.items) s.gone.items r r i d refl c.self.invariant (omega arith) before))
    ∙ ap (λ (v : Packed). (get_or v.items r d).key) c.self.view_is
