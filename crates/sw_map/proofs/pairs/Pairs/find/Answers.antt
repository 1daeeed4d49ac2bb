use Rattle.std.proofs.Common.{rules, ◌≡◌, length, zip, arith, sym, ap, ◌∙◌, subst, ℕ}
use Rattle.sw_kernel.specs.Flat.{InOrder}
use Rattle.sw_map.specs.Held.{place_of}
use Rattle.sw_map.specs.Pieces.{Table, mark_of}
use Rattle.sw_map.proofs.Layouts.{zip-long}
use Rattle.sw_map.proofs.Finding.{place-pieces}
use Rattle.sw_map.proofs.pairs.Pairs.find.Goals as goal

pub returns : goal.returns
returns c =
    let s = c.self.inside in let i = c.self.invariant in
    let hs = s.lists.head.items in let ts = s.lists.tail.items in let ms = s.marks.items in
    let ln : length hs ≡ s.lists.head.len = search rules in
    let lt : length ts ≡ s.lists.tail.len = search rules in
    let same : length hs ≡ length ts = omega (arith, i.lengths) in
    let o : InOrder 0 (length (zip hs ts)) ms = subst (λ (j : ℕ). InOrder 0 j ms) (sym (zip-long hs ts same ∙ ln)) i.order in
    let r : c.find_mark.result ≡ mark_of c.args.bound ms = search rules in
    r ∙ sym (place-pieces c.args.bound (zip hs ts) ms o) ∙ ap (λ (t : Table). place_of c.args.bound t.pieces) c.self.view_is
