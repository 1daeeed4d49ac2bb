use Rattle.std.proofs.Common.{rules, ◌≡◌, ◌≤◌, ℕ, ℤ, List, length, zip, arith, sym, ap, ◌∙◌, subst}
use Rattle.sw_kernel.specs.declared.mark.Mark.{Mark}
use Rattle.sw_kernel.specs.Arrangement.{Arrangement, joined, ripple_remove}
use Rattle.sw_kernel.specs.Replay.{removed}
use Rattle.sw_kernel.specs.Flat.{Become, InOrder}
use Rattle.sw_kernel.specs.Tapes.{IsRising}
use Rattle.sw_kernel.proofs.Ripples.{written}
use Rattle.sw_kernel.proofs.Rising.{bounds-remove}
use Rattle.sw_map.specs.Pieces.{IsLaidOut, Table, bounds_of, pieces_between, stepped}
use Rattle.sw_map.proofs.Layouts.{zip-long}
use Rattle.sw_map.proofs.Tables.{rippled, table-length}
use Rattle.sw_map.proofs.pairs.Pairs.remove.Goals as goal

pub ripple_out-requires-clause-place : goal.ripple_out-requires-clause-place
ripple_out-requires-clause-place c =
    let s = c.self.inside in let i = c.self.invariant in
    let hs = s.lists.head.items in let ts = s.lists.tail.items in
    let ln : length hs ≡ s.lists.head.len = search rules in
    let lt : length ts ≡ s.lists.tail.len = search rules in
    let same : length hs ≡ length ts = omega (arith, i.lengths) in
    let long = table-length hs ts s.marks.items same in
    let long' = ap (λ (t : Table). length (joined t.pieces)) (sym c.self.view_is) in
    let room' = ap (λ (t : Table). t.room) (sym c.self.view_is) in
    let within = c.requires in
    omega (arith, long, long', within)

pub invariant_of-self : goal.invariant_of-self
invariant_of-self c =
    let s = c.self.inside in let i = c.self.invariant in
    let hs = s.lists.head.items in let ts = s.lists.tail.items in let ms = s.marks.items in
    let zs : List (ℤ × ℤ) = zip hs ts in
    let r = c.ripple_out.new in
    let zs' : List (ℤ × ℤ) = zip r.head.items r.tail.items in
    let ln : length hs ≡ s.lists.head.len = search rules in
    let lt : length ts ≡ s.lists.tail.len = search rules in
    let ln' : length r.head.items ≡ r.head.len = search rules in
    let lt' : length r.tail.items ≡ r.tail.len = search rules in
    let same : length hs ≡ length ts = omega (arith, i.lengths) in
    let e0 : r.head.len ≡ r.tail.len = omega (arith, i.lengths, c.ripple_out.ensures.lengths.0, c.ripple_out.ensures.lengths.1) in
    let same' : length r.head.items ≡ length r.tail.items = omega (arith, e0) in
    let lz : length zs ≡ s.lists.head.len = zip-long hs ts same ∙ ln in
    let lz' : length zs' ≡ r.head.len = zip-long r.head.items r.tail.items same' ∙ ln' in
    let o : InOrder 0 (length zs) ms = subst (λ (j : ℕ). InOrder 0 j ms) (sym lz) i.order in
    let vm : c.deref_mut.result.now ≡ ms = search rules in
    let lm : length r.marks ≡ length ms = search rules in
    let lw : length ms ≤ s.marks.len = search rules in
    let wr = written s.marks.len ms r.marks lm lw in
    let become : Become (ripple_remove c.args.place) zs ms zs' r.marks = subst (λ (l : List Mark). Become (ripple_remove c.args.place) zs l zs' r.marks) vm c.ripple_out.ensures.rippled in
    let laid : IsLaidOut (ripple_remove c.args.place (pieces_between 0 zs ms)) zs' r.marks = rippled (ripple_remove c.args.place) zs zs' ms r.marks o i.rising (λ a. bounds-remove c.args.place a) become in
    record {
      lengths = e0;
      order = subst (λ (l : List Mark). InOrder 0 r.head.len l) (sym wr) (subst (λ (j : ℕ). InOrder 0 j r.marks) lz' laid.order);
      rising = subst (λ (l : List Mark). IsRising (bounds_of l)) (sym wr) laid.rising;
      heads = omega (arith, i.heads, c.ripple_out.ensures.capacity.0);
      tails = omega (arith, i.tails, c.ripple_out.ensures.capacity.1);
    }

pub returns : goal.returns
returns c =
    let s = c.self.inside in let i = c.self.invariant in
    let hs = s.lists.head.items in let ts = s.lists.tail.items in let ms = s.marks.items in
    let zs : List (ℤ × ℤ) = zip hs ts in
    let r = c.ripple_out.new in
    let zs' : List (ℤ × ℤ) = zip r.head.items r.tail.items in
    let ln : length hs ≡ s.lists.head.len = search rules in
    let lt : length ts ≡ s.lists.tail.len = search rules in
    let ln' : length r.head.items ≡ r.head.len = search rules in
    let lt' : length r.tail.items ≡ r.tail.len = search rules in
    let same : length hs ≡ length ts = omega (arith, i.lengths) in
    let e0 : r.head.len ≡ r.tail.len = omega (arith, i.lengths, c.ripple_out.ensures.lengths.0, c.ripple_out.ensures.lengths.1) in
    let same' : length r.head.items ≡ length r.tail.items = omega (arith, e0) in
    let lz : length zs ≡ s.lists.head.len = zip-long hs ts same ∙ ln in
    let lz' : length zs' ≡ r.head.len = zip-long r.head.items r.tail.items same' ∙ ln' in
    let o : InOrder 0 (length zs) ms = subst (λ (j : ℕ). InOrder 0 j ms) (sym lz) i.order in
    let vm : c.deref_mut.result.now ≡ ms = search rules in
    let lm : length r.marks ≡ length ms = search rules in
    let lw : length ms ≤ s.marks.len = search rules in
    let wr = written s.marks.len ms r.marks lm lw in
    let become : Become (ripple_remove c.args.place) zs ms zs' r.marks = subst (λ (l : List Mark). Become (ripple_remove c.args.place) zs l zs' r.marks) vm c.ripple_out.ensures.rippled in
    let laid : IsLaidOut (ripple_remove c.args.place (pieces_between 0 zs ms)) zs' r.marks = rippled (ripple_remove c.args.place) zs zs' ms r.marks o i.rising (λ a. bounds-remove c.args.place a) become in
    ap (λ (l : List Mark). record { pieces = pieces_between 0 zs' l; room = s.room }) wr
    ∙ ap (λ (b : Arrangement (ℤ × ℤ)). record { pieces = b; room = s.room }) laid.pieces
    ∙ ap (λ (t : Table). stepped (removed c.args.place) t) c.self.view_is
