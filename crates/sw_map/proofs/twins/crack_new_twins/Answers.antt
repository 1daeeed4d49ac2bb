use Rattle.std.proofs.Common.{rules, ◌≡◌, ◌≤◌, ℕ, List, length, drop, sym, ap, ap₂, ◌∙◌, arith, subst}
use Rattle.sw_kernel.specs.declared.mark.Mark.{Mark}
use Rattle.sw_kernel.specs.Flat.{InOrder, IsNew, end_before, marks_below, start_at}
use Rattle.sw_map.specs.Pieces.{zipped}
use Rattle.sw_map.proofs.Finding.{start-end}
use Rattle.sw_map.proofs.Together.{cut-new}
use Rattle.sw_map.proofs.twins.crack_new_twins.Goals as goal

pub part_twins-at-requires-clause-range : goal.part_twins-at-requires-clause-range
part_twins-at-requires-clause-range c =
    let ms = c.args.marks.now.items in let k = c.marks_below-k.result in let n = c.args.lists.now.head.len in
    let within : k ≤ length ms = search rules in
    let p = start-end 0 n ms k c.requires.both.0.order within in
    let es : c.start_of-start.result ≡ start_at 0 ms k = search rules in
    let ee : c.end_before-end.result ≡ end_before (drop k ms) n = search rules in
    (omega (arith, p.0, es, ee), omega (arith, p.1, ee))

pub returns-clause-cut : goal.returns-clause-cut
returns-clause-cut c =
    let hs = c.args.lists.now.head.items in let ts = c.args.lists.now.tail.items in
    let ms = c.args.marks.now.items in let n = c.args.lists.now.head.len in
    let b = c.args.bound in let k = c.marks_below-k.result in
    let s = c.start_of-start.result in let e = c.end_before-end.result in
    let now = c.part_twins-at.new.lists in let parted = c.part_twins-at.ensures.parted in
    let both = c.requires.both.0 in
    let ln : length hs ≡ n = search rules in
    let lt : length ts ≡ c.args.lists.now.tail.len = search rules in
    let same : length hs ≡ length ts = omega (arith, ln, lt, both.lengths) in
    let o : InOrder 0 (length hs) ms = subst (λ (j : ℕ). InOrder 0 j ms) (sym ln) both.order in
    let ek : k ≡ marks_below ms b = search rules in
    let es : s ≡ start_at 0 ms k = search rules in
    let ee : e ≡ end_before (drop k ms) n = search rules in
    record {
      cut = cut-new b hs ts (zipped now.head now.tail) ms c.put_mark.new.marks.items k s e c.part_twins-at.result same o both.rising c.requires.new ek es (ee ∙ ap (end_before (drop k ms)) (sym ln)) parted.pairs parted.begins c.put_mark.ensures.items;
      size = c.part_twins-at.ensures.sizes.0;
      more = omega (arith, c.put_mark.ensures.len);
      room = c.put_mark.ensures.capacity;
    }

pub returns-clause-twin_cut : goal.returns-clause-twin_cut
returns-clause-twin_cut c =
    let hs = c.args.lists.now.head.items in
    let gs = c.args.twin.now.head.items in let us = c.args.twin.now.tail.items in
    let ms = c.args.marks.now.items in let ns = c.args.twin_marks.now.items in let n = c.args.lists.now.head.len in
    let b = c.args.bound in let k = c.marks_below-k.result in
    let s = c.start_of-start.result in let e = c.end_before-end.result in
    let now = c.part_twins-at.new.twin in let parted = c.part_twins-at.ensures.twin_parted in
    let both = c.requires.both.1 in
    let sh = c.requires.same.same_heads in let sm = sym c.requires.same.same_marks in
    let ln : length hs ≡ n = search rules in
    let lg : length gs ≡ c.args.twin.now.head.len = search rules in
    let lu : length us ≡ c.args.twin.now.tail.len = search rules in
    let same : length gs ≡ length us = omega (arith, lg, lu, both.lengths) in
    let long : n ≡ length gs = sym ln ∙ sym (ap length sh) in
    let o : InOrder 0 (length gs) ns = subst (λ (j : ℕ). InOrder 0 j ns) (sym lg) both.order in
    let ek : k ≡ marks_below ms b = search rules in
    let es : s ≡ start_at 0 ms k = search rules in
    let ee : e ≡ end_before (drop k ms) n = search rules in
    let new : IsNew b ns = subst (λ (l : List Mark). IsNew b l) sm c.requires.new in
    let ek' : k ≡ marks_below ns b = ek ∙ ap (λ (l : List Mark). marks_below l b) sm in
    let es' : s ≡ start_at 0 ns k = es ∙ ap (λ (l : List Mark). start_at 0 l k) sm in
    let ee' : e ≡ end_before (drop k ns) (length gs) = ee ∙ ap₂ (λ (l : List Mark) (j : ℕ). end_before (drop k l) j) sm long in
    record {
      cut = cut-new b gs us (zipped now.head now.tail) ns c.put_mark-2.new.marks.items k s e c.part_twins-at.result same o both.rising new ek' es' ee' parted.pairs parted.begins c.put_mark-2.ensures.items;
      size = c.part_twins-at.ensures.sizes.1;
      more = omega (arith, c.put_mark-2.ensures.len);
      room = c.put_mark-2.ensures.capacity;
    }
