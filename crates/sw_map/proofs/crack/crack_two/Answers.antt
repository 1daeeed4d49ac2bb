use Rattle.std.proofs.Common.{rules, ◌≡◌, ◌<◌, ◌≤◌, length, ℕ, ℤ, List, zip, drop, sym, ap, ◌∙◌, arith, subst, inl, inr}
use Rattle.sw_kernel.specs.declared.mark.Mark.{Mark}
use Rattle.sw_kernel.specs.Flat.{InOrder, end_before, start_at}
use Rattle.sw_map.proofs.Layouts.{zip-long}
use Rattle.sw_map.proofs.Finding.{same-or-less, start-end}
use Rattle.sw_map.proofs.Cracking.{cracked-two}
use Rattle.sw_map.proofs.crack.crack_two.Goals as goal

pub part_lists-first-requires-clause-range : goal.part_lists-first-requires-clause-range
part_lists-first-requires-clause-range c =
    let ms = c.args.marks.now.items in let k = c.args.places.0 in let n = c.args.head.now.len in
    let within : k ≤ length ms = search rules in
    let p = start-end 0 n ms k c.requires.order within in
    let es : c.start_of-start.result ≡ start_at 0 ms k = search rules in
    let ee : c.end_before-end.result ≡ end_before (drop k ms) n = search rules in
    (omega (arith, p.0, es, ee), omega (arith, p.1, ee))

pub part_lists-second-requires-clause-range : goal.part_lists-second-requires-clause-range
part_lists-second-requires-clause-range c =
    let ms = c.args.marks.now.items in let k = c.args.places.0 in let j = c.args.places.1 in let n = c.args.head.now.len in
    let within : j ≤ length ms = search rules in
    let p = start-end 0 n ms j c.requires.order within in
    let eu : c.end_before-to.result ≡ end_before (drop j ms) n = search rules in
    let en : c.part_lists-first.new.head.len ≡ n = search rules in
    let ee : c.end_before-end.result ≡ end_before (drop k ms) n = search rules in
    let vm : c.deref-3.result.now ≡ ms = search rules in
    let le : c.upper_start-from.result ≤ c.end_before-to.result = elim (same-or-less k j c.requires.places.0) [
      | inl is ↦
          let f = c.upper_start-from.ensures.same is in
          let m : end_before (drop k ms) n ≡ end_before (drop j ms) n = ap (λ (i : ℕ). end_before (drop i ms) n) is in
          let q = c.part_lists-first.ensures.within.1 in
          omega (arith, f, m, q, ee, eu)
      | inr lt ↦
          let f = c.upper_start-from.ensures.apart lt ∙ ap (λ (l : List Mark). start_at 0 l j) vm in
          omega (arith, f, p.0, eu)
    ] in
    (le, omega (arith, p.1, eu, en))

pub returns-clause-cracked : goal.returns-clause-cracked
returns-clause-cracked c =
    let hs = c.args.head.now.items in let ts = c.args.tail.now.items in
    let hs' = c.part_lists-first.new.head.items in let ts' = c.part_lists-first.new.tail.items in
    let ms = c.args.marks.now.items in let k = c.args.places.0 in let j = c.args.places.1 in let n = c.args.head.now.len in
    let s = c.start_of-start.result in let e = c.end_before-end.result in
    let t = c.upper_start-from.result in let u = c.end_before-to.result in
    let zs : List (ℤ × ℤ) = zip hs ts in
    let zs' : List (ℤ × ℤ) = zip hs' ts' in
    let ln : length hs ≡ n = search rules in
    let lt : length ts ≡ n = search rules in
    let ln' : length hs' ≡ n = search rules in
    let lt' : length ts' ≡ n = search rules in
    let lz : length zs ≡ n = zip-long hs ts (ln ∙ sym lt) ∙ ln in
    let lz' : length zs' ≡ n = zip-long hs' ts' (ln' ∙ sym lt') ∙ ln' in
    let places : (k ≤ j) × (j ≤ length ms) = search rules in
    let es : s ≡ start_at 0 ms k = search rules in
    let ee' : e ≡ end_before (drop k ms) n = search rules in
    let ee : e ≡ end_before (drop k ms) (length zs) = ee' ∙ ap (end_before (drop k ms)) (sym lz) in
    let eu' : u ≡ end_before (drop j ms) n = search rules in
    let eu : u ≡ end_before (drop j ms) (length zs) = eu' ∙ ap (end_before (drop j ms)) (sym lz) in
    let vm : c.deref-3.result.now ≡ ms = search rules in
    let apart : k < j → t ≡ start_at 0 ms j = λ less. c.upper_start-from.ensures.apart less ∙ ap (λ (l : List Mark). start_at 0 l j) vm in
    let o : InOrder 0 (length zs) ms = subst (λ (i : ℕ). InOrder 0 i ms) (sym lz) c.requires.order in
    cracked-two c.args.bounds.0 c.args.bounds.1 zs zs' _ ms c.put_two.new.marks.items k j s e c.part_lists-first.result t u c.part_lists-second.result o c.requires.rising c.requires.new c.requires.lower c.requires.upper places c.requires.above es ee c.upper_start-from.ensures.same apart eu (lz' ∙ sym lz) c.part_lists-first.ensures.pairs c.part_lists-first.ensures.left c.part_lists-second.ensures.pairs c.part_lists-second.ensures.left c.put_two.ensures.items

pub returns-clause-order : goal.returns-clause-order
returns-clause-order c =
    let hs = c.part_lists-second.new.head.items in let ts = c.part_lists-second.new.tail.items in
    let n = c.part_lists-second.new.head.len in
    let ln : length hs ≡ n = search rules in
    let lt : length ts ≡ n = search rules in
    let lz : length (zip hs ts) ≡ n = zip-long hs ts (ln ∙ sym lt) ∙ ln in
    let laid = returns-clause-cracked c in
    subst (λ (j : ℕ). InOrder 0 j c.put_two.new.marks.items) lz laid.order
