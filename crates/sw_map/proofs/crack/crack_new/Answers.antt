use Rattle.std.proofs.Common.{rules, ◌≡◌, ◌≤◌, ◌++◌, ◌∷◌, length, ℕ, ℤ, List, zip, take, drop, sym, ap, ◌∙◌, arith, subst}
use Rattle.sw_kernel.specs.Flat.{InOrder, end_before, start_at}
use Rattle.sw_map.specs.Pieces.{pieces_between}
use Rattle.sw_map.proofs.Layouts.{pieces-joined, pieces-marks, zip-long}
use Rattle.sw_map.proofs.Finding.{start-end}
use Rattle.sw_map.proofs.Cracking.{cracked}
use Rattle.sw_map.proofs.crack.crack_new.Goals as goal

pub part_lists-at-requires-clause-range : goal.part_lists-at-requires-clause-range
part_lists-at-requires-clause-range c =
    let ms = c.args.marks.now.items in let k = c.args.k in let n = c.args.head.now.len in
    let within : k ≤ length ms = search rules in
    let p = start-end 0 n ms k c.requires.order within in
    let es : c.start_of-start.result ≡ start_at 0 ms k = search rules in
    let ee : c.end_before-end.result ≡ end_before (drop k ms) n = search rules in
    (omega (arith, p.0, es, ee), omega (arith, p.1, ee))

pub returns-clause-cracked : goal.returns-clause-cracked
returns-clause-cracked c =
    let hs = c.args.head.now.items in let ts = c.args.tail.now.items in
    let ms = c.args.marks.now.items in let k = c.args.k in let n = c.args.head.now.len in
    let s = c.start_of-start.result in let e = c.end_before-end.result in
    let b = c.args.bound in
    let zs : List (ℤ × ℤ) = zip hs ts in
    let ln : length hs ≡ n = search rules in
    let lt : length ts ≡ n = search rules in
    let lz : length zs ≡ n = zip-long hs ts (ln ∙ sym lt) ∙ ln in
    let es : s ≡ start_at 0 ms k = search rules in
    let ee' : e ≡ end_before (drop k ms) n = search rules in
    let ee : e ≡ end_before (drop k ms) (length zs) = ee' ∙ ap (end_before (drop k ms)) (sym lz) in
    let o : InOrder 0 (length zs) ms = subst (λ (j : ℕ). InOrder 0 j ms) (sym lz) c.requires.order in
    let et = c.put_mark.ensures.items ∙ ap (λ (j : ℕ). take k ms ++ record { bound = b; at = j } ∷ drop k ms) c.part_lists-at.ensures.left in
    cracked b (pieces_between 0 zs ms) zs _ ms c.put_mark.new.marks.items k s e (pieces-joined 0 zs ms) (pieces-marks 0 (length zs) zs ms (omega arith) o) c.requires.rising c.requires.new c.requires.place es ee c.part_lists-at.ensures.pairs et

pub returns-clause-order : goal.returns-clause-order
returns-clause-order c =
    let hs = c.part_lists-at.new.head.items in let ts = c.part_lists-at.new.tail.items in
    let n = c.part_lists-at.new.head.len in
    let ln : length hs ≡ n = search rules in
    let lt : length ts ≡ n = search rules in
    let lz : length (zip hs ts) ≡ n = zip-long hs ts (ln ∙ sym lt) ∙ ln in
    let laid = returns-clause-cracked c in
    subst (λ (j : ℕ). InOrder 0 j c.put_mark.new.marks.items) lz laid.order
