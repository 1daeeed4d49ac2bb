use Rattle.std.proofs.Common.{rules, ◌≡◌, ◌-◌, ◌<◌, ◌≤◌, ℕ, pos, true, false, None, Option, List, length, zip, get_or, refl, sym, ap, ◌∙◌, arith, subst}
use Rattle.sw_query.specs.declared.bound.Bound.{Bound}
use Rattle.sw_query.specs.declared.bound.Bound.TheVariants.{Before}
use Rattle.sw_query.specs.Bounds.{same_bound}
use Rattle.sw_kernel.specs.declared.mark.Mark.{Mark}
use Rattle.sw_kernel.specs.Partition.{head_of}
use Rattle.sw_kernel.specs.Replay.{crack_at}
use Rattle.sw_kernel.specs.Flat.{InOrder, marks_below}
use Rattle.sw_map.specs.Pieces.{IsLaidOut, pieces_between}
use Rattle.sw_map.proofs.Layouts.{zip-long}
use Rattle.sw_map.proofs.Finding.{new-at, not-before}
use Rattle.sw_map.proofs.Cracking.{unchanged}
use Rattle.sw_map.proofs.Together.{uncut}
use Rattle.sw_map.proofs.twins.crack_twins.Goals as goal

pub returns-in_default-clause-cut : goal.returns-in_default-clause-cut
returns-in_default-clause-cut c =
    let hs = c.args.lists.now.head.items in let ts = c.args.lists.now.tail.items in let ms = c.args.marks.now.items in
    let both = c.requires.both.0 in
    let ln : length hs ≡ c.args.lists.now.head.len = search rules in
    let lt : length ts ≡ c.args.lists.now.tail.len = search rules in
    let lz = zip-long hs ts (omega (arith, ln, lt, both.lengths)) ∙ ln in
    let none : c.args.bound ≡ None = search rules in
    uncut (crack_at head_of c.args.bound) c.args.lists.now c.args.marks.now (
    subst (λ (b : Option Bound). IsLaidOut (crack_at head_of b (pieces_between 0 (zip hs ts) ms)) (zip hs ts) ms) (sym none)
    (record { pieces = refl; order = subst (λ (j : ℕ). InOrder 0 j ms) (sym lz) both.order; rising = both.rising }))

pub returns-in_default-clause-twin_cut : goal.returns-in_default-clause-twin_cut
returns-in_default-clause-twin_cut c =
    let gs = c.args.twin.now.head.items in let us = c.args.twin.now.tail.items in let ns = c.args.twin_marks.now.items in
    let both = c.requires.both.1 in
    let lg : length gs ≡ c.args.twin.now.head.len = search rules in
    let lu : length us ≡ c.args.twin.now.tail.len = search rules in
    let lz = zip-long gs us (omega (arith, lg, lu, both.lengths)) ∙ lg in
    let none : c.args.bound ≡ None = search rules in
    uncut (crack_at head_of c.args.bound) c.args.twin.now c.args.twin_marks.now (
    subst (λ (b : Option Bound). IsLaidOut (crack_at head_of b (pieces_between 0 (zip gs us) ns)) (zip gs us) ns) (sym none)
    (record { pieces = refl; order = subst (λ (j : ℕ). InOrder 0 j ns) (sym lz) both.order; rising = both.rising }))

pub crack_new_twins-requires-clause-new : goal.crack_new_twins-requires-clause-new
crack_new_twins-requires-clause-new c =
    let none : Mark = record { bound = Before (pos 0); at = 0 } in
    let b = c.in-Some.bound in let ms = c.args.marks.now.items in let k = c.marks_below.result in
    let below : k ≡ marks_below ms b = search rules in
    let vm : c.deref.result.now ≡ ms = search rules in
    let within : k ≤ length c.deref.result.now = search rules in
    let off : c.is_marked.result ≡ false = search rules in
    new-at b ms k none (sym below) c.requires.both.0.rising (subst (λ (l : List Mark). 0 < k → same_bound b (get_or l (k - 1) none).bound ≡ false) vm (not-before k b c.deref.result.now none c.is_marked.result within c.is_marked.ensures off))

pub returns-else-not-is_marked-clause-cut : goal.returns-else-not-is_marked-clause-cut
returns-else-not-is_marked-clause-cut c =
    let none : Mark = record { bound = Before (pos 0); at = 0 } in
    let hs = c.args.lists.now.head.items in let ts = c.args.lists.now.tail.items in
    let b = c.in-Some.bound in let ms = c.args.marks.now.items in let k = c.marks_below.result in
    let both = c.requires.both.0 in
    let below : k ≡ marks_below ms b = search rules in
    let vm : c.deref.result.now ≡ ms = search rules in
    let on : c.is_marked.result ≡ true = search rules in
    let ln : length hs ≡ c.args.lists.now.head.len = search rules in
    let lt : length ts ≡ c.args.lists.now.tail.len = search rules in
    let lz = zip-long hs ts (omega (arith, ln, lt, both.lengths)) ∙ ln in
    let o : InOrder 0 (length (zip hs ts)) ms = subst (λ (j : ℕ). InOrder 0 j ms) (sym lz) both.order in
    let h = c.is_marked.ensures.0 on in
    uncut (crack_at head_of c.args.bound) c.args.lists.now c.args.marks.now (
    subst (λ (x : Option Bound). IsLaidOut (crack_at head_of x (pieces_between 0 (zip hs ts) ms)) (zip hs ts) ms) (sym c.in-Some.is)
    (unchanged b (zip hs ts) ms k none o both.rising below h.0 (subst (λ (l : List Mark). same_bound b (get_or l (k - 1) none).bound ≡ true) vm (h.1 none))))

pub returns-else-not-is_marked-clause-twin_cut : goal.returns-else-not-is_marked-clause-twin_cut
returns-else-not-is_marked-clause-twin_cut c =
    let none : Mark = record { bound = Before (pos 0); at = 0 } in
    let gs = c.args.twin.now.head.items in let us = c.args.twin.now.tail.items in let ns = c.args.twin_marks.now.items in
    let b = c.in-Some.bound in let ms = c.args.marks.now.items in let k = c.marks_below.result in
    let both = c.requires.both.1 in let sm = sym c.requires.same.same_marks in
    let below : k ≡ marks_below ms b = search rules in
    let vm : c.deref.result.now ≡ ms = search rules in
    let on : c.is_marked.result ≡ true = search rules in
    let lg : length gs ≡ c.args.twin.now.head.len = search rules in
    let lu : length us ≡ c.args.twin.now.tail.len = search rules in
    let lz = zip-long gs us (omega (arith, lg, lu, both.lengths)) ∙ lg in
    let o : InOrder 0 (length (zip gs us)) ns = subst (λ (j : ℕ). InOrder 0 j ns) (sym lz) both.order in
    let h = c.is_marked.ensures.0 on in
    uncut (crack_at head_of c.args.bound) c.args.twin.now c.args.twin_marks.now (
    subst (λ (x : Option Bound). IsLaidOut (crack_at head_of x (pieces_between 0 (zip gs us) ns)) (zip gs us) ns) (sym c.in-Some.is)
    (unchanged b (zip gs us) ns k none o both.rising (below ∙ ap (λ (l : List Mark). marks_below l b) sm) h.0 (subst (λ (l : List Mark). same_bound b (get_or l (k - 1) none).bound ≡ true) (vm ∙ sm) (h.1 none))))
