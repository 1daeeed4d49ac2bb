use Rattle.std.proofs.Common.{rules, ◌≡◌, ◌-◌, ◌<◌, length, ℕ, pos, true, false, List, zip, get_or, sym, ◌∙◌, arith, subst}
use Rattle.sw_query.specs.declared.bound.Bound.TheVariants.{Before}
use Rattle.sw_query.specs.Bounds.{same_bound}
use Rattle.sw_kernel.specs.declared.mark.Mark.{Mark}
use Rattle.sw_kernel.specs.Flat.{marks_below}
use Rattle.sw_kernel.specs.Flat.{InOrder}
use Rattle.sw_map.proofs.Layouts.{zip-long}
use Rattle.sw_map.proofs.Finding.{new-at, not-before}
use Rattle.sw_map.proofs.Cracking.{unchanged}
use Rattle.sw_map.proofs.crack.crack.Goals as goal

pub crack_new-requires-clause-new : goal.crack_new-requires-clause-new
crack_new-requires-clause-new c =
    let none : Mark = record { bound = Before (pos 0); at = 0 } in
    let b = c.args.bound in let ms = c.args.marks.now.items in let k = c.args.k in
    let below : k ≡ marks_below ms b = search rules in
    let vm : c.deref.result.now ≡ ms = search rules in
    let off : c.is_marked.result ≡ false = search rules in
    new-at b ms k none (sym below) c.requires.rising (subst (λ (l : List Mark). 0 < k → same_bound b (get_or l (k - 1) none).bound ≡ false) vm (not-before k b c.deref.result.now none c.is_marked.result (omega arith) c.is_marked.ensures off))

pub returns-else-not-is_marked-clause-cracked : goal.returns-else-not-is_marked-clause-cracked
returns-else-not-is_marked-clause-cracked c =
    let none : Mark = record { bound = Before (pos 0); at = 0 } in
    let hs = c.args.head.now.items in let ts = c.args.tail.now.items in
    let b = c.args.bound in let ms = c.args.marks.now.items in let k = c.args.k in
    let below : k ≡ marks_below ms b = search rules in
    let vm : c.deref.result.now ≡ ms = search rules in
    let on : c.is_marked.result ≡ true = search rules in
    let ln : length hs ≡ c.args.head.now.len = search rules in
    let lt : length ts ≡ c.args.tail.now.len = search rules in
    let same : length hs ≡ length ts = omega arith in
    let lz : length (zip hs ts) ≡ c.args.head.now.len = zip-long hs ts same ∙ ln in
    let o : InOrder 0 (length (zip hs ts)) ms = subst (λ (j : ℕ). InOrder 0 j ms) (sym lz) c.requires.order in
    let h = c.is_marked.ensures.0 on in
    unchanged b (zip hs ts) ms k none o c.requires.rising below h.0 (subst (λ (l : List Mark). same_bound b (get_or l (k - 1) none).bound ≡ true) vm (h.1 none))
