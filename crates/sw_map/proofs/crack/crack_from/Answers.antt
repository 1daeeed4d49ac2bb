use Rattle.std.proofs.Common.{rules, ◌≡◌, ◌-◌, ◌<◌, ◌≤◌, length, pos, true, false, List, get_or, sym, arith, subst}
use Rattle.sw_query.specs.declared.bound.Bound.TheVariants.{Before}
use Rattle.sw_query.specs.Bounds.{bound_below, same_bound}
use Rattle.sw_kernel.specs.declared.mark.Mark.{Mark}
use Rattle.sw_kernel.specs.Flat.{marks_below}
use Rattle.sw_map.proofs.Finding.{below-rises, new-at, not-before}
use Rattle.sw_map.proofs.crack.crack_from.Goals as goal

pub crack_two-requires-clause-new : goal.crack_two-requires-clause-new
crack_two-requires-clause-new c =
    let none : Mark = record { bound = Before (pos 0); at = 0 } in
    let b = c.args.lower in let d = c.in-Some.upper in let ms = c.args.marks.now.items in
    let k = c.marks_below-k.result in let j = c.marks_below-j.result in
    let below : k ≡ marks_below ms b = search rules in
    let within : k ≤ length c.deref-2.result.now = search rules in
    let vm : c.deref-2.result.now ≡ ms = search rules in
    let off : c.is_marked.result ≡ false = search rules in
    let below' : j ≡ marks_below ms d = search rules in
    let within' : j ≤ length c.deref-4.result.now = search rules in
    let vm' : c.deref-4.result.now ≡ ms = search rules in
    let off' : c.is_marked-2.result ≡ false = search rules in (
      new-at b ms k none (sym below) c.requires.rising (subst (λ (l : List Mark). 0 < k → same_bound b (get_or l (k - 1) none).bound ≡ false) vm (not-before k b c.deref-2.result.now none c.is_marked.result within c.is_marked.ensures off)),
      new-at d ms j none (sym below') c.requires.rising (subst (λ (l : List Mark). 0 < j → same_bound d (get_or l (j - 1) none).bound ≡ false) vm' (not-before j d c.deref-4.result.now none c.is_marked-2.result within' c.is_marked-2.ensures off')),
    )

pub crack_two-requires-clause-places : goal.crack_two-requires-clause-places
crack_two-requires-clause-places c =
    let b = c.args.lower in let d = c.in-Some.upper in let ms = c.args.marks.now.items in
    let below : c.marks_below-k.result ≡ marks_below ms b = search rules in
    let below' : c.marks_below-j.result ≡ marks_below ms d = search rules in
    let within : c.marks_below-j.result ≤ length ms = search rules in
    let h : bound_below b d ≡ true = search rules in
    (omega (arith, below, below', below-rises b d ms h), search rules)
