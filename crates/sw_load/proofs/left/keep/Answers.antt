use Rattle.std.proofs.Common.{◌≡◌, ◌∙◌, ◌+◌, ◌++◌, List, ℕ, ap, length, length-append, refl, subst, sym, arith}
use Rattle.sw_table.specs.declared.row.Row.{Row}
use Rattle.sw_table.specs.Kept.{kept}
use Rattle.sw_load.specs.Gone.{AreGoneAfter, ArePlaces, left_of}
use Rattle.sw_load.proofs.Places.{places-more, without-append, without-long}
use Rattle.sw_load.proofs.left.keep.Goals as goal

-- there are as many rows as flags and places that are gone
many : (xs ys : List Row) (gs : List ℕ) (n : ℕ) → ArePlaces 0 (length xs) gs → n ≡ length (left_of xs gs ++ ys) → n + length gs ≡ length (xs ++ ys)
many xs ys gs n a is =
    let left = without-long xs 0 (length xs) gs refl a in
    omega (arith, left, is, length-append (left_of xs gs) ys, length-append xs ys)

pub gone_after-requires-clause-places : goal.gone_after-requires-clause-places
gone_after-requires-clause-places c =
    let xs = c.args.all.now.items in let ys = c.args.later.now.items in let gs = c.args.gone.now.items in let n = length c.args.live.now in
    let all = many xs ys gs n c.requires.places c.requires.flags in
    subst (λ (v : List ℕ). ArePlaces 0 (n + length v) v) (sym c.deref.ensures.value) (places-more 0 (length xs) (n + length gs) gs (omega (arith, all, length-append xs ys)) c.requires.places)

pub gone_after-requires-clause-small : goal.gone_after-requires-clause-small
gone_after-requires-clause-small c =
    let all = many c.args.all.now.items c.args.later.now.items c.args.gone.now.items (length c.args.live.now) c.requires.places c.requires.flags in
    omega (arith, all, ap length c.deref.ensures.value, ap length c.in_ok-extend.ensures.ok, c.len-many.ensures.many, c.len-many.ensures.few)

pub returns-in-Ok-clause-places : goal.returns-in-Ok-clause-places
returns-in-Ok-clause-places c =
    let xs = c.args.all.now.items in let ys = c.args.later.now.items in let gs = c.args.gone.now.items in let n = length c.args.live.now in
    let all : n + length gs ≡ length c.extend.new.self.items = many xs ys gs n c.requires.places c.requires.flags ∙ sym (ap length c.in_ok-extend.ensures.ok) in
    let after : AreGoneAfter c.args.live.now gs c.in-Ok.now.items = subst (λ (v : List ℕ). AreGoneAfter c.args.live.now v c.in-Ok.now.items) c.deref.ensures.value c.in-Ok.ensures in
    subst (λ (m : ℕ). ArePlaces 0 m c.in-Ok.now.items) all after.places

pub returns-in-Ok-clause-ok : goal.returns-in-Ok-clause-ok
returns-in-Ok-clause-ok c =
    let xs = c.args.all.now.items in let ys = c.args.later.now.items in let gs = c.args.gone.now.items in let n = length c.args.live.now in
    let all : n + length gs ≡ length (xs ++ ys) = many xs ys gs n c.requires.places c.requires.flags in
    let after : AreGoneAfter c.args.live.now gs c.in-Ok.now.items = subst (λ (v : List ℕ). AreGoneAfter c.args.live.now v c.in-Ok.now.items) c.deref.ensures.value c.in-Ok.ensures in
    ap (λ (v : List Row). left_of v c.in-Ok.now.items) c.in_ok-extend.ensures.ok
    ∙ after.items (xs ++ ys) (sym all)
    ∙ ap (kept c.args.live.now) (without-append xs ys 0 (length xs) gs refl c.requires.places)
