use Rattle.std.proofs.Common.{rules, ◌≡◌, true, false, drop, sym, ap, subst, ◌∙◌, arith}
use Rattle.sw_kernel.specs.Tapes.{IsRising}
use Rattle.sw_tape.specs.Bounds.{IsPlaceOf, is_among, is_first}
use Rattle.sw_tape.proofs.Places.{place-within, place-order, rising-insert, rising-two, among-first, among-one, among-two}
use Rattle.sw_tape.proofs.bounds.add_new.Goals as goal

pub put-requires-clause-within : goal.put-requires-clause-within
put-requires-clause-within c =
    let h = place-within c.args.lower c.args.bounds.now.items c.args.low c.requires.place in
    omega (arith, h)

pub put_two-requires-clause-within : goal.put_two-requires-clause-within
put_two-requires-clause-within c =
    let bs = c.args.bounds.now.items in let m = c.count_below-high.result in
    let above : IsPlaceOf c.args.upper m bs = search rules in
    let h = place-within c.args.upper bs m above in
    (place-order c.args.lower c.args.upper bs c.args.low m c.requires.place above c.requires.below, omega (arith, h))

pub returns-then-stands_at-clause-rising : goal.returns-then-stands_at-clause-rising
returns-then-stands_at-clause-rising c =
    subst IsRising (sym c.put.ensures.items) (rising-insert c.args.lower c.args.bounds.now.items c.args.low c.requires.rising c.requires.place c.requires.new)

pub returns-then-stands_at-clause-among : goal.returns-then-stands_at-clause-among
returns-then-stands_at-clause-among c =
    let bs = c.args.bounds.now.items in let m = c.count_below-high.result in
    let above : IsPlaceOf c.args.upper m bs = search rules in
    let there : is_first c.args.upper (drop m bs) ≡ true = search rules in
    λ b. ap (is_among b) c.put.ensures.items ∙
    among-one c.args.lower c.args.upper bs c.args.low (place-within c.args.lower bs c.args.low c.requires.place) (among-first c.args.upper bs m c.requires.rising above ∙ there) b

pub returns-else-stands_at-clause-rising : goal.returns-else-stands_at-clause-rising
returns-else-stands_at-clause-rising c =
    let bs = c.args.bounds.now.items in let m = c.count_below-high.result in
    let above : IsPlaceOf c.args.upper m bs = search rules in
    let none : is_first c.args.upper (drop m bs) ≡ false = search rules in
    subst IsRising (sym c.put_two.ensures.items) (rising-two c.args.lower c.args.upper bs c.args.low m c.requires.rising c.requires.place c.requires.new above none c.requires.below)

pub returns-else-stands_at-clause-among : goal.returns-else-stands_at-clause-among
returns-else-stands_at-clause-among c =
    let bs = c.args.bounds.now.items in let low = c.args.low in let m = c.count_below-high.result in
    let above : IsPlaceOf c.args.upper m bs = search rules in
    let order = place-order c.args.lower c.args.upper bs low m c.requires.place above c.requires.below in
    λ b. ap (is_among b) c.put_two.ensures.items ∙ among-two c.args.lower c.args.upper bs low m order (place-within c.args.upper bs m above) b
