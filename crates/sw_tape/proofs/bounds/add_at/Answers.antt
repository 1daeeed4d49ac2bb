use Rattle.std.proofs.Common.{rules, ◌≡◌, true, false, drop, sym, ap, subst, ◌∙◌, arith}
use Rattle.sw_kernel.specs.Tapes.{IsRising}
use Rattle.sw_tape.specs.Bounds.{is_among, is_first}
use Rattle.sw_tape.proofs.Places.{place-within, rising-insert, among-insert, among-first, same-again}
use Rattle.sw_tape.proofs.bounds.add_at.Goals as goal

pub put-requires-clause-within : goal.put-requires-clause-within
put-requires-clause-within c =
    let bs = c.args.bounds.now.items in
    let h = place-within c.args.bound bs c.args.place c.requires.place in
    omega (arith, h)

pub returns-then-not-stands_at-clause-rising : goal.returns-then-not-stands_at-clause-rising
returns-then-not-stands_at-clause-rising c =
    let bs = c.args.bounds.now.items in let k = c.args.place in
    let none : is_first c.args.bound (drop k bs) ≡ false = search rules in
    subst IsRising (sym c.put.ensures.items) (rising-insert c.args.bound bs k c.requires.rising c.requires.place none)

pub returns-then-not-stands_at-clause-among : goal.returns-then-not-stands_at-clause-among
returns-then-not-stands_at-clause-among c =
    let bs = c.args.bounds.now.items in let k = c.args.place in
    λ b. ap (is_among b) c.put.ensures.items ∙ among-insert b c.args.bound bs k (place-within c.args.bound bs k c.requires.place)

pub returns-else-not-stands_at-clause-among : goal.returns-else-not-stands_at-clause-among
returns-else-not-stands_at-clause-among c =
    let bs = c.args.bounds.now.items in let k = c.args.place in
    let there : is_first c.args.bound (drop k bs) ≡ true = search rules in
    λ b. sym (same-again b c.args.bound bs (among-first c.args.bound bs k c.requires.rising c.requires.place ∙ there))
