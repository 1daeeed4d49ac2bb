use Rattle.std.proofs.Common.{◌≡◌, ◌∙◌, ap, length, sym, subst}
use Rattle.sw_spine.specs.Books.{Books, new_books, updates, waits_for}
use Rattle.sw_solo.specs.Seats.{AreSeated, AreTableCuts}
use Rattle.sw_solo.proofs.Stands.{seats_new}
use Rattle.sw_solo.proofs.solo.Solo.open.Goals as goal

pub invariant_of-result : goal.invariant_of-result
invariant_of-result g c =
    let b : Books = new_books c.args.schema c.args.rows.items c.args.limit in
    let is : c.in_ok-spine.spine ≡ b = c.in_ok-spine.ensures.1 in (
      (λ k. ap (waits_for k) is),
      subst (λ (x : Books). AreSeated x c.in-Ok.seats.items) (sym is) (seats_new c.args.schema c.args.rows.items c.args.limit c.len-columns.result c.update_count.result c.in-Ok.seats.items c.in-Ok.ensures c.len-columns.ensures.value (c.update_count.ensures ∙ ap (λ (x : Books). length (updates x)) is)),
      subst (λ (x : Books). AreTableCuts x c.args.cuts) (sym is) (record { lists = c.requires.lists; lawful = c.requires.cuts }),
      sym (ap (λ (x : Books). x.sessions) is),
    )
