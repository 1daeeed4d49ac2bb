use Rattle.std.proofs.Common.{◌≡◌, ◌∙◌, ap, subst, sym, Bool, true, length, All, arith}
use Rattle.std.proofs.lemmas.Bool.Decides.{nat_tests}
use Rattle.std.proofs.lemmas.Grind.{common_steps}
use Rattle.sw_set.specs.Live.{Standing}
use Rattle.sw_table.proofs.LiveFlags.{false-none, false-nowhere}
use Rattle.sw_set.proofs.area.live.LiveRows.is_load.Goals as goal

pub returns-then-self-eq0 : goal.returns-then-self-eq0
returns-then-self-eq0 c = (
  λ e.
      (let none : length c.self.inside.later.items ≡ 0 = grind (arith, nat_tests, common_steps, e) in
      (sym (ap (λ (v : Standing). length v.later) c.self.view_is) ∙ none, subst (λ (v : Standing). All (λ (b : Bool). b ≡ true) v.flags) c.self.view_is (false-none c.self.inside.flags.items (sym c.self.invariant ∙ c.if-self-eq0.true)))),
  λ p.
      (let none : length c.self.inside.later.items ≡ 0 = ap (λ (v : Standing). length v.later) c.self.view_is ∙ p.0 in
      grind (arith, nat_tests, common_steps, none)),
)

pub returns-else-self-eq0 : goal.returns-else-self-eq0
returns-else-self-eq0 c = (
  λ e. (let none : c.self.inside.gone ≡ 0 = grind (arith, nat_tests, e) in absurd (c.if-self-eq0.false none)),
  λ p. absurd (c.if-self-eq0.false (c.self.invariant ∙ false-nowhere c.self.inside.flags.items (subst (λ (v : Standing). All (λ (b : Bool). b ≡ true) v.flags) (sym c.self.view_is) p.1))),
)
