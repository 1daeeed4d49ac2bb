use Rattle.std.proofs.Common.{◌∙◌, sym, ap, subst, ℕ, ◌≤◌, ◌≡◌, length, IfOk}
use Rattle.sw_cli.specs.Run.{Start}
use Rattle.sw_cli.proofs.workload.Workload.stand_ins.Goals as goal

pub stand_ins-requires : goal.stand_ins-requires
stand_ins-requires g c = subst (λ (n : ℕ). n ≤ 8) (sym c.len.ensures.value) c.self.invariant.2.wide

pub returns-clause-many : goal.returns-clause-many
returns-clause-many g c =
    subst (λ (n : ℕ). IfOk c.stand_ins.result (λ s. length s ≡ n)) (c.len.ensures.value ∙ ap (λ (p : ℕ × Start). length p.1.columns) c.self.view_is) c.stand_ins.ensures.many
