use Rattle.std.proofs.Common.{rules, ◌≡◌, subst}
use Rattle.sw_histories.specs.Explained.{IsExplained}
use Rattle.sideways_c.proofs.histories.explained.Goals as goal

pub returns-in-Ok : goal.returns-in-Ok
returns-in-Ok c =
    let e = c.in-Ok.ensures in
    let same : e.2.0 ≡ c.explain_file.new.out.inner.items = search rules in
    (e.0, e.1, subst (IsExplained e.0 c.in-Ok.status) same e.2.1)
