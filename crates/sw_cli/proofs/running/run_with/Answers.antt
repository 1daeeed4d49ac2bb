use Rattle.std.proofs.Common.{sym, subst, Ok}
use Rattle.sw_spine.specs.History.{History}
use Rattle.sw_cli.specs.Answers.{RunsBy}
use Rattle.sw_cli.proofs.running.run_with.Goals as goal

pub returns-in-Ok : goal.returns-in-Ok
returns-in-Ok g c =
    let r = c.run_told in
    subst (λ (h : History). RunsBy c.args.options.now g.T.Source c.args.table.now r.new.table g.S.Source c.args.script.now r.new.script g.W.Sink c.args.out.now r.new.out (Ok h)) (sym c.into_history.ensures) (rw c.in-Ok.is at r.ensures)

pub returns-in-Err : goal.returns-in-Err
returns-in-Err g c = rw c.in-Err.is at c.run_told.ensures
