use Rattle.std.proofs.Common.{rules, ◌≡◌, ◌∙◌, true, Some, Err, sym, ap}
use Rattle.sw_query.specs.declared.query.Call.{Call}
use Rattle.sw_arrays.specs.Asked.{Answers, call_asked}
use Rattle.sideways_c.specs.Shown.{Shown, has_session}
use Rattle.sideways_c.proofs.Unmade.{asked_fault}
use Rattle.sideways_c.proofs.asking.make.Goals as goal

pub returns-in-Err : goal.returns-in-Err
returns-in-Err c =
    let old : Shown = record { engine = c.state.inside.solo; text = c.state.inside.text.items; kept = c.state.inside.kept } in
    let view : old ≡ c.args.state.now = c.state.view_is in
    let has : c.state.inside.solo ≡ Some c.in-Some.solo = search rules in
    let opened : has_session c.args.request.session c.in-Some.solo ≡ true = search rules in
    let answers : Answers (λ (x : Call). x) (Err c.in-Err.fault) (call_asked c.in-Some.solo.history.columns c.args.request.asked) = search rules in
    let after : record old { engine = Some c.in-Some.solo } ≡ old = ap (λ o. record old { engine = o }) (sym has) in
    asked_fault c.args.request.session c.args.request.asked c.in-Some.solo c.args.state.now _ c.in-Err.fault c.fault_code.result
    (ap (λ (x : Shown). x.engine) (sym view) ∙ has) opened answers c.fault_code.ensures (after ∙ view)
