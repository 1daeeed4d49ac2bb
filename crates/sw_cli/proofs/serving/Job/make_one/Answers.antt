use Rattle.std.proofs.Common.{rules, ◌≡◌, ◌<◌, get_or, length, sym, ap, ◌∙◌, subst, arith}
use Rattle.sw_query.specs.declared.query.Call.{Call}
use Rattle.sw_cli.specs.Served.{Making}
use Rattle.sw_cli.proofs.Outcomes.{at_default}
use Rattle.sw_cli.proofs.Together.{made_one}
use Rattle.sw_cli.proofs.serving.Job.make_one.Goals as goal

pub invariant_of-self : goal.invariant_of-self
invariant_of-self g c =
    let i = c.self.invariant in
    let cs = c.self.inside.calls.now in
    let ts = c.self.inside.told.items in
    let t = c.call-answer.result in
    let less : length ts < length cs = subst (λ (m : Making). length m.told < length m.calls) (sym c.self.view_is) c.requires.left in
    let len : c.len.result ≡ length ts = search rules in
    let call : Call = get_or cs c.len.result c.index-calls-len.result in
    let is : call ≡ get_or cs (length ts) call = at_default cs c.len.result c.index-calls-len.result (omega (arith, len, less)) ∙ ap (λ n. get_or cs n call) len in
    (rw c.push_reserved.ensures.items (made_one cs ts call t c.self.inside.session c.call-answer.new.self i.0 less is c.call-answer.ensures.mine c.call-answer.ensures.err c.call-answer.ensures.own c.call-answer.ensures.refused), search rules, i.2)
