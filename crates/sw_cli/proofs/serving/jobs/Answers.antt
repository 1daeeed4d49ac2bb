use Rattle.std.proofs.Common.{rules, ◌≡◌, ◌+◌, ◌<◌, [], ◌∷◌, ◌++◌, length, map, take, get_or, sym, ap, ◌∙◌, subst, arith}
use Rattle.sw_engine.specs.Desk.{AreCounted, InOrder}
use Rattle.sw_engine.specs.Own.{own_of}
use Rattle.sw_engine.specs.Published.{Shown}
use Rattle.sw_cli.specs.Script.{AllCallsBelow}
use Rattle.sw_cli.proofs.Lists.{counted_push, length_map, length_push, map_push, take_push}
use Rattle.sw_cli.proofs.Together.{made_none}
use Rattle.sw_cli.proofs.serving.jobs.Goals as goal

pub invariant_of-push : goal.invariant_of-push
invariant_of-push g c =
    let i = c.loop-ticket.invariant in
    let xs = c.loop-ticket.jobs.items in
    let steps = c.in-Some.ensures.steps.0 in
    let h = subst (InOrder (1 + length xs)) steps i.order in
    let cs = c.calls-calls.result.now in
    let here : cs ≡ get_or c.args.blocks.now (length xs) cs = search rules in
    let inside : length xs < length c.args.blocks.now = omega (arith, i.many, ap length steps) in
    let empty : c.in_ok-told.told.items ≡ [] = search rules in (
      rw empty (made_none cs c.attach.result (ap (λ (s : Shown). s.1) c.attach.ensures ∙ h.1.none) (ap own_of c.attach.ensures ∙ h.1.own)),
      search rules,
      subst (AllCallsBelow (length g.J.Naming.columns)) (sym here) (c.requires.blocks.below (length xs) cs inside),
    )

pub loop-ticket-preserved : goal.loop-ticket-preserved
loop-ticket-preserved g c =
    let i = c.loop-ticket.invariant in
    let xs = c.loop-ticket.jobs.items in
    let e = c.in_ok-push.ensures.items in
    let steps = c.in-Some.ensures.steps.0 in
    let h = subst (InOrder (1 + length xs)) steps i.order in
    let k : length c.push.new.self.items ≡ length xs + 1 = ap length e ∙ length_push xs _ in
    let here : c.calls-calls.result.now ≡ get_or c.args.blocks.now (length xs) c.calls-calls.result.now = search rules in
    let inside : length xs < length c.args.blocks.now = omega (arith, i.many, ap length steps) in
    record {
      order = subst (λ n. InOrder n c.next.new.self.rest.items) (let s : 1 + length xs + 1 ≡ 1 + length c.push.new.self.items = omega (arith, k) in s) h.2;
      many = omega (arith, i.many, k, ap length steps);
      numbers = rw e (subst (AreCounted 1) (sym (map_push (λ j. j.session.0) xs _)) (counted_push 1 (1 + length xs) (map (λ j. j.session.0) xs) _ i.numbers (omega (arith, length_map (λ j. j.session.0) xs)) (ap (λ (s : Shown). s.0) c.attach.ensures ∙ h.0)));
      calls =
          take_push c.args.blocks.now (map (λ j. j.calls) xs) (map (λ j. j.calls) c.push.new.self.items) c.calls-calls.result.now (length xs) i.calls inside (ap (map (λ j. j.calls)) e ∙ (map_push (λ j. j.calls) xs _ ∙ ap (λ v. map (λ j. j.calls) xs ++ v ∷ []) here)) ∙ ap (λ n. take n c.args.blocks.now) (sym k);
    }
