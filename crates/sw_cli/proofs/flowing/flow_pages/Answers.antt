use Rattle.std.proofs.Common.{rules, refl, ◌≡◌, ◌∙◌, ◌+◌, ◌<◌, [], sym, ap, subst, arith, drop, get_or, length, slice_set}
use Rattle.std.proofs.lemmas.List.{drop-set-lt, length-set}
use Rattle.sw_engine.specs.Desk.{InOrder}
use Rattle.sw_engine.specs.Published.{Shown}
use Rattle.sw_cli.specs.Script.{AllCallsBelow}
use Rattle.sw_cli.proofs.Lists.{length_push, same_at, same_later}
use Rattle.sw_cli.proofs.Outcomes.{at_default}
use Rattle.sw_cli.proofs.Pages.{pages_on, pages_skip, reached_none}
use Rattle.sw_cli.proofs.Waiting.{wrote_nothing}
use Rattle.sw_cli.proofs.flowing.flow_pages.Goals as goal

pub loop-ticket-init : goal.loop-ticket-init
loop-ticket-init g c =
    let none = c.args.seats.none in
    record {
      order = rw none (search rules);
      many = rw none (search rules);
      room = rw none (search rules);
      left = refl;
      size = refl;
      reached = rw none (reached_none _ (g.W.Sink.taken c.args.out.now) (g.W.Sink.failed c.args.out.now) (record { whole = (wrote_nothing (g.W.Sink.taken c.args.out.now), refl); part = tt }));
    }

pub loop-ticket-preserved-then-is_err : goal.loop-ticket-preserved-then-is_err
loop-ticket-preserved-then-is_err g c =
    let i = c.loop-ticket.invariant in
    let xs = c.loop-ticket.done.items in
    let blocks = c.args.pages.blocks.items in
    let t = c.in-Some.ticket in
    let e = c.push_reserved.ensures.items in
    let steps = c.in-Some.ensures.steps.0 in
    let h = subst (InOrder (1 + length xs)) steps i.order in
    let k : length c.push_reserved.new.self.items ≡ length xs + 1 = ap length e ∙ length_push xs t in
    let inside : length xs < length blocks = omega (arith, i.many, ap length steps) in
    record {
      order = subst (λ n. InOrder n c.next.new.self.rest.items) (let s : 1 + length xs + 1 ≡ 1 + length c.push_reserved.new.self.items = omega (arith, k) in s) h.2;
      many = omega (arith, i.many, k, ap length steps);
      room = omega (arith, i.room, k, ap length steps, c.push_reserved.ensures.capacity);
      left = subst (λ n. drop n c.loop-ticket.blocks.items ≡ drop n blocks) (sym k) (same_later (length xs) c.loop-ticket.blocks.items blocks [] (omega (arith, inside, i.size)) inside i.left);
      size = i.size;
      reached = rw e (pages_skip c.args.pages.schema.now blocks xs _ _ c.loop-ticket.flown (get_or blocks (length xs) []) t _ _ (sym c.is_err.ensures.value ∙ c.if-is_err.true) inside (at_default blocks (length xs) [] inside) i.reached h.0 h.1.none h.1.own);
    }

pub flow_page-flown-requires-clause-below : goal.flow_page-flown-requires-clause-below
flow_page-flown-requires-clause-below g c κs there =
    let i = c.loop-ticket.invariant in
    let n = length c.loop-ticket.done.items in
    let blocks = c.args.pages.blocks.items in
    let was = c.loop-ticket.blocks.items in
    let calls = c.take-calls.result in
    let inside : n < length blocks = omega (arith, i.many, ap length c.in-Some.ensures.steps.0) in
    let at : calls ≡ get_or was n calls = search rules in
    let here : calls ≡ get_or blocks n calls = at ∙ same_at n was blocks calls (omega (arith, inside, i.size)) inside i.left in
    subst (AllCallsBelow (length g.J.Naming.columns)) (sym here) (c.requires.below n calls inside)

pub loop-ticket-preserved : goal.loop-ticket-preserved
loop-ticket-preserved g c =
    let i = c.loop-ticket.invariant in
    let xs = c.loop-ticket.done.items in
    let blocks = c.args.pages.blocks.items in
    let t = c.end.result in
    let e = c.push_reserved-in-loop-ticket.ensures.items in
    let steps = c.in-Some.ensures.steps.0 in
    let h = subst (InOrder (1 + length xs)) steps i.order in
    let k : length c.push_reserved-in-loop-ticket.new.self.items ≡ length xs + 1 = ap length e ∙ length_push xs t in
    let inside : length xs < length blocks = omega (arith, i.many, ap length steps) in
    let f = c.flow_page-flown.ensures in
    let place : c.len-place.result ≡ length xs = search rules in
    let calls = c.take-calls.result in
    let was = c.loop-ticket.blocks.items in
    let within : length xs < length was = omega (arith, inside, i.size) in
    let at : calls ≡ get_or was (length xs) calls = search rules in
    let here : calls ≡ get_or blocks (length xs) calls = at ∙ same_at (length xs) was blocks calls within inside i.left in
    let set = slice_set was c.len-place.result c.take-calls.new.self in
    let later : drop (length xs + 1) set ≡ drop (length xs + 1) blocks =
    drop-set-lt (length xs + 1) was c.len-place.result c.take-calls.new.self (omega (arith, place)) ∙ same_later (length xs) was blocks [] within inside i.left in
    record {
      order = subst (λ n. InOrder n c.next.new.self.rest.items) (let s : 1 + length xs + 1 ≡ 1 + length c.push_reserved-in-loop-ticket.new.self.items = omega (arith, k) in s) h.2;
      many = omega (arith, i.many, k, ap length steps);
      room = omega (arith, i.room, k, ap length steps, c.push_reserved-in-loop-ticket.ensures.capacity);
      left = subst (λ n. drop n set ≡ drop n blocks) (sym k) later;
      size = length-set was c.len-place.result c.take-calls.new.self ∙ i.size;
      reached = rw e (pages_on c.args.pages.schema.now blocks xs _ _ c.loop-ticket.flown calls c.len-place.result c.attach-session.result c.flow_page-flown.new.session t _ _ _ _ c.flow_page-flown.result (sym c.is_err.ensures.value ∙ c.if-is_err.false) inside here place c.end.ensures i.reached
          (ap (λ (s : Shown). s.0) c.attach-session.ensures ∙ h.0) (f.told, f.done, f.out));
    }
