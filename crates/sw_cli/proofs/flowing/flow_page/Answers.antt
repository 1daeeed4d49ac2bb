use Rattle.std.proofs.Common.{length}
use Rattle.sw_cli.specs.Outcomes.{line_before}
use Rattle.sw_cli.proofs.Pages.{all_made, call_below, failed_before, none_made, page_failed, page_more}
use Rattle.sw_cli.proofs.flowing.flow_page.Goals as goal

pub returns-in_err-write_divider : goal.returns-in_err-write_divider
returns-in_err-write_divider g c =
    let e = failed_before c.args.page.schema.now c.args.page.calls c.args.session.now (line_before c.args.page.place) _ _ _ _ c.from_residual.result c.requires.none c.requires.own c.in_err-write_divider.ensures c.from_residual.ensures.1 in
    record { told = e.0; done = e.1; out = e.2 }

pub loop-call-init : goal.loop-call-init
loop-call-init g c = none_made c.args.page.schema.now c.args.page.calls c.args.session.now (line_before c.args.page.place) _ _ _ _ c.requires.none c.requires.own c.in_ok-write_divider.ensures

pub call-told-requires-after_bounds : goal.call-told-requires-after_bounds
call-told-requires-after_bounds g c κs there =
    let w = c.loop-call.invariant in
    call_below (length g.J.Naming.columns) c.args.page.calls w.made c.loop-call.calls c.next.new.self c.in-Some.call w.parts c.in-Some.ensures.some c.requires.below

pub loop-call-preserved : goal.loop-call-preserved
loop-call-preserved g c =
    let m = c.call-told.ensures in
    page_more c.args.page.schema.now c.args.page.calls c.args.session.now.0 (line_before c.args.page.place) _ _ c.loop-call.calls c.next.new.self c.in-Some.call c.call-told.result c.loop-call.session c.call-told.new.self _ _ _ _ c.in-Some.ensures.some c.loop-call.invariant
    m.number m.mine m.err m.own m.refused c.in_ok-written.ensures

pub returns-in_err-written : goal.returns-in_err-written
returns-in_err-written g c =
    let m = c.call-told.ensures in
    let e = page_failed c.args.page.schema.now c.args.page.calls c.args.session.now.0 (line_before c.args.page.place) _ _ c.loop-call.calls c.next.new.self c.in-Some.call c.call-told.result c.loop-call.session c.call-told.new.self _ _ _ _ c.from_residual-in_err-written.result c.in-Some.ensures.some c.loop-call.invariant
    m.number m.mine m.err m.own m.refused c.in_err-written.ensures c.from_residual-in_err-written.ensures.1 in
    record { told = e.0; done = e.1; out = e.2 }

pub returns : goal.returns
returns g c =
    let e = all_made c.args.page.schema.now c.args.page.calls c.loop-call.calls _ _ (line_before c.args.page.place) _ _ _ _ (c.next.ensures.none c.in_default.is) c.loop-call.invariant in
    record { told = e.0; done = e.1; out = e.2 }
