use Rattle.sw_cli.specs.Sides.{sink_by}
use Rattle.sw_cli.proofs.Going.{flown_err, flown_ok}
use Rattle.sw_cli.proofs.Turned.{Flown, all_back, answered_not, turned_record}
use Rattle.sw_cli.proofs.turning.make_calls.Goals as goal

pub returns-in_default : goal.returns-in_default
returns-in_default g c =
    let b = c.flow_out-back in
    let f : Flown c.args.ready.schema c.args.ready.blocks.items b.result.0.items b.result.1 (sink_by g.W.Sink c.args.out.now b.new.out) = (b.ensures.told, b.ensures.all, b.ensures.why, b.ensures.are, b.ensures.out) in
    absurd (answered_not c.close.result (c.close.ensures.all (all_back g.J.Naming.most c.args.ready.blocks.items f.0 b.result.0.items c.requires.most f.1 f.3)) c.in_default.not-Ok)

pub returns-in-Ok-flown : goal.returns-in-Ok-flown
returns-in-Ok-flown g c = λ cuts.
    let b = c.flow_out-back in
    let w = c.with_columns-history in
    let f : Flown c.args.ready.schema c.args.ready.blocks.items b.result.0.items b.result.1 (sink_by g.W.Sink c.args.out.now b.new.out) = (b.ensures.told, b.ensures.all, b.ensures.why, b.ensures.are, b.ensures.out) in
    let of = turned_record g.J.Naming.columns c.args.ready.schema g.J.Naming.opening g.J.Naming.limit c.args.ready.blocks.items f.0 b.result.0.items c.in-Ok.history w.result f.3 c.in-Ok.ensures.headline c.in-Ok.ensures.ended
    w.ensures.columns w.ensures.rows w.ensures.limit w.ensures.entries w.ensures.legal in
    flown_ok g.J.Naming.limit (record { columns = c.args.ready.schema; rows = g.J.Naming.opening; blocks = c.args.ready.blocks.items; cuts = cuts }) f.0 w.result (sink_by g.W.Sink c.args.out.now b.new.out) _ f.1 f.2 of (rw c.in-Ok-flown.is at f.4)

pub returns-in-Err : goal.returns-in-Err
returns-in-Err g c = λ cuts.
    let b = c.flow_out-back in
    let w = c.with_columns-history in
    let f : Flown c.args.ready.schema c.args.ready.blocks.items b.result.0.items b.result.1 (sink_by g.W.Sink c.args.out.now b.new.out) = (b.ensures.told, b.ensures.all, b.ensures.why, b.ensures.are, b.ensures.out) in
    let of = turned_record g.J.Naming.columns c.args.ready.schema g.J.Naming.opening g.J.Naming.limit c.args.ready.blocks.items f.0 b.result.0.items c.in-Ok.history w.result f.3 c.in-Ok.ensures.headline c.in-Ok.ensures.ended
    w.ensures.columns w.ensures.rows w.ensures.limit w.ensures.entries w.ensures.legal in
    flown_err g.J.Naming.limit (record { columns = c.args.ready.schema; rows = g.J.Naming.opening; blocks = c.args.ready.blocks.items; cuts = cuts }) f.0 w.result (sink_by g.W.Sink c.args.out.now b.new.out) c.in-Err.refusal f.1 f.2 of (rw c.in-Err.is at f.4)
