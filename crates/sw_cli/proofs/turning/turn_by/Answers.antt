use Rattle.std.proofs.Common.{◌∙◌, sym, ap, List, length}
use Rattle.sw_query.specs.declared.query.Call.{Call}
use Rattle.sw_cli.specs.Sides.{sink_seen}
use Rattle.sw_cli.proofs.Going.{goes_over}
use Rattle.sw_cli.proofs.turning.turn_by.Goals as goal

pub make_calls-requires-clause-most : goal.make_calls-requires-clause-most
make_calls-requires-clause-most g c κs within = c.requires.all ∙ ap (λ (bs : List (List Call)). length bs) (sym c.in-Ok.ensures.blocks)

pub returns-in-Ok : goal.returns-in-Ok
returns-in-Ok g c =
    goes_over c.args.stage.workload.1 c.in-Ok.ready.schema g.J.Naming.opening c.in-Ok.ready.blocks.items g.J.Naming.limit (sink_seen _ _ _ _) c.make_calls.result c.make_calls.ensures
    c.in-Ok.ensures.schema (sym c.requires.table.0) c.in-Ok.ensures.blocks
