use Rattle.std.proofs.Common.{◌≡◌, refl, subst, Ok}
use Rattle.sw_cli.specs.Run.{Start, start_of}
use Rattle.sw_cli.specs.Sides.{FailedInTurn, sink_seen, source_by}
use Rattle.sw_cli.specs.Starts.{IfBoth, RefusedFrom, start_seen}
use Rattle.sw_cli.specs.declared.running.Options.{Options}
use Rattle.sw_cli.proofs.Ran.{begun_answers, keeps_same, refused_answers}
use Rattle.sw_cli.proofs.running.run_shared.Goals as goal

pub returns-in-Ok : goal.returns-in-Ok
returns-in-Ok g c =
    let t = source_by g.T.Source c.args.table.now c.read_start-inputs.new.table in
    let s = source_by g.S.Source c.args.script.now c.read_start-inputs.new.script in
    let spells : Options → Type 0 = λ o. IfBoth t.left s.left (λ a b. start_of o.limit o.cuts.now a b ≡ Ok (start_seen c.in-Ok.inputs)) in
    begun_answers c.args.means.limit c.args.means.cuts.now (start_seen c.in-Ok.inputs) t s (sink_seen _ _ _ _) c.share_read.result
    (subst spells c.means.view_is c.in-Ok.ensures.spelled) c.in-Ok.ensures.steady c.share_read.ensures

pub returns-in-Err : goal.returns-in-Err
returns-in-Err g c =
    let t = source_by g.T.Source c.args.table.now c.read_start-inputs.new.table in
    let s = source_by g.S.Source c.args.script.now c.read_start-inputs.new.script in
    let spells : Options → Type 0 = λ o. IfBoth t.left s.left (λ a b. RefusedFrom {Y = Start} (FailedInTurn t s a) c.in-Err.e (start_of o.limit o.cuts.now a b)) in
    refused_answers c.args.means.limit c.args.means.cuts.now t s (sink_seen (g.W.Sink.taken c.args.out.now) _ _ _) c.in-Err.e
    (subst spells c.means.view_is c.in-Err.ensures.spelled) c.in-Err.ensures.told (keeps_same (g.W.Sink.taken c.args.out.now)) refl
