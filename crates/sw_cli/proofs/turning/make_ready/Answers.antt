use Rattle.std.proofs.Common.{rules, ◌≡◌, ◌∙◌, sym, ap, subst, ◌<◌, ℕ, length}
use Rattle.sw_cli.specs.Run.{Start}
use Rattle.sw_cli.specs.Script.{AreBlocks}
use Rattle.sw_cli.proofs.turning.make_ready.Goals as goal

pub open_for-requires-clause-table : goal.open_for-requires-clause-table
open_for-requires-clause-table g c κs within =
    let v = c.workload.view_is in
    (c.requires.columns, ap (λ (p : ℕ × Start). p.1.rows) v ∙ c.requires.table.0, ap (λ (p : ℕ × Start). p.0) v ∙ c.requires.table.1)

pub open_for-requires-clause-lists : goal.open_for-requires-clause-lists
open_for-requires-clause-lists g c κs within =
    c.workload.invariant.2.lists ∙ ap (λ (p : ℕ × Start). length p.1.columns) c.workload.view_is ∙ sym c.args.stage.wide

pub open_for-requires-clause-cuts : goal.open_for-requires-clause-cuts
open_for-requires-clause-cuts g c κs within = λ a below.
    c.workload.invariant.2.cuts a (subst (λ (n : ℕ). a < n) (c.args.stage.wide ∙ sym (ap (λ (p : ℕ × Start). length p.1.columns) c.workload.view_is)) below)

pub invariant_of-result : goal.invariant_of-result
invariant_of-result g c = record {
  none = search rules;
  room = search rules;
  empty = search rules;
  block = search rules;
  many = search rules;
}

pub returns-clause-below : goal.returns-clause-below
returns-clause-below g c =
    let v = c.workload.view_is in
    let width : length c.workload.inside.inputs.schema ≡ length g.J.Naming.columns = ap (λ (p : ℕ × Start). length p.1.columns) v ∙ sym c.args.stage.wide ∙ ap length c.requires.columns in
    subst (λ (n : ℕ). AreBlocks n c.workload.inside.inputs.blocks.items) width c.workload.invariant.2.blocks
