use Rattle.std.proofs.Common.{◌≡◌, ◌∙◌, sym, ap, subst, ℕ, List, length}
use Rattle.sw_query.specs.declared.query.Call.{Call}
use Rattle.sw_cli.specs.Outcomes.{AllSayWhy, blocks_told}
use Rattle.sw_cli.specs.Run.{Start}
use Rattle.sw_cli.specs.Script.{AreBlocks}
use Rattle.sw_cli.proofs.running.make_by.Goals as goal

pub open_for-requires-clause-table : goal.open_for-requires-clause-table
open_for-requires-clause-table g c κs within =
    let v = c.workload.view_is in
    (ap (λ (p : ℕ × Start). p.1.columns) v ∙ c.requires.columns, ap (λ (p : ℕ × Start). p.1.rows) v ∙ c.requires.table.0, ap (λ (p : ℕ × Start). p.0) v ∙ c.requires.table.1)

pub serve-requires-clause-blocks : goal.serve-requires-clause-blocks
serve-requires-clause-blocks g c κs within =
    let width : length c.workload.inside.inputs.schema ≡ length g.J.Naming.columns = ap (λ (p : ℕ × Start). length p.1.columns) c.workload.view_is ∙ ap length c.requires.columns in
    subst (λ (bs : List (List Call)). AreBlocks (length g.J.Naming.columns) bs) (sym c.as_slice.ensures.value)
    (subst (λ (n : ℕ). AreBlocks n c.workload.inside.inputs.blocks.items) width c.workload.invariant.2.blocks)

pub returns-clause-blocks : goal.returns-clause-blocks
returns-clause-blocks g c = ap (λ (p : ℕ × Start). p.1.blocks) c.workload.view_is

pub returns-clause-why : goal.returns-clause-why
returns-clause-why g c = subst (λ bs. AllSayWhy (blocks_told bs c.in_ok-history.told.items)) c.as_slice.ensures.value c.in_ok-history.ensures.why
