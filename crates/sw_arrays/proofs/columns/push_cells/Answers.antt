use Rattle.std.proofs.Common.{◌≡◌, ◌∙◌, ◌++◌, ◌∷◌, [], ap, take, List, ℤ, arith, rules}
use Rattle.std.proofs.lemmas.List.{append_assoc}
use mir.Syntax.{w64}
use mir.Val.{of_z, to_z}
use Rattle.sw_arrays.specs.Columns.{row_cells}
use Rattle.sw_arrays.proofs.Rows.{cells_more}
use Rattle.sw_arrays.proofs.columns.push_cells.Goals as goal

pub loop-attr-preserved : goal.loop-attr-preserved
loop-attr-preserved c =
    let same : to_z w64 (of_z w64 c.cell_there.result) ≡ c.cell_there.result = search rules in
    let xs = c.args.out.now.items in let i = c.loop-attr.attr in let cs = c.args.columns.now in let row = c.args.row in
    record {
      items =
          c.push_reserved.ensures.items
          ∙ ap (λ (z : ℤ). c.loop-attr.out.items ++ z ∷ []) same
          ∙ ap (λ (v : List ℤ). v ++ c.cell_there.result ∷ []) c.loop-attr.invariant.items
          ∙ append_assoc xs (row_cells (take i cs) row) (c.cell_there.result ∷ [])
          ∙ ap (λ (z : ℤ). xs ++ (row_cells (take i cs) row ++ z ∷ [])) c.cell_there.ensures
          ∙ ap (λ (v : List ℤ). xs ++ v) (cells_more cs row i _ c.loop-attr-test.true);
      len = omega (arith, c.push_reserved.ensures.len, c.loop-attr.invariant.len);
      room = c.push_reserved.ensures.capacity ∙ c.loop-attr.invariant.room;
    }
