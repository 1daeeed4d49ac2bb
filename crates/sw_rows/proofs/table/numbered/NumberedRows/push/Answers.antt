use Rattle.std.proofs.Common.{◌≡◌, ◌∙◌, ◌+◌, ◌++◌, ◌∷◌, [], ap, sym, subst, drop, length, List, ℤ}
use Rattle.std.specs.List.{range_with_len}
use Rattle.sw_rows.specs.Tables.{row_of}
use Rattle.sw_rows.proofs.Tables.NumberedLemmas.{rows_more}
use Rattle.sw_table.specs.Packed.{Packed, rows_in, zeros}
use Rattle.sw_rows.proofs.table.numbered.NumberedRows.push.Goals as goal

pub returns-clause-ok : goal.returns-clause-ok
returns-clause-ok c =
    let r = c.self.inside in
    let xs = c.args.cells.now in
    let within = subst (λ (v : Packed). drop v.width xs ≡ drop v.width zeros) (sym c.self.view_is) c.requires in
    let rows = ap (λ (cs : List ℤ). rows_in r.width (range_with_len 1 (r.many + 1)) cs) c.in_ok-push_cells.ensures.ok ∙ rows_more r.width r.many r.cells.items xs c.self.invariant.whole within in
    ap (λ rs. let p : Packed = record { width = r.width; items = rs } in p) rows
    ∙ ap (λ (v : Packed). let p : Packed = record v { items = v.items ++ row_of (length v.items + 1) xs ∷ [] } in p) c.self.view_is
