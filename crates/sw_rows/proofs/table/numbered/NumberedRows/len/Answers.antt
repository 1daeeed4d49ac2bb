use Rattle.std.proofs.Common.{◌∙◌, ap, sym, length}
use Rattle.std.proofs.lemmas.List.FromFn.{length-range_with_len}
use Rattle.std.specs.List.{range_with_len}
use Rattle.sw_table.proofs.Packing.{rows-many}
use Rattle.sw_table.specs.Packed.{Packed}
use Rattle.sw_rows.proofs.table.numbered.NumberedRows.len.Goals as goal

pub returns-clause-many : goal.returns-clause-many
returns-clause-many c =
    let r = c.self.inside in
    sym (length-range_with_len 1 r.many) ∙ sym (rows-many r.width (range_with_len 1 r.many) r.cells.items) ∙ ap (λ (v : Packed). length v.items) c.self.view_is
