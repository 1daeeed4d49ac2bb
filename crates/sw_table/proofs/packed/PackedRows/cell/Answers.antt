use Rattle.std.proofs.Common.{◌∙◌, ◌*◌, ap, sym, List, ℤ, drop, get_or, rules, w64}
use Rattle.std.proofs.lemmas.Int.{to_z-of_z}
use Rattle.sw_table.specs.Rows.{cell_of}
use Rattle.sw_table.specs.Packed.{Packed, row_of}
use Rattle.sw_table.proofs.Packing.{place-inside, rows-at, stretch-inside}
use Rattle.sw_table.proofs.packed.PackedRows.cell.Goals as goal

pub cell_in-requires : goal.cell_in-requires
cell_in-requires c =
    let s = c.self.inside in
    let lt = place-inside s.width s.keys s.cells _ c.args.place (ap (λ (v : Packed). v.items) c.self.view_is) c.requires.place in
    rw c.as_slice.ensures (stretch-inside s.width s.keys s.cells c.args.place c.self.invariant lt)

pub returns : goal.returns
returns c =
    let s = c.self.inside in let i = c.args.place in let a = c.args.attr in
    let lt = place-inside s.width s.keys s.cells _ i (ap (λ (v : Packed). v.items) c.self.view_is) c.requires.place in
    let k = get_or s.keys i 0 in
    λ d.
    to_z-of_z w64 c.cell_in.result (search rules) ∙ c.cell_in.ensures k
    ∙ ap (λ (v : List ℤ). cell_of a (row_of s.width k (drop (i * s.width) v))) c.as_slice.ensures
    ∙ sym (ap (cell_of a) (rows-at s.width s.keys s.cells i 0 d lt))
    ∙ ap (λ (v : Packed). cell_of a (get_or v.items i d)) c.self.view_is
