use Rattle.std.proofs.Common.{◌≡◌, ◌∙◌, ◌*◌, ◌++◌, ◌∷◌, ◌<◌, [], ap, sym, drop, get_or, length, map, take, List, ℤ, arith, rules}
use Rattle.std.proofs.lemmas.List.{append_assoc, map_push, take_more}
use Rattle.std.proofs.Common.{w64}
use Rattle.std.proofs.lemmas.Int.{to_z-of_z}
use Rattle.sw_table.specs.Rows.{cell_of}
use Rattle.sw_table.specs.Packed.{Packed, row_of}
use Rattle.sw_table.specs.declared.row.Row.{Row}
use Rattle.sw_table.proofs.Packing.{place-inside, rows-at, stretch-inside}
use Rattle.sw_table.proofs.packed.PackedRows.append_column.Goals as goal

pub cell_in-requires : goal.cell_in-requires
cell_in-requires c =
    let s = c.self.inside in let i = c.loop-place.place in
    let lt : i < length c.args.self.now.items = omega (arith, c.loop-place-test.true, c.len-place-end.ensures.many) in
    let inside = place-inside s.width s.keys s.cells _ i (ap (λ (v : Packed). v.items) c.self.view_is) lt in
    rw c.as_slice-cells.ensures (stretch-inside s.width s.keys s.cells i c.self.invariant inside)

pub loop-place-preserved : goal.loop-place-preserved
loop-place-preserved c =
    let none : Row = record { key = 0; cells = [] } in
    let s = c.self.inside in let i = c.loop-place.place in let rs = c.args.self.now.items in let a = c.args.attr in let xs = c.taken-list.result.items in
    let k = get_or s.keys i 0 in
    let lt : i < length rs = omega (arith, c.loop-place-test.true, c.len-place-end.ensures.many) in
    let inside = place-inside s.width s.keys s.cells _ i (ap (λ (v : Packed). v.items) c.self.view_is) lt in
    let came : c.cell_in.result ≡ cell_of a (get_or rs i none) =
    c.cell_in.ensures k
    ∙ ap (λ (v : List ℤ). cell_of a (row_of s.width k (drop (i * s.width) v))) c.as_slice-cells.ensures
    ∙ sym (ap (cell_of a) (rows-at s.width s.keys s.cells i 0 none inside))
    ∙ ap (λ (v : Packed). cell_of a (get_or v.items i none)) c.self.view_is in
    record {
      items =
          c.push_reserved.ensures.items
          ∙ ap (λ (z : ℤ). c.loop-place.list.items ++ z ∷ []) (to_z-of_z w64 c.cell_in.result (search rules))
          ∙ ap (λ (v : List ℤ). v ++ c.cell_in.result ∷ []) c.loop-place.invariant.items
          ∙ append_assoc xs (map (cell_of a) (take i rs)) (c.cell_in.result ∷ [])
          ∙ ap (λ (z : ℤ). xs ++ (map (cell_of a) (take i rs) ++ z ∷ [])) came
          ∙ ap (λ (v : List ℤ). xs ++ v) (sym (ap (map (cell_of a)) (take_more rs i none lt) ∙ map_push (cell_of a) (take i rs) _));
      room = omega (arith, lt, c.push_reserved.ensures.len, c.push_reserved.ensures.capacity, c.loop-place.invariant.room);
      there = λ h. c.push_reserved.ensures.capacity ∙ c.loop-place.invariant.there h;
    }
