use Rattle.std.proofs.Common.{◌≡◌, ◌*◌, ◌++◌, ◌∙◌, ap, sym, List, length, get_or, take, drop, ℕ, ℤ, arith, length-drop}
use Rattle.std.proofs.lemmas.List.{length-take-le}
use Rattle.sw_table.specs.declared.row.Row.{Row}
use Rattle.sw_table.specs.Packed.{Packed, row_of, zeros}
use Rattle.sw_table.proofs.Packing.{place-inside, rows-at, stretch-inside}
use Rattle.sw_table.proofs.packed.PackedRows.get.Goals as goal

pub at-requires : goal.at-requires
at-requires c = let s = c.self.inside in place-inside s.width s.keys s.cells _ c.args.place (ap (λ (v : Packed). v.items) c.self.view_is) c.requires

pub stretch-requires : goal.stretch-requires
stretch-requires c =
    let s = c.self.inside in
    let lt = place-inside s.width s.keys s.cells _ c.args.place (ap (λ (v : Packed). v.items) c.self.view_is) c.requires in
    rw c.as_slice.ensures (stretch-inside s.width s.keys s.cells c.args.place c.self.invariant lt)

pub returns : goal.returns
returns c =
    let s = c.self.inside in let i = c.args.place in
    let lt = place-inside s.width s.keys s.cells _ i (ap (λ (v : Packed). v.items) c.self.view_is) c.requires in
    let enough = stretch-inside s.width s.keys s.cells i c.self.invariant lt in
    let part : c.stretch.result.now ≡ take s.width (drop (i * s.width) s.cells) = c.stretch.ensures ∙ ap (λ v. take s.width (drop (i * s.width) v)) c.as_slice.ensures in
    let long : length c.stretch.result.now ≡ s.width = ap length part ∙ length-take-le s.width (drop (i * s.width) s.cells) (omega (arith, length-drop (i * s.width) s.cells, enough)) in
    let cells : c.padded.result ≡ take s.width (drop (i * s.width) s.cells) ++ drop s.width zeros =
    c.padded.ensures ∙ ap (λ m. c.stretch.result.now ++ drop m zeros) long ∙ ap (λ v. v ++ drop s.width zeros) part in
    λ d.
    ap (λ (v : List ℤ). let r : Row = record { key = c.at.result; cells = v } in r) cells
    ∙ ap (λ (k : ℕ). row_of s.width k (drop (i * s.width) s.cells)) (c.at.ensures 0)
    ∙ sym (rows-at s.width s.keys s.cells i 0 d lt)
    ∙ ap (λ (v : Packed). get_or v.items i d) c.self.view_is
