use Rattle.std.proofs.Common.{◌≡◌, ◌*◌, ◌∙◌, ap, sym, List, ℕ, ℤ, length}
use Rattle.sw_table.specs.declared.row.Row.{Row}
use Rattle.sw_table.specs.Kept.{kept}
use Rattle.sw_table.specs.Packed.{Packed, rows_in}
use Rattle.sw_table.proofs.Packing.{kept-whole, rows-kept, rows-many}
use Rattle.sw_table.proofs.packed.PackedRows.keep.Goals as goal

pub keep-requires : goal.keep-requires
keep-requires c = let s = c.self.inside in c.requires ∙ sym (ap (λ (v : Packed). length v.items) c.self.view_is) ∙ rows-many s.width s.keys s.cells

pub keep-requires-2 : goal.keep-requires-2
keep-requires-2 c =
    let s = c.self.inside in
    let same : length c.args.live.now ≡ length s.keys = c.requires ∙ sym (ap (λ (v : Packed). length v.items) c.self.view_is) ∙ rows-many s.width s.keys s.cells in
    c.self.invariant.whole ∙ ap (λ (m : ℕ). m * s.width) (sym same)

pub invariant_of-self-2 : goal.invariant_of-self-2
invariant_of-self-2 c =
    let s = c.self.inside in
    let same : length c.args.live.now ≡ length s.keys = c.requires ∙ sym (ap (λ (v : Packed). length v.items) c.self.view_is) ∙ rows-many s.width s.keys s.cells in
    rw (c.in_ok-keep.ensures.ok, c.keep-2.ensures) (kept-whole s.width c.args.live.now s.keys s.cells same c.self.invariant)

pub returns-clause-ok : goal.returns-clause-ok
returns-clause-ok c =
    let s = c.self.inside in let live = c.args.live.now in
    let same : length live ≡ length s.keys = c.requires ∙ sym (ap (λ (v : Packed). length v.items) c.self.view_is) ∙ rows-many s.width s.keys s.cells in
    let rows : rows_in s.width c.keep.new.self c.keep-2.new.self ≡ kept live (rows_in s.width s.keys s.cells) =
    ap (λ (ks : List ℕ). rows_in s.width ks c.keep-2.new.self) c.in_ok-keep.ensures.ok
    ∙ ap (λ (cs : List ℤ). rows_in s.width (kept live s.keys) cs) c.keep-2.ensures
    ∙ rows-kept s.width live s.keys s.cells same c.self.invariant.whole in
    ap (λ (rs : List Row). let p : Packed = record { width = s.width; items = rs } in p) rows
    ∙ ap (λ (v : Packed). let p : Packed = record v { items = kept live v.items } in p) c.self.view_is
