-- Conditions and cells one after another.
use Rattle.std.proofs.Common.{◌≡◌, ◌∙◌, ◌<◌, ◌+◌, ℕ, ℤ, true, false, List, [], ◌∷◌, ◌++◌, length, get_or, drop, Result, Ok, Err, sym, ap, arith}
use Rattle.std.proofs.lemmas.List.{drop_all, drop_more}
use Rattle.sw_rows.specs.Header.{Column}
use Rattle.sw_query.specs.declared.query.Cond.{Cond}
use Rattle.sw_lang.specs.Replies.{kind_at}
use Rattle.sw_arrays.specs.Asked.{are_cells, cond_after, conds_after, is_cell}
use Rattle.sw_arrays.specs.declared.range.Fault.{Fault}
use Rattle.sw_arrays.specs.declared.range.Range.{Range}

next_range : (gs : List Range) (i : ℕ) (g : Range) → i < length gs → g ≡ get_or gs i g → drop i gs ≡ g ∷ drop (i + 1) gs
next_range gs i g lt is = drop_more gs i g lt ∙ ap (λ (x : Range). x ∷ drop (i + 1) gs) (sym is)

-- a range that is a condition
pub cond_goes : (schema : List Column) (done : List Cond) (gs : List Range) (i : ℕ) (g : Range) (c : Cond) (whole : Result (List Cond) Fault)
    → i < length gs → g ≡ get_or gs i g → Ok c ≡ cond_after schema done g → conds_after schema done (drop i gs) ≡ whole
    → conds_after schema (done ++ c ∷ []) (drop (i + 1) gs) ≡ whole
cond_goes schema done gs i g c whole lt is ok so = rw (sym ok) at (rw (next_range gs i g lt is) at so)

-- a range that is none
pub cond_ends : (schema : List Column) (done : List Cond) (gs : List Range) (i : ℕ) (g : Range) (f : Fault) (whole : Result (List Cond) Fault)
    → i < length gs → g ≡ get_or gs i g → Err f ≡ cond_after schema done g → conds_after schema done (drop i gs) ≡ whole → whole ≡ Err f
cond_ends schema done gs i g f whole lt is bad so = sym (rw (sym bad) at (rw (next_range gs i g lt is) at so))

-- behind the last range, the conditions are those by then
pub conds_done : (schema : List Column) (done : List Cond) (gs : List Range) (whole : Result (List Cond) Fault)
    → conds_after schema done (drop (length gs) gs) ≡ whole → whole ≡ Ok done
conds_done schema done gs whole so = sym (rw (drop_all (length gs) gs (omega arith)) at so)

next_cell : (zs : List ℤ) (i : ℕ) (z : ℤ) → i < length zs → z ≡ get_or zs i z → drop i zs ≡ z ∷ drop (i + 1) zs
next_cell zs i z lt is = drop_more zs i z lt ∙ ap (λ (x : ℤ). x ∷ drop (i + 1) zs) (sym is)

-- a cell of its kind
pub cells_go : (schema : List Column) (zs : List ℤ) (i : ℕ) (z : ℤ) → i < length zs → z ≡ get_or zs i z → is_cell (kind_at schema i) z ≡ true
    → are_cells schema i (drop i zs) ≡ are_cells schema 0 zs → are_cells schema (i + 1) (drop (i + 1) zs) ≡ are_cells schema 0 zs
cells_go schema zs i z lt is ok so = rw ok at (rw (next_cell zs i z lt is) at so)

-- a cell of another kind
pub cells_end : (schema : List Column) (zs : List ℤ) (i : ℕ) (z : ℤ) → i < length zs → z ≡ get_or zs i z → is_cell (kind_at schema i) z ≡ false
    → are_cells schema i (drop i zs) ≡ are_cells schema 0 zs → are_cells schema 0 zs ≡ false
cells_end schema zs i z lt is bad so = sym (rw bad at (rw (next_cell zs i z lt is) at so))

-- behind the last cell, all are of their kinds
pub cells_done : (schema : List Column) (zs : List ℤ) → are_cells schema (length zs) (drop (length zs) zs) ≡ are_cells schema 0 zs → are_cells schema 0 zs ≡ true
cells_done schema zs so = sym (rw (drop_all (length zs) zs (omega arith)) at so)
