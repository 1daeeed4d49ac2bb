-- Cells of an attribute that are exchanged for others.
use Rattle.std.specs.Prelude.{◌≡◌, ◌-◌, ◌==◌, if◌then◌else◌, ℤ, ℕ, pos, negsuc, List, length, map, slice_index_or, slice_set}
use Rattle.sw_table.specs.declared.row.Row.{Row}
use Rattle.sw_table.specs.Packed.{rows_in}

-- the number of a list that a code stands for, the codes being 1, 2, 3 and so on; any other number stays
abbrev pub exchanged : List ℤ → ℤ → ℤ
exchanged codes (pos code) = if code == 0 then pos code else slice_index_or codes (code - 1) (pos code)
exchanged codes (negsuc n) = negsuc n

-- a row with the cell of an attribute exchanged
abbrev pub with_exchanged : ℕ → List ℤ → Row → Row
with_exchanged attr codes r =
    record r { cells = slice_set r.cells attr (exchanged codes (slice_index_or r.cells attr (pos 0))) }

-- of so many rows of a flat list, whatever their keys, the cell of an attribute is exchanged and nothing else
abbrev pub AreExchanged : ℕ → ℕ → ℕ → List ℤ → List ℤ → List ℤ → Type 0
AreExchanged width many attr codes old new =
    (keys : List ℕ) → length keys ≡ many → rows_in width keys new ≡ map (with_exchanged attr codes) (rows_in width keys old)
