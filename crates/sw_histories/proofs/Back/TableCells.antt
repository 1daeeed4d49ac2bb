-- The rows of a table that is read have cells of the table's kinds.
use Rattle.std.proofs.Common.{◌≡◌, refl, sym, ap, subst, ℕ, ℤ, pos, negsuc, ◌+◌, List, [], ◌∷◌, arith, All, Option, Some, Ok, FitsSigned, inl, inr}
use Rattle.std.specs.Int.{w64}
use Rattle.std.specs.Prelude.{IsSome}
use Rattle.std.proofs.lemmas.List.Elements.{All-cons, All-nil}
use Rattle.sw_rows.specs.Header.{kinds_of}
use Rattle.sw_rows.specs.Spelling.{WriteCells, WriteRows, WritesCell}
use Rattle.sw_rows.specs.Tables.{Table, table_of}
use Rattle.sw_rows.specs.Domains.{Domain}
use Rattle.sw_rows.specs.Domains as kind
use Rattle.sw_rows.specs.Texts.{code_of, text_at, text_of}
use Rattle.sw_table.specs.declared.row.Row.{Row}
use Rattle.sw_rows.proofs.Tables.TableSpelling.{table_spelled}
use Rattle.sw_rows.proofs.Schemas.TextLaws.{code_only}
use Rattle.sw_histories.specs.ReadBack.{AreCells, HasCells, IsCellOf, IsWord}

word_fits : (z : ℤ) → FitsSigned w64 z → IsWord z
word_fits (pos n) h = omega (arith, h)
word_fits (negsuc n) h = omega (arith, h)

code_fits : (texts : List (List ℕ)) (t : List ℕ) (code : ℕ) → code_of texts t ≡ Some code → IsSome (text_at texts (pos code))
code_fits texts t code h = some (text_of texts code) (code_only texts code t h)
  where
    some : (o : Option (List ℕ)) → o ≡ Some t → IsSome o
    some o e = rw e refl

cell_fits : (k : Domain) (t : List ℕ) (z : ℤ) → WritesCell k t z → IsCellOf k z
cell_fits kind.Int t z w = word_fits z w.fits
cell_fits (kind.Fix places) t z w = word_fits z w.fits
cell_fits (kind.Text texts) t z (is, (code, has, same)) = subst (λ y. IsSome (text_at texts y)) (sym same) (code_fits texts t code has)
cell_fits kind.Flag t z (inl one) = inr one.1
cell_fits kind.Flag t z (inr none) = inl none.1

cells_fit : (ks : List Domain) (ts : List (List ℕ)) (zs : List ℤ) → WriteCells ks ts zs → AreCells ks zs
cells_fit [] [] [] w = tt
cells_fit [] [] (z ∷ zs) w = absurd w
cells_fit [] (t ∷ ts) zs w = absurd w
cells_fit (k ∷ ks) [] zs w = absurd w
cells_fit (k ∷ ks) (t ∷ ts) [] w = absurd w
cells_fit (k ∷ ks) (t ∷ ts) (z ∷ zs) w = (cell_fits k t z w.0, cells_fit ks ts zs w.1)

rows_fit : (ks : List Domain) (key : ℕ) (ts : List (List (List ℕ))) (rs : List Row) → WriteRows ks key ts rs → All (HasCells ks) rs
rows_fit ks key [] [] w = All-nil (HasCells ks)
rows_fit ks key [] (r ∷ rs) w = absurd w
rows_fit ks key (t ∷ ts) [] w = absurd w
rows_fit ks key (t ∷ ts) (r ∷ rs) w =
    let cells = w.0.0 in
    All-cons (HasCells ks) r rs (cells, cells_fit ks t cells w.0.1, ap (λ (s : Row). s.cells) w.0.2) (rows_fit ks (key + 1) ts rs w.1)

-- the law: each row of a table has cells of its kinds
pub table_cells : (bytes : List ℕ) (t : Table) → table_of bytes ≡ Ok t → All (HasCells (kinds_of t.columns)) t.rows
table_cells bytes t h =
    let w = table_spelled bytes t h in
    rows_fit (kinds_of t.columns) 1 w.others t.rows w.rows_are
