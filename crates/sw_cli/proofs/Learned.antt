-- What was read over a schema before it learned the texts of a line is read still.
use Rattle.std.proofs.Common.{◌≡◌, ap, refl, subst, ℕ, ℤ, pos, negsuc, Bool, true, false, All, List, [], ◌∷◌, Option, Some, None, Ok, IsSome, is_some, if◌then◌else◌}
use Rattle.std.proofs.lemmas.Bool.{false≢true}
use Rattle.std.proofs.lemmas.List.Elements.{All-head, All-tail, All-weaker}
use Rattle.sw_table.specs.declared.row.Row.{Row}
use Rattle.sw_rows.specs.Domains.{Domain, IsOver, over}
use Rattle.sw_rows.specs.Domains as kind
use Rattle.sw_rows.specs.Header.{Column, IsSchema, has_texts, holding, kinds_of, texts_of}
use Rattle.sw_rows.specs.Texts.{text_of, with_texts}
use Rattle.sw_rows.proofs.Schemas.TextLaws.{text_of_kept}
use Rattle.sw_histories.specs.ReadBack.{AreCells, HasCells, IsCellOf}
use Rattle.sw_rows.specs.TextRows.{AreCoded}
use Rattle.sw_query.specs.declared.query.Call.{Call}
use Rattle.sw_rows.proofs.Scans.TextRowLaws.{coded_still}
use Rattle.sw_lang.specs.Learning.{knowing, learned, texts_in_line}
use Rattle.sw_lang.specs.Reading.{line_at}
use Rattle.sw_lang.proofs.Known.Lines.{read_still}
use Rattle.sw_lang.proofs.Known.Knowing.{knowing_schema, line_sound}

-- a call that some line gives
abbrev pub IsRead : List Column → Call → Type 0
IsRead s c = (text : List ℕ) × (line_at s text ≡ Ok (Some c))

-- a call that some line gives is given by one still, after the texts of another are known
pub read_after : (s : List Column) (line : List ℕ) (c : Call) → IsSchema s → IsRead s c → IsRead (learned s line) c
read_after s line c is (text, read) = by_test (has_texts s)
  where
    by_test : (b : Bool) → IsRead (if b then knowing (texts_in_line line) s else s) c
    by_test true = (text, read_still s (texts_in_line line) text (Some c) is (knowing_schema s (texts_in_line line) is (line_sound line)) read)
    by_test false = (text, read)

cell-after : (ts more : List (List ℕ)) (k : Domain) (z : ℤ) → IsOver ts k → IsCellOf k z → IsCellOf (over (with_texts ts more) k) z
cell-after ts more kind.Int z o h = h
cell-after ts more (kind.Fix places) z o h = h
cell-after ts more kind.Flag z o h = h
cell-after ts more (kind.Text own) (negsuc n) o h = absurd (false≢true h)
cell-after ts more (kind.Text own) (pos code) o h = by_text (text_of ts code) refl (subst (λ vs. IsSome (text_of vs code)) o h)
  where
    by_text : (t : Option (List ℕ)) → text_of ts code ≡ t → IsSome t → IsSome (text_of (with_texts ts more) code)
    by_text None e some = absurd (false≢true some)
    by_text (Some t) e some = ap is_some (text_of_kept ts more t code e)

cells-after : (ts more : List (List ℕ)) (s : List Column) (zs : List ℤ) → All (λ c. IsOver ts c.1) s → AreCells (kinds_of s) zs → AreCells (kinds_of (holding (with_texts ts more) s)) zs
cells-after ts more [] [] o h = h
cells-after ts more [] (z ∷ zs) o h = absurd h
cells-after ts more (c ∷ s) [] o h = absurd h
cells-after ts more (c ∷ s) (z ∷ zs) o h = (cell-after ts more c.1 z (All-head (λ d. IsOver ts d.1) c s o) h.0, cells-after ts more s zs (All-tail (λ d. IsOver ts d.1) c s o) h.1)

-- rows have cells of the attributes still
pub cells_after : (s : List Column) (line : List ℕ) (rs : List Row) → IsSchema s → All (HasCells (kinds_of s)) rs → All (HasCells (kinds_of (learned s line))) rs
cells_after s line rs is h = by_test (has_texts s)
  where
    by_test : (b : Bool) → All (HasCells (kinds_of (if b then knowing (texts_in_line line) s else s))) rs
    by_test true = All-weaker (HasCells (kinds_of s)) (HasCells (kinds_of (knowing (texts_in_line line) s))) (λ r has. (has.0, cells-after (texts_of s) (texts_in_line line) s has.0 is.shared has.1, has.2)) rs h
    by_test false = h

-- rows stay coded as the texts of a line become known
pub coded_after : (s : List Column) (line : List ℕ) (rs : List Row) → IsSchema s → AreCoded (kinds_of s) rs → AreCoded (kinds_of (learned s line)) rs
coded_after s line rs is coded = by_test (has_texts s)
  where
    by_test : (b : Bool) → AreCoded (kinds_of (if b then knowing (texts_in_line line) s else s)) rs
    by_test true = coded_still s (texts_in_line line) rs is coded
    by_test false = coded
