-- What holds of the rows of a table that is read.
use Rattle.std.proofs.Common.{◌≡◌, ◌∙◌, ap, sym, refl, ℕ, ℤ, zero, suc, ◌+◌, ◌-◌, ◌≤◌, pos, Bool, true, false, cond, ◌&&◌, List, [], ◌∷◌, length, get_or, replicate, Some, slice_get, Ok, arith}
use Rattle.std.proofs.Math.Seq.{get_or-append_right}
use Rattle.std.proofs.lemmas.Option.{none-some, same_Some}
use Rattle.sw_rows.specs.Header.{Column, IsSchema, has_texts, kinds_of}
use Rattle.sw_query.specs.Scan.{cell_of}
use Rattle.sw_rows.specs.Spelling.{WriteCells, WriteRows}
use Rattle.sw_rows.specs.Tables.{Table, padded, seeing, table_of, text_field, text_fields, texts_in}
use Rattle.sw_rows.specs.Domains.{Domain, is_of_texts}
use Rattle.sw_rows.specs.Texts.{is_text, with_texts}
use Rattle.std.specs.List.{list_all}
use Rattle.std.proofs.lemmas.Bool.{and_from}
use Rattle.std.proofs.lemmas.List.Folds.{list_all-append}
use Rattle.sw_rows.proofs.Schemas.ColumnLemmas.{no_texts}
use Rattle.sw_rows.proofs.Schemas.DomainLaws.{kinds_long, kinds_of_texts, schema_holding}
use Rattle.sw_rows.proofs.Tables.TableLemmas.{no_texts_in}
use Rattle.sw_rows.proofs.Schemas.TextLemmas.{texts_sound}
use Rattle.sw_rows.specs.declared.table.TheConstants.{MOST_ROWS}
use Rattle.sw_table.specs.declared.row.Row.{Row}
use Rattle.sw_rows.proofs.Schemas.HeaderSpelling.{header_read_back}
use Rattle.sw_rows.proofs.Schemas.SchemaLaws.{header-schema}
use Rattle.sw_rows.proofs.Tables.TableSpelling.{table_spelled}

-- the row of a place: its key, and cells of its kinds
abbrev IsRowAt : List Domain → ℕ → Row → Type 0
IsRowAt ks key r = (r.key ≡ key) × (t : List (List ℕ)) × (zs : List ℤ) × WriteCells ks t zs × (r.cells ≡ padded zs)

row-at : (ks : List Domain) (key : ℕ) (ts : List (List (List ℕ))) (rs : List Row) (i : ℕ) (r : Row) → WriteRows ks key ts rs → slice_get rs i ≡ Some r → IsRowAt ks (key + i) r
row-at ks key [] [] i r w h = absurd (none-some r h)
row-at ks key [] (x ∷ rs) i r w h = absurd w
row-at ks key (t ∷ ts) [] i r w h = absurd w
row-at ks key (t ∷ ts) (x ∷ rs) zero r w h =
    let same : x ≡ r = same_Some x r h in
    (ap (λ (y : Row). y.key) (sym same ∙ w.0.2) ∙ omega arith, t, w.0.0, w.0.1, ap (λ (y : Row). y.cells) (sym same ∙ w.0.2))
row-at ks key (t ∷ ts) (x ∷ rs) (suc i) r w h =
    let rest = row-at ks (key + 1) ts rs i r w.1 h in
    (rest.0 ∙ omega arith, rest.1, rest.2, rest.3, rest.4)

cells-long : (ks : List Domain) (ts : List (List ℕ)) (zs : List ℤ) → WriteCells ks ts zs → length zs ≡ length ks
cells-long [] [] [] w = refl
cells-long [] [] (z ∷ zs) w = absurd w
cells-long [] (t ∷ ts) zs w = absurd w
cells-long (k ∷ ks) [] zs w = absurd w
cells-long (k ∷ ks) (t ∷ ts) [] w = absurd w
cells-long (k ∷ ks) (t ∷ ts) (z ∷ zs) w = ap suc (cells-long ks ts zs w.1)

zeros-at : (n k : ℕ) → get_or (replicate n (pos 0)) k (pos 0) ≡ pos 0
zeros-at zero k = refl
zeros-at (suc n) zero = refl
zeros-at (suc n) (suc k) = zeros-at n k

-- the keys of a table count from 1
pub keys-count : (bytes : List ℕ) (t : Table) (i : ℕ) (r : Row) → table_of bytes ≡ Ok t → slice_get t.rows i ≡ Some r → r.key ≡ i + 1
keys-count bytes t i r h e =
    let w = table_spelled bytes t h in
    let at = row-at (kinds_of t.columns) 1 w.others t.rows i r w.rows_are e in
    at.0 ∙ omega arith

-- cells of no attribute are 0
pub cells-unused : (bytes : List ℕ) (t : Table) (i : ℕ) (r : Row) (a : ℕ) → table_of bytes ≡ Ok t → slice_get t.rows i ≡ Some r → length t.columns ≤ a → cell_of a r ≡ pos 0
cells-unused bytes t i r a h e past =
    let w = table_spelled bytes t h in
    let at = row-at (kinds_of t.columns) 1 w.others t.rows i r w.rows_are e in
    let zs = at.2 in
    let long : length zs ≡ length t.columns = cells-long (kinds_of t.columns) at.1 zs at.3 ∙ kinds_long t.columns in
    ap (λ cells. get_or cells a (pos 0)) at.4 ∙ get_or-append_right zs (replicate (8 - length zs) (pos 0)) a (pos 0) (omega arith) ∙ zeros-at (8 - length zs) (a - length zs)

rows-long : (ks : List Domain) (key : ℕ) (ts : List (List (List ℕ))) (rs : List Row) → WriteRows ks key ts rs → length rs ≡ length ts
rows-long ks key [] [] w = refl
rows-long ks key [] (r ∷ rs) w = absurd w
rows-long ks key (t ∷ ts) [] w = absurd w
rows-long ks key (t ∷ ts) (r ∷ rs) w = ap suc (rows-long ks (key + 1) ts rs w.1)

-- a table has no more rows than the limit
pub rows-few : (bytes : List ℕ) (t : Table) → table_of bytes ≡ Ok t → length t.rows ≤ MOST_ROWS
rows-few bytes t h =
    let w = table_spelled bytes t h in
    let long = rows-long (kinds_of t.columns) 1 w.others t.rows w.rows_are in
    let few = w.few_rows in
    omega arith

-- ---- texts

field-sound : (d : Domain) (t : List ℕ) → list_all is_text (text_field d t) ≡ true
field-sound d t = by_test (is_of_texts d) (is_text t) refl
  where
    by_test : (a b : Bool) → is_text t ≡ b → list_all is_text (cond (a && b) (t ∷ []) []) ≡ true
    by_test true true h = and_from (is_text t) true h refl
    by_test true false h = refl
    by_test false b h = refl

fields-sound : (ds : List Domain) (ts : List (List ℕ)) → list_all is_text (text_fields ds ts) ≡ true
fields-sound [] ts = refl
fields-sound (d ∷ ds) [] = refl
fields-sound (d ∷ ds) (t ∷ ts) = list_all-append is_text (text_field d t) (text_fields ds ts) ∙ and_from (list_all is_text (text_field d t)) (list_all is_text (text_fields ds ts)) (field-sound d t) (fields-sound ds ts)

seen-sound : (ds : List Domain) (rs : List (List (List ℕ))) → list_all is_text (texts_in ds rs) ≡ true
seen-sound ds [] = refl
seen-sound ds (r ∷ rs) = list_all-append is_text (text_fields ds r) (texts_in ds rs) ∙ and_from (list_all is_text (text_fields ds r)) (list_all is_text (texts_in ds rs)) (fields-sound ds r) (seen-sound ds rs)

none-seen : (columns : List Column) (rs : List (List (List ℕ))) → has_texts columns ≡ false → with_texts [] (texts_in (kinds_of columns) rs) ≡ []
none-seen columns rs h = ap (with_texts []) (no_texts_in (kinds_of columns) rs (kinds_of_texts columns ∙ h))

-- the attributes of a header that know the texts of records
pub seeing-schema : (columns : List Column) (rs : List (List (List ℕ))) → IsSchema columns → IsSchema (seeing columns rs)
seeing-schema columns rs s = (schema_holding (with_texts [] (texts_in (kinds_of columns) rs)) columns s.some s.sound (texts_sound [] (texts_in (kinds_of columns) rs) no_texts (seen-sound (kinds_of columns) rs)) (none-seen columns rs)).0

-- the columns of a table are a schema
pub table-schema : (bytes : List ℕ) (t : Table) → table_of bytes ≡ Ok t → IsSchema t.columns
table-schema bytes t h =
    let w = table_spelled bytes t h in
    rw w.columns_are (seeing-schema w.named w.others (header-schema w.header w.named (header_read_back w.header w.named w.header_is)))
