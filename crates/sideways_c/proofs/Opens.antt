-- The rows of a table that was read.
use Rattle.std.proofs.Common.{◌≡◌, ◌∙◌, refl, sym, ap, subst, ℕ, zero, suc, ◌+◌, Bool, true, List, [], ◌∷◌, ◌++◌, length, length-append, map, Option, Some, Result, Ok, Err, arith, inl, inr, slice_get, eqb, ◌&&◌}
use Rattle.std.proofs.lemmas.Bool.{and_parts}
use Rattle.std.proofs.lemmas.Bool.Decides.{Decides-eqb}
use Rattle.sw_rows.proofs.Scans.RowLaws.{keys-count}
use Rattle.sw_rows.specs.Faults.{Fault}
use Rattle.sw_rows.proofs.Options.{then_ok}
use Rattle.sw_rows.specs.Header.{header_of}
use Rattle.sw_rows.specs.Tables.{◌>>=◌, Table, table_of}
use Rattle.sw_query.specs.declared.refusal.Refusal.{Refusal}
use Rattle.sw_query.specs.declared.refusal.Refusal.TheVariants as refusal
use Rattle.sw_table.specs.declared.row.Row.{Row}
use Rattle.sw_lang.specs.Cuts.{CutLists}
use Rattle.sw_lang.specs.Reading.{Answers}
use Rattle.sw_spine.specs.Table.{is_numbered}
use Rattle.sw_arrays.specs.Columns.{cells_at, columns_in, few_rows, field_of, knowing, lacking_in, none_lacking, rows_in, table_in}
use Rattle.sw_arrays.specs.declared.columns.Cells.{Cells}
use Rattle.sw_arrays.specs.declared.table.Given.{Given}
use Rattle.std.specs.Global.{Vec}
use Rattle.std.specs.Prelude.{MatchOption}
use Rattle.sw_solo.specs.Called.{SoloState}
use Rattle.sideways_c.specs.Handles.{Tells}
use Rattle.sideways_c.specs.Opened.{IsNotOpening, KeepsHistoryIn, SpellsHistory, TellsHistory, cuts_in}
use Rattle.sideways_c.specs.Shown.{Shown}
use Rattle.sideways_c.specs.declared.codes.TheConstants.{MISUSE, OK}

both-true : (a b : Bool) → a ≡ true → b ≡ true → (a && b) ≡ true
both-true a b h k = rw (h, k) refl

-- rows whose keys count on from n
numbered_from : (n : ℕ) (rows : List Row) → ((i : ℕ) (r : Row) → slice_get rows i ≡ Some r → r.key ≡ n + i) → is_numbered n rows ≡ true
numbered_from n [] h = refl
numbered_from n (r ∷ rs) h =
    let first : r.key ≡ n = let k = h 0 r refl in omega arith in
    both-true (eqb r.key n) (is_numbered (n + 1) rs) ((Decides-eqb r.key n).1 first) (numbered_from (n + 1) rs (λ i s e. let k = h (suc i) s e in omega arith))

-- the rows of a table have the keys 1, 2, 3 and so on
pub table_numbered : (bytes : List ℕ) (t : Table) → table_of bytes ≡ Ok t → is_numbered 1 t.rows ≡ true
table_numbered bytes t h = numbered_from 1 t.rows (λ i r e. let k = keys-count bytes t i r h e in omega arith)

-- a fault of the cuts, after a table was read
pub cuts_refuse : (r : Result Table Fault) (cuts : List ℕ) (limit : ℕ) (t : Table) (e : Refusal) → r ≡ Ok t → Answers {A = CutLists} (Err e) (cuts_in t.columns cuts) → IsNotOpening r cuts limit e
cuts_refuse r cuts limit t refusal.NoMemory read h = inl tt
cuts_refuse r cuts limit t (refusal.BadTable rec field) read h = inr (inl (t, read, h))
cuts_refuse r cuts limit t (refusal.BadLine line why) read h = inr (inl (t, read, h))
cuts_refuse r cuts limit t (refusal.UnknownAttribute name) read h = inr (inl (t, read, h))
cuts_refuse r cuts limit t (refusal.TooMany n) read h = inr (inl (t, read, h))
cuts_refuse r cuts limit t (refusal.NoBlank boxes needed) read h = inr (inl (t, read, h))
cuts_refuse r cuts limit t (refusal.Short used want capacity) read h = inr (inl (t, read, h))
cuts_refuse r cuts limit t (refusal.Contended seen found) read h = inr (inl (t, read, h))
cuts_refuse r cuts limit t (refusal.SharesOut made given) read h = inr (inl (t, read, h))
cuts_refuse r cuts limit t (refusal.HistoryFull entries) read h = inr (inl (t, read, h))
cuts_refuse r cuts limit t (refusal.NotLegal index) read h = inr (inl (t, read, h))
cuts_refuse r cuts limit t refusal.Input read h = inr (inl (t, read, h))
cuts_refuse r cuts limit t refusal.Output read h = inr (inl (t, read, h))
cuts_refuse r cuts limit t (refusal.Ahead seen told) read h = inr (inl (t, read, h))

-- ---- rows of columns

one_numbered : (n : ℕ) (rs : List Row) (r : Row) → is_numbered n rs ≡ true → r.key ≡ n + length rs → is_numbered n (rs ++ r ∷ []) ≡ true
one_numbered n [] r h k = both-true (eqb r.key n) true ((Decides-eqb r.key n).1 (omega (arith, k))) refl
one_numbered n (x ∷ rs) r h k =
    let parts = and_parts (eqb x.key n) (is_numbered (n + 1) rs) h in
    both-true (eqb x.key n) (is_numbered (n + 1) (rs ++ r ∷ [])) parts.0 (one_numbered (n + 1) rs r parts.1 (omega (arith, k)))

rows_many : (cs : List Cells) (many : ℕ) → length (rows_in cs many) ≡ many
rows_many cs zero = refl
rows_many cs (suc many) =
    let one = length-append (rows_in cs many) (record { key = many + 1; cells = cells_at cs many } ∷ []) in
    let before = rows_many cs many in
    omega (arith, one, before)

rows_numbered : (cs : List Cells) (many : ℕ) → is_numbered 1 (rows_in cs many) ≡ true
rows_numbered cs zero = refl
rows_numbered cs (suc many) =
    let before = rows_many cs many in
    one_numbered 1 (rows_in cs many) (record { key = many + 1; cells = cells_at cs many }) (rows_numbered cs many) (omega (arith, before))

-- the rows of a table of columns have the keys 1, 2, 3 and so on
pub columns_numbered : (g : Given) (t : Table) → table_in g ≡ Ok t → is_numbered 1 t.rows ≡ true
columns_numbered g t h =
    let columns = columns_in g.attributes.now in
    let a = then_ok (header_of (map field_of g.attributes.now)) (λ cs. few_rows g.rows >>= λ many. knowing (length cs + 1) g.texts.now 0 g.ends.now cs >>= λ known. none_lacking (lacking_in known many 0 columns) >>= λ there. Ok (record { columns = known; rows = rows_in columns many })) t h in
    let b = then_ok (few_rows g.rows) (λ many. knowing (length a.0 + 1) g.texts.now 0 g.ends.now a.0 >>= λ known. none_lacking (lacking_in known many 0 columns) >>= λ there. Ok (record { columns = known; rows = rows_in columns many })) t a.2 in
    let c = then_ok (knowing (length a.0 + 1) g.texts.now 0 g.ends.now a.0) (λ known. none_lacking (lacking_in known b.0 0 columns) >>= λ there. Ok (record { columns = known; rows = rows_in columns b.0 })) t b.2 in
    let d = then_ok (none_lacking (lacking_in c.0 b.0 0 columns)) (λ there. Ok (record { columns = c.0; rows = rows_in columns b.0 })) t c.2 in
    let is : rows_in columns b.0 ≡ t.rows = cc in
    subst (λ rs. is_numbered 1 rs ≡ true) is (rows_numbered columns b.0)

-- ---- the history so far

-- the text is kept
pub history_told : (s : SoloState) (text : Vec ℕ) (old new : Shown) → old.engine ≡ Some s → SpellsHistory s (Ok text) → new ≡ record old { text = text.items } → KeepsHistoryIn old new OK
history_told s text old new e m made =
    let told : TellsHistory s old new OK = inl (refl, made ∙ ap (λ (x : List ℕ). record old { text = x }) m.0, m.1) in
    subst (λ (o : Option SoloState). MatchOption o (Tells MISUSE old new OK) (λ x. TellsHistory x old new OK)) (sym e) told

-- without a text nothing changes
pub history_untold : (s : SoloState) (old new : Shown) (code : ℕ) → old.engine ≡ Some s → SpellsHistory s (Err code) → new ≡ old → KeepsHistoryIn old new code
history_untold s old new code e m same =
    let untold : TellsHistory s old new code = inr (m, same) in
    subst (λ (o : Option SoloState). MatchOption o (Tells MISUSE old new code) (λ x. TellsHistory x old new code)) (sym e) untold
