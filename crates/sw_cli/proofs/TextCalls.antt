-- What a run starts from is over texts.
use Rattle.std.proofs.Common.{◌≡◌, ◌+◌, ◌<◌, ◌≤◌, ap, arith, subst, refl, ℕ, Bool, true, false, All, IfSome, List, [], ◌∷◌, ◌++◌, length, nat_lt, Option, Some, None, Result, Ok, Err, if◌then◌else◌}
use Rattle.std.proofs.lemmas.List.Elements.{All-nil, All-push, All-weaker}
use Rattle.std.proofs.lemmas.Bool.Decides.{nat_tests}
use Rattle.std.proofs.lemmas.List.{length_push}
use Rattle.std.specs.Str.{is_utf8}
use Rattle.sw_table.specs.declared.row.Row.{Row}
use Rattle.sw_rows.specs.Header.{Column, Fault, IsSchema, kinds_of}
use Rattle.sw_query.specs.Scan.{counting}
use Rattle.sw_rows.specs.Tables.{bytes_within, table_of}
use Rattle.sw_rows.specs.TextRows.{AreCoded}
use Rattle.sw_rows.specs.declared.loading.TheConstants.{MOST_BYTES}
use Rattle.sw_query.specs.declared.query.Call.{Call}
use Rattle.sw_query.specs.declared.query.Call.TheVariants.{Select, Insert, Delete, DeleteWhere}
use Rattle.sw_query.specs.declared.refusal.Refusal.{Refusal}
use Rattle.sw_query.specs.declared.refusal.Refusal.TheVariants.{BadLine, TooMany}
use Rattle.sw_query.specs.declared.refusal.Why.TheVariants as why
use Rattle.sw_rows.proofs.Scans.RowLaws.{table-schema}
use Rattle.sw_rows.proofs.Scans.TextRowLaws.{table_coded}
use Rattle.sw_lang.specs.Fits.{FitsCall}
use Rattle.sw_lang.specs.Learning.{learned}
use Rattle.sw_lang.specs.Reading.{line_at, refused, refusal_of as line_refusal}
use Rattle.sw_lang.specs.declared.fault.Fault.{Fault as LineFault}
use Rattle.sw_lang.specs.declared.reading.parse.TheConstants.{MOST_LINE}
use Rattle.sw_lang.proofs.Parsing.Fits.{line_fits}
use Rattle.sw_lang.proofs.Parsing.TextFits.{asks_of_texts, row_of_codes}
use Rattle.sw_lang.proofs.Known.Knowing.{learned_schema}
use Rattle.sw_lang.proofs.Parsing.Lines.{line_found}
use Rattle.sw_histories.specs.Told.{◌>>=◌}
use Rattle.sw_cli.specs.Run.{Start, cuts_of, or_refusal, refusal_of, rows_within, script_of, start_of}
use Rattle.sw_cli.specs.Script.{Script, SoFar, all_blocks, blocks_of, call_of_line, calls_in, is_divider, learning, script_lines, so_far, whole, with_block, with_call, with_line, with_lines}
use Rattle.sw_cli.specs.TextCalls.{IsOverTexts}
use Rattle.sw_cli.specs.declared.script.TheConstants.{MOST_BLOCKS, MOST_CALLS}
use Rattle.sw_histories.specs.ReadBack.{HasCells}
use Rattle.sw_histories.proofs.Back.TableCells.{table_cells}
use Rattle.sw_cli.proofs.Learned.{IsRead, cells_after, coded_after, read_after}

-- ---- answers of several steps

same-Ok : {A E : Type 0} (x y : A) → ◌≡◌ {A = Result A E} (Ok x) (Ok y) → x ≡ y
same-Ok x y h = cc

no-Ok : {A E : Type 0} (e : E) (y : A) → ◌≡◌ {A = Result A E} (Err e) (Ok y) → ⊥
no-Ok e y h = cc

-- where two steps gave something, so did each
both : {A B : Type 0} (r : Result A Refusal) (f : A → Result B Refusal) (y : B) → (r >>= f) ≡ Ok y → (x : A) × (r ≡ Ok x) × (f x ≡ Ok y)
both (Ok x) f y h = (x, refl, h)
both (Err e) f y h = absurd (no-Ok e y h)

if-Ok : {A : Type 0} (b : Bool) (r : Result A Refusal) (e : Refusal) (y : A) → (if b then r else Err e) ≡ Ok y → r ≡ Ok y
if-Ok true r e y h = h
if-Ok false r e y h = absurd (no-Ok e y h)

if-test : {A : Type 0} (b : Bool) (r : Result A Refusal) (e : Refusal) (y : A) → (if b then r else Err e) ≡ Ok y → b ≡ true
if-test true r e y h = refl
if-test false r e y h = absurd (no-Ok e y h)

unless-Ok : {A : Type 0} (b : Bool) (r : Result A Refusal) (e : Refusal) (y : A) → (if b then Err e else r) ≡ Ok y → r ≡ Ok y
unless-Ok true r e y h = absurd (no-Ok e y h)
unless-Ok false r e y h = h

unrefused : {A : Type 0} (n : ℕ) (r : Result A LineFault) (x : A) → refused n r ≡ Ok x → r ≡ Ok x
unrefused {A} n (Ok y) x h = ap (λ (z : A). Ok z) (same-Ok {E = Refusal} y x h)
unrefused n (Err f) x h = absurd (no-Ok (line_refusal n f) x h)

unfaulted : {A : Type 0} (r : Result A Fault) (x : A) → or_refusal r ≡ Ok x → r ≡ Ok x
unfaulted {A} (Ok y) x h = ap (λ (z : A). Ok z) (same-Ok {E = Refusal} y x h)
unfaulted (Err f) x h = absurd (no-Ok (refusal_of f) x h)

-- ---- lines

-- what holds of the lines so far: each call is that of a line over what is known by now, and rows of the table are coded
record AreOver (rs : List Row) (p : SoFar) : Type 0 where
  schema : IsSchema p.columns
  rows : AreCoded (kinds_of p.columns) rs
  cells : All (HasCells (kinds_of p.columns)) rs
  few : length (all_blocks p) ≤ MOST_BLOCKS
  closed : All (All (IsRead p.columns)) p.closed
  last : All (IsRead p.columns) p.last

block-over : (rs : List Row) (p q : SoFar) → AreOver rs p → with_block p ≡ Ok q → AreOver rs q
block-over rs p q o h =
    let made = if-Ok (nat_lt (length (all_blocks p)) MOST_BLOCKS) (Ok (so_far p.columns (all_blocks p) [])) (TooMany MOST_BLOCKS) q h in
    let room : nat_lt (length (all_blocks p)) MOST_BLOCKS ≡ true = if-test (nat_lt (length (all_blocks p)) MOST_BLOCKS) (Ok (so_far p.columns (all_blocks p) [])) (TooMany MOST_BLOCKS) q h in
    let less : length (all_blocks p) < 1024 = grind (arith, nat_tests, room) in
    subst (AreOver rs) (same-Ok {E = Refusal} _ q made) (record {
      schema = o.schema;
      rows = o.rows;
      cells = o.cells;
      few = omega (arith, length_push (all_blocks p) (let none : List Call = [] in none), less);
      closed = All-push (All (IsRead p.columns)) p.closed p.last o.closed o.last;
      last = All-nil (IsRead p.columns);
    })

learning-over : (rs : List Row) (p : SoFar) (line : List ℕ) → AreOver rs p → AreOver rs (learning p line)
learning-over rs p line o = record {
  schema = learned_schema p.columns line o.schema;
  rows = coded_after p.columns line rs o.schema o.rows;
  cells = cells_after p.columns line rs o.schema o.cells;
  few = o.few;
  closed = All-weaker (All (IsRead p.columns)) (All (IsRead (learned p.columns line))) (λ cs h. All-weaker (IsRead p.columns) (IsRead (learned p.columns line)) (λ c r. read_after p.columns line c o.schema r) cs h) p.closed o.closed;
  last = All-weaker (IsRead p.columns) (IsRead (learned p.columns line)) (λ c r. read_after p.columns line c o.schema r) p.last o.last;
}

call-over : (rs : List Row) (p q : SoFar) (call : Option Call) → AreOver rs p → IfSome call (IsRead p.columns) → with_call p call ≡ Ok q → AreOver rs q
call-over rs p q None o read h = subst (AreOver rs) (same-Ok {E = Refusal} p q h) o
call-over rs p q (Some c) o read h =
    let made = if-Ok (nat_lt (calls_in p.closed + length p.last) MOST_CALLS) (Ok (so_far p.columns p.closed (p.last ++ c ∷ []))) (TooMany MOST_CALLS) q h in
    subst (AreOver rs) (same-Ok {E = Refusal} _ q made) (record {
      schema = o.schema;
      rows = o.rows;
      cells = o.cells;
      few = omega (arith, length_push p.closed p.last, length_push p.closed (p.last ++ c ∷ []), o.few);
      closed = o.closed;
      last = All-push (IsRead p.columns) p.last c o.last read;
    })

line-read : (columns : List Column) (n : ℕ) (line : List ℕ) (call : Option Call) → call_of_line columns n line ≡ Ok call → IfSome call (IsRead (learned columns line))
line-read columns n line None h = tt
line-read columns n line (Some c) h =
    let short = unless-Ok (nat_lt MOST_LINE (length line)) (if is_utf8 line then refused n (line_at (learned columns line) line) else Err (BadLine n why.Encoding)) (BadLine n why.Length) (Some c) h in
    let text = if-Ok (is_utf8 line) (refused n (line_at (learned columns line) line)) (BadLine n why.Encoding) (Some c) short in
    (line, unrefused n (line_at (learned columns line) line) (Some c) text)

line-over : (rs : List Row) (n : ℕ) (p q : SoFar) (line : List ℕ) → AreOver rs p → with_line n p line ≡ Ok q → AreOver rs q
line-over rs n p q line o h = by_test (is_divider line) h
  where
    by_test : (b : Bool) → (if b then with_block p else call_of_line p.columns n line >>= with_call (learning p line)) ≡ Ok q → AreOver rs q
    by_test true k = block-over rs p q o k
    by_test false k =
        let steps = both (call_of_line p.columns n line) (with_call (learning p line)) q k in
        call-over rs (learning p line) q steps.0 (learning-over rs p line o) (line-read p.columns n line steps.0 steps.1) steps.2

lines-over : (rs : List Row) (n : ℕ) (p q : SoFar) (lines : List (List ℕ)) → AreOver rs p → with_lines n p lines ≡ Ok q → AreOver rs q
lines-over rs n p q [] o h = subst (AreOver rs) (same-Ok {E = Refusal} p q h) o
lines-over rs n p q (l ∷ ls) o h =
    let steps = both (with_line n p l) (λ r. with_lines (n + 1) r ls) q h in
    lines-over rs (n + 1) steps.0 q ls (line-over rs n p steps.0 l o steps.1) steps.2

-- ---- calls

read-over : (columns : List Column) (c : Call) → IsRead columns c → IsOverTexts columns c
read-over columns c (text, read) = by_call c (line_fits columns text (Some c) (line_found columns text (Some c) read))
  where
    by_call : (x : Call) → FitsCall columns x → IsOverTexts columns x
    by_call (Select q) fits = asks_of_texts columns q fits
    by_call (Insert cells) fits = λ key. row_of_codes columns key cells fits
    by_call (Delete key) fits = tt
    by_call (DeleteWhere conds) fits = asks_of_texts columns (counting conds) fits.query

-- ---- scripts and runs

-- what holds of attributes, rows and blocks
pub record AllOver (columns : List Column) (rs : List Row) (blocks : List (List Call)) : Type 0 where
  pub schema : IsSchema columns
  pub rows : AreCoded (kinds_of columns) rs
  pub calls : All (All (IsOverTexts columns)) blocks
  pub cells : All (HasCells (kinds_of columns)) rs
  pub read : All (All (IsRead columns)) blocks
  pub few : length blocks ≤ MOST_BLOCKS

whole-over : (rs : List Row) (p : SoFar) → AreOver rs p → AllOver p.columns rs (all_blocks p)
whole-over rs p o = record {
  schema = o.schema;
  rows = o.rows;
  calls = All-weaker (All (IsRead p.columns)) (All (IsOverTexts p.columns)) (λ cs h. All-weaker (IsRead p.columns) (IsOverTexts p.columns) (read-over p.columns) cs h) (all_blocks p) (All-push (All (IsRead p.columns)) p.closed p.last o.closed o.last);
  cells = o.cells;
  read = All-push (All (IsRead p.columns)) p.closed p.last o.closed o.last;
  few = o.few;
}

script-over : (rs : List Row) (columns : List Column) (bytes : List ℕ) (s : Script) → IsSchema columns → AreCoded (kinds_of columns) rs → All (HasCells (kinds_of columns)) rs → script_of columns bytes ≡ Ok s → AllOver s.columns rs s.blocks
script-over rs columns bytes s is coded cells h =
    let few = both (or_refusal (bytes_within MOST_BYTES bytes)) (blocks_of columns) s h in
    let start : SoFar = so_far columns [] [] in
    let steps = both (with_lines 1 start (script_lines few.0)) (λ p. Ok (whole p)) s few.2 in
    let begins : AreOver rs start = record { schema = is; rows = coded; cells = cells; few = omega arith; closed = All-nil (All (IsRead columns)); last = All-nil (IsRead columns) } in
    subst (λ (t : Script). AllOver t.columns rs t.blocks) (same-Ok {E = Refusal} (whole steps.0) s steps.2) (whole-over rs steps.0 (lines-over rs 1 start steps.0 (script_lines few.0) begins steps.1))

same-rows : (limit : ℕ) (rs found : List Row) → rows_within limit rs ≡ Ok found → rs ≡ found
same-rows limit rs found h = same-Ok {E = Refusal} rs found (unless-Ok (nat_lt limit (length rs)) (Ok rs) (TooMany limit) found h)

-- the attributes, rows and calls that a run starts from are over texts
pub start_over : (limit : ℕ) (cuts table script : List ℕ) (s : Start) → start_of limit cuts table script ≡ Ok s → AllOver s.columns s.rows s.blocks
start_over limit cuts table script s h =
    let first = both (or_refusal (table_of table)) _ s h in
    let t = first.0 in
    let read : table_of table ≡ Ok t = unfaulted (table_of table) t first.1 in
    let second = both (script_of t.columns script) _ s first.2 in
    let third = both (cuts_of second.0.columns cuts) _ s second.2 in
    let fourth = both (rows_within limit t.rows) _ s third.2 in
    let over = script-over t.rows t.columns script second.0 (table-schema table t read) (table_coded table t read) (table_cells table t read) second.1 in
    let rows = subst (λ (rs : List Row). AllOver second.0.columns rs second.0.blocks) (same-rows limit t.rows fourth.0 fourth.1) over in
    subst (λ (x : Start). AllOver x.columns x.rows x.blocks) (same-Ok {E = Refusal} _ s fourth.2) rows
