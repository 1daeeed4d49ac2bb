-- A table that is written is read as the rows shown.
use Rattle.std.proofs.Common.{◌≡◌, ◌∙◌, ap, sym, refl, subst, ℕ, zero, suc, ◌+◌, ◌-◌, ◌<◌, ◌≤◌, ◌&&◌, ◌||◌, ◌==◌, inl, inr, ℤ, pos, Bool, true, false, not, List, [], ◌∷◌, ◌++◌, length, map, replicate, codes, bytes_eq, nat_eq, nat_lt, Some, Ok, slice_get, arith, true≢false}
use Rattle.std.specs.List.{All, AllByRecursion, list_all, list_any}
use Rattle.std.specs.Prelude.{if◌then◌else◌, unwrap_or}
use Rattle.std.proofs.lemmas.Bool.{and_parts}
use Rattle.std.proofs.lemmas.Bool.Decides.{nat_tests}
use Rattle.std.proofs.lemmas.List.Elements.{recursion_from_All}
use Rattle.std.proofs.lemmas.List.Folds.{list_all-append}
use Rattle.std.proofs.lemmas.Option.{same_Some}
use Rattle.std.proofs.lemmas.Slice.Eq.{bytes_eq-Decides}
use Rattle.csv.specs.Reading.{default_config, records, strip_bom}
use Rattle.sw_rows.proofs.Tables.CellSpelling.{cell_spelled}
use Rattle.sw_rows.proofs.Schemas.DomainLaws.{over_over}
use Rattle.sw_rows.proofs.Schemas.SchemaLaws.{name_there}
use Rattle.sw_rows.proofs.Tables.TableSpelling.{table_read_back}
use Rattle.sw_rows.proofs.Schemas.TextLaws.{code_only, code_there, text_sound}
use Rattle.sw_rows.specs.Cells.{cell_value}
use Rattle.sw_rows.specs.Domains.{Domain, IsDomain, IsFresh, IsOver, is_of_texts, kind_in, over}
use Rattle.sw_rows.specs.Domains as kind
use Rattle.sw_rows.specs.Header.{Column, IsSchema, holding, is_known, is_name, is_name_byte, kinds_of, names_differ, names_of, texts_of}
use Rattle.sw_rows.specs.Spelling.{WriteCells, WriteColumns, WriteRows, WritesCell, WritesHeader, WritesTable, kind_text}
use Rattle.sw_rows.specs.Tables.{Table, padded, seeing, table_of, text_field, text_fields, texts_in}
use Rattle.sw_rows.specs.TextRows.{Cell, cell_seen, cells_seen, rows_seen, text_or}
use Rattle.sw_query.specs.Scan.{WantsBelow}
use Rattle.sw_rows.specs.Texts.{AreTexts, code_of, has_text, is_text, text_at, text_of, with_texts}
use Rattle.sw_rows.specs.declared.loading.TheConstants.{MOST_BYTES}
use Rattle.sw_query.specs.declared.query.Call.TheVariants as call
use Rattle.sw_query.specs.declared.query.Want.{Want}
use Rattle.sw_query.specs.declared.query.Want.TheVariants as want
use Rattle.sw_query.specs.declared.reply.ReplyRow.{ReplyRow}
use Rattle.sw_rows.specs.declared.table.TheConstants.{MOST_ROWS}
use Rattle.sw_table.specs.declared.row.Row.{Row}
use Rattle.sw_lang.proofs.Known.Knowing.{texts_known}
use Rattle.sw_lang.proofs.Printed.Cells.{cell_printed, value_tok, word_is}
use Rattle.sw_lang.specs.Fits.{HasFewNames}
use Rattle.sw_lang.specs.Grammar.{IsValue}
use Rattle.sw_lang.specs.PrintedCalls.{name_at}
use Rattle.sw_lang.specs.Reading.{word_value}
use Rattle.sw_lang.specs.Replies.{cell_text, kind_at}
use Rattle.sw_lang.specs.Tokens.{Tok, word}
use Rattle.sw_outputs.specs.Fields.{attrs_differ, cell_field, cell_fields, header_field, records_text, row_fields, table_text}
use Rattle.sw_outputs.specs.JsonLines.{attrs_wanted, text_shown}
use Rattle.sw_outputs.specs.JsonReading.{AreCellsOf, IsCellOf, IsRowOf}
use Rattle.sw_outputs.specs.TableReading.{Shows, TablesAreReadBack, numbered}
use Rattle.sw_lang.proofs.Known.Given.{AreIn, HaveCodes, Texts, all_given, codes_append, has_from_code}
use Rattle.sw_outputs.proofs.JsonBack.{kind_sound, kinds_sound}
use Rattle.sw_outputs.proofs.RecordsBack.{HaveFields, records_back}

-- ---- cells

word_of : Tok → List ℕ
word_of (word w) = w
word_of t = []

is_a_word : Tok → Bool
is_a_word (word w) = true
is_a_word t = false

-- what is printed of a number or a flag is a cell
read_plain : (k : Domain) (text : List ℕ) (z : ℤ) → IsValue k (word text) z → cell_value k text ≡ Some z
unfolding word_of is_a_word
read_plain k text z (inl v) = (word_is k text z (ap (word_value k) (ap word_of v.1) ∙ v.2)).1
read_plain k text z (inr v) = absurd (true≢false (ap is_a_word v.1))

-- a cell that is written as a bare word is read as that cell
pub plain_read : (k : Domain) (z : ℤ) → value_tok k z ≡ word (cell_text k z) → IsDomain k → IsCellOf k z → cell_value k (cell_text k z) ≡ Some z
plain_read k z same d c =
    let printed = cell_printed k z (record { places = d; of_kind = c.0; fits = c.1 }) in
    read_plain k (cell_text k z) z (subst (λ t. IsValue k t z) same printed.value)

plain_writes : (k : Domain) (z : ℤ) → value_tok k z ≡ word (cell_text k z) → IsDomain k → IsCellOf k z → WritesCell k (cell_text k z) z
plain_writes k z same d c = cell_spelled k (cell_text k z) z (plain_read k z same d c)

-- how the field of a cell is read over other texts
record IsAgain (ts : Texts) (k : Domain) (z : ℤ) : Type 0 where
  cell : ℤ
  writes : WritesCell (over ts k) (cell_field k z) cell
  seen : cell_seen (over ts k) cell ≡ cell_seen k z

-- a cell of texts has a text
pub record HasText (texts : Texts) (z : ℤ) : Type 0 where
  pub text : List ℕ
  pub shown : text_shown texts z ≡ text
  pub at : text_at texts z ≡ Some text
  pub sound : is_text text ≡ true
  pub coded : (code : ℕ) × (code_of texts text ≡ Some code)

-- a cell of a sound domain of texts has its text, which is shown and has a code
pub has_its_text : (texts : Texts) (z : ℤ) → IsDomain (kind.Text texts) → IsCellOf (kind.Text texts) z → HasText texts z
has_its_text texts z d c =
    let code : ℕ = c.0.0 in
    let text : List ℕ = c.0.2 in
    let at : text_at texts z ≡ Some text = ap (text_at texts) c.0.1 ∙ c.0.3 in
    record {
      text = text;
      shown = ap (λ o. unwrap_or o []) at;
      at = at;
      sound = text_sound texts code text d c.0.3;
      coded = (code, code_there texts code text d.distinct c.0.3);
    }

one_field : (t : List ℕ) → is_text t ≡ true → text_field (kind.Text []) t ≡ t ∷ []
one_field t h = rw h refl

text_again : (ts texts : Texts) (z : ℤ) → IsDomain (kind.Text texts) → IsCellOf (kind.Text texts) z → HaveCodes ts (text_field (kind.Text []) (text_shown texts z)) → IsAgain ts (kind.Text texts) z
text_again ts texts z d c h =
    let t = has_its_text texts z d c in
    let sound : is_text (text_shown texts z) ≡ true = ap is_text t.shown ∙ t.sound in
    let given = subst (HaveCodes ts) (one_field (text_shown texts z) sound) h in
    let code : ℕ = given.0.0 in
    let back : text_of ts code ≡ Some t.text = code_only ts code (text_shown texts z) given.0.1 ∙ ap Some t.shown in
    record {
      cell = pos code;
      writes = (sound, (code, given.0.1, refl));
      seen = ap (text_or (pos code)) back ∙ sym (ap (text_or z) t.at);
    }

cell_again : (ts : Texts) (k : Domain) (z : ℤ) → IsDomain k → IsCellOf k z → HaveCodes ts (text_field (over [] k) (cell_field k z)) → IsAgain ts k z
cell_again ts kind.Int z d c h = record { cell = z; writes = plain_writes kind.Int z refl d c; seen = refl }
cell_again ts (kind.Fix places) z d c h = record { cell = z; writes = plain_writes (kind.Fix places) z refl d c; seen = refl }
cell_again ts kind.Flag z d c h = record { cell = z; writes = plain_writes kind.Flag z refl d c; seen = refl }
cell_again ts (kind.Text texts) z d c h = text_again ts texts z d c h

-- ---- rows

record AreAgain (ts : Texts) (ks : List Domain) (zs : List ℤ) : Type 0 where
  cells : List ℤ
  long : length cells ≡ length ks
  writes : WriteCells (map (over ts) ks) (cell_fields ks zs) cells
  seen : cells_seen (map (over ts) ks) cells ≡ cells_seen ks zs

cells_again : (ts : Texts) (ks : List Domain) (zs : List ℤ) → AllByRecursion IsDomain ks → AreCellsOf ks zs → HaveCodes ts (text_fields (map (over []) ks) (cell_fields ks zs)) → AreAgain ts ks zs
cells_again ts [] [] d c h = record { cells = []; long = refl; writes = tt; seen = refl }
cells_again ts [] (z ∷ zs) d c h = absurd c
cells_again ts (k ∷ ks) [] d c h = absurd c
cells_again ts (k ∷ ks) (z ∷ zs) d c h =
    let parts = codes_append ts (text_field (over [] k) (cell_field k z)) (text_fields (map (over []) ks) (cell_fields ks zs)) h in
    let one = cell_again ts k z d.0 c.0 parts.0 in
    let rest = cells_again ts ks zs d.1 c.1 parts.1 in
    record {
      cells = one.cell ∷ rest.cells;
      long = ap suc rest.long;
      writes = (one.writes, rest.writes);
      seen = ap (λ (s : Cell). s ∷ cells_seen (map (over ts) ks) rest.cells) one.seen ∙ ap (λ (s : List Cell). cell_seen k z ∷ s) rest.seen;
    }

-- cells past the last attribute are not seen
seen_padded : (ts : Texts) (ks : List Domain) (zs more : List ℤ) → length zs ≡ length ks → cells_seen (map (over ts) ks) (zs ++ more) ≡ cells_seen (map (over ts) ks) zs
seen_padded ts [] [] more e = refl
seen_padded ts [] (z ∷ zs) more e = absurd (omega arith)
seen_padded ts (k ∷ ks) [] more e = absurd (omega arith)
seen_padded ts (k ∷ ks) (z ∷ zs) more e = ap (λ (s : List Cell). cell_seen (over ts k) z ∷ s) (seen_padded ts ks zs more (omega arith))

record AreRowsAgain (ts : Texts) (ks : List Domain) (key : ℕ) (rows : List ReplyRow) : Type 0 where
  again : List Row
  writes : WriteRows (map (over ts) ks) key (map (row_fields ks) rows) again
  seen : rows_seen (map (over ts) ks) again ≡ numbered key (map (λ r. cells_seen ks r.cells) rows)

rows_again : (ts : Texts) (ks : List Domain) (key : ℕ) (rows : List ReplyRow) → AllByRecursion IsDomain ks → AllByRecursion (IsRowOf ks) rows
    → HaveCodes ts (texts_in (map (over []) ks) (map (row_fields ks) rows)) → AreRowsAgain ts ks key rows
rows_again ts ks key [] d c h = record { again = []; writes = tt; seen = refl }
rows_again ts ks key (r ∷ rows) d c h =
    let parts = codes_append ts (text_fields (map (over []) ks) (row_fields ks r)) (texts_in (map (over []) ks) (map (row_fields ks) rows)) h in
    let one = cells_again ts ks r.cells d c.0.1 parts.0 in
    let rest = rows_again ts ks (key + 1) rows d c.1 parts.1 in
    let row : Row = record { key = key; cells = padded one.cells } in
    let cells : cells_seen (map (over ts) ks) (padded one.cells) ≡ cells_seen ks r.cells = seen_padded ts ks one.cells (replicate (8 - length one.cells) (pos 0)) one.long ∙ one.seen in
    record {
      again = row ∷ rest.again;
      writes = ((one.cells, one.writes, refl), rest.writes);
      seen = ap (λ s. record { key = key; cells = s } ∷ rows_seen (map (over ts) ks) rest.again) cells
          ∙ ap (λ s. record { key = key; cells = cells_seen ks r.cells } ∷ s) rest.seen;
    }

-- ---- texts

-- the texts of rows are texts
fields_sound : (ds : List Domain) (fs : List (List ℕ)) → list_all is_text (text_fields ds fs) ≡ true
fields_sound [] fs = refl
fields_sound (d ∷ ds) [] = refl
fields_sound (d ∷ ds) (f ∷ fs) = by_test (is_of_texts d) (is_text f) refl (fields_sound ds fs)
  where
    by_test : (a b : Bool) → is_text f ≡ b → list_all is_text (text_fields ds fs) ≡ true → list_all is_text ((if a && b then f ∷ [] else []) ++ text_fields ds fs) ≡ true
    by_test true true e more = rw (e, more) refl
    by_test true false e more = more
    by_test false b e more = more

rows_sound : (ds : List Domain) (rs : List (List (List ℕ))) → list_all is_text (texts_in ds rs) ≡ true
rows_sound ds [] = refl
rows_sound ds (r ∷ rs) = list_all-append is_text (text_fields ds r) (texts_in ds rs) ∙ rw (fields_sound ds r, rows_sound ds rs) refl

-- a domain over these texts
abbrev AreOver : Texts → List Domain → Type 0
AreOver ts ks = AllByRecursion (IsOver ts) ks

field_in : (ts : Texts) (k : Domain) (z : ℤ) → IsOver ts k → IsDomain k → IsCellOf k z → AreIn ts (text_field (over [] k) (cell_field k z))
field_in ts kind.Int z o d c = refl
field_in ts (kind.Fix places) z o d c = refl
field_in ts kind.Flag z o d c = refl
field_in ts (kind.Text texts) z o d c =
    let t = has_its_text texts z d c in
    let sound : is_text (text_shown texts z) ≡ true = ap is_text t.shown ∙ t.sound in
    let there : has_text ts (text_shown texts z) ≡ true = ap (has_text ts) t.shown ∙ ap (λ us. has_text us t.text) (sym o) ∙ has_from_code texts t.text t.coded.0 t.coded.1 in
    subst (AreIn ts) (sym (one_field (text_shown texts z) sound)) (rw there refl)

both_in : (ts xs ys : Texts) → AreIn ts xs → AreIn ts ys → AreIn ts (xs ++ ys)
both_in ts xs ys h k = list_all-append (has_text ts) xs ys ∙ ap (λ b. b && list_all (has_text ts) ys) h ∙ k

fields_in : (ts : Texts) (ks : List Domain) (zs : List ℤ) → AreOver ts ks → AllByRecursion IsDomain ks → AreCellsOf ks zs → AreIn ts (text_fields (map (over []) ks) (cell_fields ks zs))
fields_in ts [] zs o d c = refl
fields_in ts (k ∷ ks) [] o d c = refl
fields_in ts (k ∷ ks) (z ∷ zs) o d c = both_in ts (text_field (over [] k) (cell_field k z)) (text_fields (map (over []) ks) (cell_fields ks zs)) (field_in ts k z o.0 d.0 c.0) (fields_in ts ks zs o.1 d.1 c.1)

rows_in : (ts : Texts) (ks : List Domain) (rows : List ReplyRow) → AreOver ts ks → AllByRecursion IsDomain ks → AllByRecursion (IsRowOf ks) rows → AreIn ts (texts_in (map (over []) ks) (map (row_fields ks) rows))
rows_in ts ks [] o d c = refl
rows_in ts ks (r ∷ rows) o d c = both_in ts (text_fields (map (over []) ks) (row_fields ks r)) (texts_in (map (over []) ks) (map (row_fields ks) rows)) (fields_in ts ks r.cells o d c.0.1) (rows_in ts ks rows o d c.1)

kind_over : (ts : Texts) (columns : List Column) (a : ℕ) → AllByRecursion (λ c. IsOver ts c.1) columns → IsOver ts (kind_at columns a)
kind_over ts [] a h = tt
kind_over ts (c ∷ cs) zero h = h.0
kind_over ts (c ∷ cs) (suc a) h = kind_over ts cs a h.1

kinds_over : (ts : Texts) (columns : List Column) (attrs : List ℕ) → AllByRecursion (λ c. IsOver ts c.1) columns → AreOver ts (map (kind_at columns) attrs)
kinds_over ts columns [] h = tt
kinds_over ts columns (a ∷ attrs) h = (kind_over ts columns a h, kinds_over ts columns attrs h)

-- ---- the header

-- an attribute that is shown, without texts
abbrev fresh : List Column → ℕ → Column
fresh columns a = (name_at columns a, over [] (kind_at columns a))

abbrev named : List Column → List ℕ → List Column
named columns attrs = map (fresh columns) attrs

name_sound : (columns : List Column) (a : ℕ) → list_all (λ c. is_name c.0) columns ≡ true → a < length columns → is_name (name_at columns a) ≡ true
name_sound [] a h lt = absurd (omega arith)
name_sound (c ∷ cs) zero h lt = (and_parts (is_name c.0) (list_all (λ d. is_name d.0) cs) h).0
name_sound (c ∷ cs) (suc a) h lt = name_sound cs a (and_parts (is_name c.0) (list_all (λ d. is_name d.0) cs) h).1 (omega arith)

name_place : (columns : List Column) (a : ℕ) → a < length columns → slice_get (names_of columns) a ≡ Some (name_at columns a)
name_place [] a lt = absurd (omega arith)
name_place (c ∷ cs) zero lt = refl
name_place (c ∷ cs) (suc a) lt = name_place cs a (omega arith)

fresh_domain : (k : Domain) → IsDomain k → IsFresh (over [] k)
fresh_domain kind.Int d = tt
fresh_domain (kind.Fix places) d = d
fresh_domain kind.Flag d = tt
fresh_domain (kind.Text texts) d = refl

fresh_text : (k : Domain) → kind_text k ≡ kind_text (over [] k)
fresh_text kind.Int = refl
fresh_text (kind.Fix places) = refl
fresh_text kind.Flag = refl
fresh_text (kind.Text texts) = refl

abbrev AreBelow : List Column → List ℕ → Type 0
AreBelow columns attrs = AllByRecursion (λ a. a < length columns) attrs

columns_written : (columns : List Column) (attrs : List ℕ) → list_all (λ c. is_name c.0) columns ≡ true → AllByRecursion (λ c. IsDomain c.1) columns → AreBelow columns attrs
    → WriteColumns (map (header_field columns) attrs) (named columns attrs)
columns_written columns [] names d b = tt
columns_written columns (a ∷ attrs) names d b = (
  (
    name_sound columns a names b.0,
    fresh_domain (kind_at columns a) (kind_sound columns a d),
    inr (ap (λ t. name_at columns a ++ (codes ":" ++ t)) (fresh_text (kind_at columns a))),
  ),
  columns_written columns attrs names d b.1,
)

-- attributes of one name are one
one_name : (columns : List Column) (a b : ℕ) → names_differ columns ≡ true → a < length columns → b < length columns → name_at columns a ≡ name_at columns b → a ≡ b
one_name columns a b differ la lb e =
    same_Some a b (sym (name_there columns a (name_at columns a) differ (name_place columns a la)) ∙ name_there columns b (name_at columns a) differ (name_place columns b lb ∙ ap Some (sym e)))

false_is : (b : Bool) → (b ≡ true → ⊥) → b ≡ false
false_is true f = absurd (f refl)
false_is false f = refl

not_known : (columns : List Column) (a : ℕ) (attrs : List ℕ) → names_differ columns ≡ true → a < length columns → AreBelow columns attrs
    → list_any (λ b. nat_eq b a) attrs ≡ false → is_known (named columns attrs) (name_at columns a) ≡ false
not_known columns a [] differ la below h = refl
not_known columns a (b ∷ attrs) differ la below h = by_eq (nat_eq b a) refl (λ k. not_known columns a attrs differ la below.1 k) h
  where
    by_eq : (e : Bool) → nat_eq b a ≡ e → (list_any (λ x. nat_eq x a) attrs ≡ false → is_known (named columns attrs) (name_at columns a) ≡ false)
        → (e || list_any (λ x. nat_eq x a) attrs) ≡ false → is_known (named columns (b ∷ attrs)) (name_at columns a) ≡ false
    by_eq true e rest k = absurd (true≢false k)
    by_eq false e rest k =
        let other : bytes_eq (name_at columns a) (name_at columns b) ≡ false =
        false_is (bytes_eq (name_at columns a) (name_at columns b)) (λ s.
        let same : a ≡ b = one_name columns a b differ la below.0 ((bytes_eq-Decides (name_at columns a) (name_at columns b)).0 s) in
        grind (arith, nat_tests, e, same)) in
        rw (other, rest k) refl

negated : (b : Bool) → not b ≡ true → b ≡ false
negated true h = absurd cc
negated false h = refl

names_apart : (columns : List Column) (attrs : List ℕ) → names_differ columns ≡ true → AreBelow columns attrs → attrs_differ attrs ≡ true → names_differ (named columns attrs) ≡ true
names_apart columns [] differ below h = refl
names_apart columns (a ∷ attrs) differ below h =
    let parts = and_parts (not (list_any (λ b. nat_eq b a) attrs)) (attrs_differ attrs) h in
    let unknown = not_known columns a attrs differ below.0 below.1 (negated (list_any (λ b. nat_eq b a) attrs) parts.0) in
    rw (unknown, names_apart columns attrs differ below.1 parts.1) refl

same_length : {A B : Type 0} (f : A → B) (xs : List A) → length (map f xs) ≡ length xs
same_length f [] = refl
same_length f (x ∷ xs) = ap suc (same_length f xs)

-- ---- the table

-- kinds of attributes that are shown, over other texts
kinds_again : (ts : Texts) (columns : List Column) (attrs : List ℕ) → kinds_of (holding ts (named columns attrs)) ≡ map (over ts) (map (kind_at columns) attrs)
kinds_again ts columns [] = refl
kinds_again ts columns (a ∷ attrs) = ap (λ (d : Domain). d ∷ kinds_of (holding ts (named columns attrs))) (over_over [] ts (kind_at columns a)) ∙ ap (λ (ds : List Domain). over ts (kind_at columns a) ∷ ds) (kinds_again ts columns attrs)

kinds_named : (columns : List Column) (attrs : List ℕ) → kinds_of (named columns attrs) ≡ map (over []) (map (kind_at columns) attrs)
kinds_named columns [] = refl
kinds_named columns (a ∷ attrs) = ap (λ (ds : List Domain). over [] (kind_at columns a) ∷ ds) (kinds_named columns attrs)

names_again : (ts : Texts) (columns : List Column) (attrs : List ℕ) → names_of (holding ts (named columns attrs)) ≡ map (name_at columns) attrs
names_again ts columns [] = refl
names_again ts columns (a ∷ attrs) = ap (λ (ns : List (List ℕ)). name_at columns a ∷ ns) (names_again ts columns attrs)

kind_kept : (ts : Texts) (k : Domain) → kind_in (over ts k) ≡ kind_in k
kind_kept ts kind.Int = refl
kind_kept ts (kind.Fix places) = refl
kind_kept ts kind.Flag = refl
kind_kept ts (kind.Text texts) = refl

kinds_kept : (ts : Texts) (columns : List Column) (attrs : List ℕ) → map kind_in (map (over ts) (map (kind_at columns) attrs)) ≡ map (λ a. kind_in (kind_at columns a)) attrs
kinds_kept ts columns [] = refl
kinds_kept ts columns (a ∷ attrs) = rw (kind_kept ts (kind_at columns a), kinds_kept ts columns attrs) refl

-- ---- the records of the table

name_start : (c : ℕ) → is_name_byte c ≡ true → (c == 239) ≡ false
name_start c h = grind (arith, nat_tests, h)

table_split : (name more : List ℕ) (fs : List (List ℕ)) (rs : List (List (List ℕ))) → is_name name ≡ true → HaveFields rs
    → records default_config (strip_bom (records_text (((name ++ more) ∷ fs) ∷ rs))) ≡ ((name ++ more) ∷ fs) ∷ rs
table_split [] more fs rs h some = absurd (true≢false (sym h))
table_split (c ∷ cs) more fs rs h some =
    let bytes : list_all is_name_byte (c ∷ cs) ≡ true = grind (arith, h) in
    let here : is_name_byte c ≡ true = (and_parts (is_name_byte c) (list_all is_name_byte cs) bytes).0 in
    records_back c (cs ++ more) fs rs (name_start c here) some

cells_have : (k : Domain) (ks : List Domain) (zs : List ℤ) → AreCellsOf (k ∷ ks) zs → 0 < length (cell_fields (k ∷ ks) zs)
cells_have k ks [] c = absurd c
cells_have k ks (z ∷ zs) c = omega arith

rows_have : (k : Domain) (ks : List Domain) (rows : List ReplyRow) → AllByRecursion (IsRowOf (k ∷ ks)) rows → HaveFields (map (row_fields (k ∷ ks)) rows)
rows_have k ks [] c = tt
rows_have k ks (r ∷ rows) c = (cells_have k ks r.cells c.0.1, rows_have k ks rows c.1)

no_texts : AreTexts []
no_texts = record { few = omega arith; sound = refl; distinct = refl }

-- the texts of the rows all have codes in the table that is read
codes_there : (columns : List Column) (attrs : List ℕ) (rows : List ReplyRow) → IsSchema columns → AllByRecursion (IsRowOf (map (kind_at columns) attrs)) rows
    → HaveCodes (with_texts [] (texts_in (kinds_of (named columns attrs)) (map (row_fields (map (kind_at columns) attrs)) rows))) (texts_in (map (over []) (map (kind_at columns) attrs)) (map (row_fields (map (kind_at columns) attrs)) rows))
codes_there columns attrs rows s cells =
    let ks = map (kind_at columns) attrs in
    let others = map (row_fields ks) rows in
    let ts : Texts = texts_of columns in
    let known : AreTexts ts = texts_known columns s.sound.domains in
    let d = recursion_from_All (λ (c : Column). IsDomain c.1) columns s.sound.domains in
    let o = recursion_from_All (λ (c : Column). IsOver ts c.1) columns s.shared in
    let xs : Texts = texts_in (map (over []) ks) others in
    let few : length ts ≤ 1048576 = omega (arith, known.few) in
    let given : HaveCodes (with_texts [] xs) xs = all_given ts [] xs few no_texts (rows_sound (map (over []) ks) others) refl (rows_in ts ks rows (kinds_over ts columns attrs o) (kinds_sound columns attrs d) cells) in
    subst (λ ds. HaveCodes (with_texts [] (texts_in ds others)) xs) (sym (kinds_named columns attrs)) given

header_written : (columns : List Column) (attrs : List ℕ) → IsSchema columns → 0 < length attrs → length attrs ≤ 8 → AreBelow columns attrs → attrs_differ attrs ≡ true
    → WritesHeader (map (header_field columns) attrs) (named columns attrs)
header_written columns attrs s some few below differ =
    let d = recursion_from_All (λ (c : Column). IsDomain c.1) columns s.sound.domains in
    let long = same_length (header_field columns) attrs in
    record {
      some = omega (arith, long);
      few = omega (arith, long);
      fields_are = columns_written columns attrs s.sound.names d below;
      distinct = names_apart columns attrs s.sound.distinct below differ;
    }

table_back : (columns : List Column) (attrs : List ℕ) (rows : List ReplyRow) → IsSchema columns → 0 < length attrs → length attrs ≤ 8 → AreBelow columns attrs → attrs_differ attrs ≡ true
    → AllByRecursion (IsRowOf (map (kind_at columns) attrs)) rows → length rows ≤ MOST_ROWS → length (table_text columns attrs rows) ≤ MOST_BYTES
    → (t : Table) × (table_of (table_text columns attrs rows) ≡ Ok t) × Shows columns attrs rows t
table_back columns [] rows s some few below differ cells few_rows few_bytes = absurd (omega arith)
table_back columns (a ∷ later) rows s some few below differ cells few_rows few_bytes =
    let attrs : List ℕ = a ∷ later in
    let ks : List Domain = map (kind_at columns) attrs in
    let others : List (List (List ℕ)) = map (row_fields ks) rows in
    let ts : Texts = with_texts [] (texts_in (kinds_of (named columns attrs)) others) in
    let d = recursion_from_All (λ (c : Column). IsDomain c.1) columns s.sound.domains in
    let again = rows_again ts ks 1 rows (kinds_sound columns attrs d) cells (codes_there columns attrs rows s cells) in
    let kinds : kinds_of (seeing (named columns attrs) others) ≡ map (over ts) ks = kinds_again ts columns attrs in
    let t : Table = record { columns = seeing (named columns attrs) others; rows = again.again } in
    let name : is_name (name_at columns a) ≡ true = name_sound columns a s.sound.names below.0 in
    let written : WritesTable (table_text columns attrs rows) t = record {
      few_bytes = few_bytes;
      header = map (header_field columns) attrs;
      others = others;
      split = table_split (name_at columns a) (codes ":" ++ kind_text (kind_at columns a)) (map (header_field columns) later) others name (rows_have (kind_at columns a) (map (kind_at columns) later) rows cells);
      named = named columns attrs;
      header_is = header_written columns attrs s some few below differ;
      columns_are = refl;
      few_rows = omega (arith, same_length (row_fields ks) rows);
      rows_are = subst (λ ds. WriteRows ds 1 others again.again) (sym kinds) again.writes;
    } in (
      t,
      table_read_back (table_text columns attrs rows) t written,
      record {
        names = names_again ts columns attrs;
        kinds = ap (map kind_in) kinds ∙ kinds_kept ts columns attrs;
        shown = ap (λ ds. rows_seen ds again.again) kinds ∙ again.seen;
      },
    )

-- a table of rows that a call shows is read as just these rows
pub tables_read_back : TablesAreReadBack
tables_read_back columns (call.Select q) rows s f m cells few_rows few_bytes = by_want q.want f.attrs.want f.names m cells few_bytes
  where
    by_want : (w : Want) → WantsBelow (length columns) w → HasFewNames w → (nat_lt 0 (length (attrs_wanted w)) && attrs_differ (attrs_wanted w)) ≡ true
        → All (IsRowOf (map (kind_at columns) (attrs_wanted w))) rows → length (table_text columns (attrs_wanted w) rows) ≤ MOST_BYTES
        → (t : Table) × (table_of (table_text columns (attrs_wanted w) rows) ≡ Ok t) × Shows columns (attrs_wanted w) rows t
    by_want (want.Rows names) below few h all bytes =
        let parts = and_parts (nat_lt 0 (length names)) (attrs_differ names) h in
        table_back columns names rows s (omega (arith, few.0)) few.1 (recursion_from_All (λ a. a < length columns) names below) parts.1 (recursion_from_All (IsRowOf (map (kind_at columns) names)) rows all) few_rows bytes
    by_want want.Count below few h all bytes = absurd (true≢false (sym h))
    by_want (want.Sum a) below few h all bytes = absurd (true≢false (sym h))
    by_want (want.Min a) below few h all bytes = absurd (true≢false (sym h))
    by_want (want.Max a) below few h all bytes = absurd (true≢false (sym h))
tables_read_back columns (call.Insert cs) rows s f m cells few_rows few_bytes = absurd (true≢false (sym m))
tables_read_back columns (call.Delete key) rows s f m cells few_rows few_bytes = absurd (true≢false (sym m))
tables_read_back columns (call.DeleteWhere conds) rows s f m cells few_rows few_bytes = absurd (true≢false (sym m))
