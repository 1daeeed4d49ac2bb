-- Cells and rows, one by one.
use Rattle.std.proofs.Common.{◌≡◌, subst, Bool, true≢false, append-nil, append_assoc, ◌∙◌, ap, sym, refl, ℕ, ℤ, pos, ◌+◌, ◌-◌, ◌<◌, ◌≤◌, true, false, cond, option_map, ◌&&◌, ◌||◌, Option, Result, List, [], ◌∷◌, ◌++◌, length, get_or, take, drop, Some, None, replicate, zero, suc, length-drop, slice_get, min, nat_eq, nat_lt, arith, Ok, Err}
use Rattle.std.proofs.lemmas.List.{drop_more, drop_all, take-append-drop, get_or-drop}
use Rattle.std.proofs.lemmas.Grind.{common_steps}
use Rattle.std.proofs.lemmas.Option.{none-some, same_Some, slice_get-map, slice_get_within, get_or_from_slice_get}
use Rattle.std.specs.List.{list_any}
use Rattle.std.specs.Result.{OnOk, is_err}
use Rattle.std.proofs.lemmas.Bool.{or_parts, cond-false, cond-true, le-ltb, lt-ltb}
use Rattle.std.proofs.lemmas.Bool.Decides.{nat_tests}
use Rattle.sw_rows.specs.Cells.{cell_value}
use Rattle.sw_rows.specs.Domains as kind
use Rattle.sw_rows.specs.Domains.{is_of_texts, over, under}
use Rattle.sw_rows.specs.Texts.{are_full, code_given, code_of, has_text, is_text, with_text, with_texts}
use Rattle.sw_rows.specs.declared.schema.texts.TheConstants.{MOST_TEXTS}
use Rattle.sw_query.specs.declared.refusal.Refusal.TheVariants as refusal
use Rattle.sw_rows.proofs.Schemas.DomainLaws.{holding_kinds, kinds_of_texts, over_numbers, under_numbers}
use Rattle.sw_rows.proofs.Schemas.TextLaws.{code_kept, given_kept, known, never_given, with_more}
use Rattle.sw_rows.specs.Header.{Column, Fault, bad_table, has_texts, holding, kinds_of, too_many}
use Rattle.sw_rows.specs.Gives.{Fails}
use Rattle.sw_query.specs.declared.refusal.Refusal.{Refusal}
use Rattle.sw_rows.proofs.Options.{fails_then}
use Rattle.sw_rows.specs.Tables.{◌>>=◌, seeing, table_with, texts_in, row_of, rows_after, cell_at, over_seen, text_field, text_fields, cells_after, cells_of, fault_at, or_bad, padded, table_in, table_of, then_padded}
use Rattle.sw_rows.specs.Domains.{Domain}
use Rattle.sw_rows.specs.declared.table.TheConstants.{MOST_ROWS}
use Rattle.sw_table.specs.declared.row.Row.{Row}
use Rattle.sw_rows.specs.declared.loading.TheConstants.{MOST_BYTES}
use Rattle.sw_table.specs.Packed.{zeros}

-- one more cell
pub cells_step : (rec : ℕ) (done : List ℤ) (ds : List Domain) (fields : List (List ℕ)) (i : ℕ) (d : Domain) → slice_get ds i ≡ Some d → i < length fields
    → cells_after rec done (drop i ds) (drop i fields) ≡ (cell_at rec (length done + 1) d (get_or fields i []) >>= λ z. cells_after rec (done ++ z ∷ []) (drop (i + 1) ds) (drop (i + 1) fields))
cells_step rec done ds fields i d e h =
    let one : drop i ds ≡ d ∷ drop (i + 1) ds = drop_more ds i d (slice_get_within ds i d e) ∙ ap (λ x. x ∷ drop (i + 1) ds) (get_or_from_slice_get ds i d d e) in
    let t : List ℕ = get_or fields i [] in
    rw (one, drop_more fields i [] h) (by_value (fault_at rec (length done + 1) d t) (cell_value d t) (λ z. cells_after rec (done ++ z ∷ []) (drop (i + 1) ds) (drop (i + 1) fields)))
  where
    by_value : (fault : Fault) (o : Option ℤ) (more : ℤ → Result (List ℤ) Fault) → or_bad fault o more ≡ (or_bad fault o (λ z. Ok z) >>= more)
    by_value fault None more = refl
    by_value fault (Some z) more = refl

-- at the end the cells are those done
pub cells_end : (rec : ℕ) (done : List ℤ) (ds : List Domain) (fields : List (List ℕ)) (i : ℕ) → length ds ≤ i → cells_after rec done (drop i ds) fields ≡ Ok done
cells_end rec done ds fields i h = rw (drop_all i ds h) refl

-- what is read of a cell goes on
pub cell_read : (rec : ℕ) (done : List ℤ) (ds : List Domain) (fields : List (List ℕ)) (i : ℕ) (d : Domain) (z : ℤ) → slice_get ds i ≡ Some d → i < length fields → length done ≡ i → cell_at rec (i + 1) d (get_or fields i []) ≡ Ok z
    → cells_after rec done (drop i ds) (drop i fields) ≡ cells_after rec (done ++ z ∷ []) (drop (i + 1) ds) (drop (i + 1) fields)
cell_read rec done ds fields i d z e h len read =
    cells_step rec done ds fields i d e h
    ∙ ap (λ n. cell_at rec (n + 1) d (get_or fields i []) >>= λ y. cells_after rec (done ++ y ∷ []) (drop (i + 1) ds) (drop (i + 1) fields)) len
    ∙ ap (λ o. o >>= λ y. cells_after rec (done ++ y ∷ []) (drop (i + 1) ds) (drop (i + 1) fields)) read

-- and a fault is that of the record
pub cell_fault : (rec : ℕ) (done : List ℤ) (ds : List Domain) (fields : List (List ℕ)) (i : ℕ) (d : Domain) (e : Refusal) → slice_get ds i ≡ Some d → i < length fields → length done ≡ i → Fails ⊥ e (cell_at rec (i + 1) d (get_or fields i []))
    → Fails ⊥ e (then_padded (cells_after rec done (drop i ds) (drop i fields)))
cell_fault rec done ds fields i d e is h len fails =
    rw (cells_step rec done ds fields i d is h ∙ ap (λ n. cell_at rec (n + 1) d (get_or fields i []) >>= λ y. cells_after rec (done ++ y ∷ []) (drop (i + 1) ds) (drop (i + 1) fields)) len)
    (fails_then (λ (cells : List ℤ). Ok (padded cells)) e (cell_at rec (i + 1) d (get_or fields i []) >>= λ y. cells_after rec (done ++ y ∷ []) (drop (i + 1) ds) (drop (i + 1) fields))
    (fails_then (λ y. cells_after rec (done ++ y ∷ []) (drop (i + 1) ds) (drop (i + 1) fields)) e (cell_at rec (i + 1) d (get_or fields i [])) fails))

-- a record of the right length
pub cells_of_long : (rec : ℕ) (ds : List Domain) (fields : List (List ℕ)) → length fields ≡ length ds → cells_of rec ds fields ≡ cells_after rec [] ds fields
cells_of_long rec ds fields h =
    let same : nat_eq (length fields) (length ds) ≡ true = grind (arith, nat_tests) in
    ap (λ b. cond b (cells_after rec [] ds fields) (Err (bad_table rec (min (length fields) (length ds) + 1)))) same

all_zero : (xs : List ℤ) → ((k : ℕ) → get_or xs k (pos 0) ≡ pos 0) → xs ≡ replicate (length xs) (pos 0)
all_zero [] h = refl
all_zero (x ∷ xs) h = cc (h 0, all_zero xs (λ k. h (suc k)))

-- eight cells, of which those from n on are 0
pub padded_take : (cells : List ℤ) (n : ℕ) → length cells ≡ 8 → n ≤ 8 → ((k : ℕ) → n ≤ k → get_or cells k (pos 0) ≡ pos 0) → padded (take n cells) ≡ cells
padded_take cells n eight le rest =
    let zeros : drop n cells ≡ replicate (length (drop n cells)) (pos 0) = all_zero (drop n cells) (λ k. get_or-drop n cells k (pos 0) ∙ rest (n + k) (omega arith)) in
    let left : length (drop n cells) ≡ 8 - length (take n cells) = grind (arith, common_steps) in
    ap (λ m. take n cells ++ replicate m (pos 0)) (sym left) ∙ ap (λ ys. take n cells ++ ys) (sym zeros) ∙ take-append-drop n cells

zero_in : (m i : ℕ) → get_or (replicate m (pos 0)) i (pos 0) ≡ pos 0
zero_in zero i = refl
zero_in (suc m) zero = refl
zero_in (suc m) (suc i) = zero_in m i

-- eight cells that are 0 from n on
pub zeros_past : (cells : List ℤ) (n : ℕ) → length cells ≡ 8 → ((k : ℕ) → n ≤ k → get_or cells k (pos 0) ≡ pos 0) → drop n cells ≡ drop n zeros
zeros_past cells n eight rest =
    all_zero (drop n cells) (λ k. get_or-drop n cells k (pos 0) ∙ rest (n + k) (omega arith))
    ∙ ap (λ m. replicate m (pos 0)) (length-drop n cells ∙ ap (λ m. m - n) eight ∙ sym (length-drop n zeros))
    ∙ sym (all_zero (drop n zeros) (λ k. get_or-drop n zeros k (pos 0) ∙ zero_in 8 (n + k)))

-- bytes that are few enough spell what they are split into
pub table_of_few : (bytes : List ℕ) → length bytes ≤ MOST_BYTES → table_of bytes ≡ table_in bytes
table_of_few bytes h =
    let few : nat_lt MOST_BYTES (length bytes) ≡ false = grind (arith, nat_tests) in
    rw few refl

-- ---- texts

-- an attribute's domain among those over texts
pub under_at : (ts : List (List ℕ)) (ds : List Domain) (i : ℕ) (d : Domain) → slice_get ds i ≡ Some d → slice_get (under ts ds) i ≡ Some (over ts d)
under_at ts ds i d h = slice_get-map (over ts) ds i ∙ ap (option_map (over ts)) h

-- the texts of one more field
pub fields_step : (ds : List Domain) (fields : List (List ℕ)) (i : ℕ) (d : Domain) → slice_get ds i ≡ Some d → i < length fields
    → text_fields (drop i ds) (drop i fields) ≡ text_field d (get_or fields i []) ++ text_fields (drop (i + 1) ds) (drop (i + 1) fields)
fields_step ds fields i d e h =
    let one : drop i ds ≡ d ∷ drop (i + 1) ds = drop_more ds i d (slice_get_within ds i d e) ∙ ap (λ x. x ∷ drop (i + 1) ds) (get_or_from_slice_get ds i d d e) in
    rw (one, drop_more fields i [] h) refl

-- behind the last attribute there is no field of texts
pub fields_end : (ds : List Domain) (fields : List (List ℕ)) (i : ℕ) → length ds ≤ i → text_fields (drop i ds) fields ≡ []
fields_end ds fields i h = rw (drop_all i ds h) refl

-- a text that was given a code has it as its cell from then on
pub text_given : (ts : List (List ℕ)) (t : List ℕ) (more : List (List ℕ)) (code : ℕ) (rec field : ℕ) → is_text t ≡ true → code_given ts t ≡ Ok code
    → cell_at rec field (over_seen ts (kind.Text []) t more) t ≡ Ok (pos code)
text_given ts t more code rec field is h =
    let first : text_field (kind.Text []) t ≡ t ∷ [] = cond-true (is_text t) (t ∷ []) [] is in
    let all : with_texts ts (text_field (kind.Text []) t ++ more) ≡ with_texts (with_text ts t) more = ap (λ xs. with_texts ts (xs ++ more)) first in
    let found : code_of (with_texts (with_text ts t) more) t ≡ Some code = code_kept (with_text ts t) more t code (given_kept ts t code h) in
    ap (λ us. cell_at rec field (kind.Text us) t) all
    ∙ ap (λ o. or_bad (fault_at rec field (kind.Text (with_texts (with_text ts t) more)) t) o (λ z. Ok z)) (cond-true (is_text t) (option_map pos (code_of (with_texts (with_text ts t) more) t)) None is ∙ ap (option_map pos) found)

-- a text that has a code changes nothing
pub field_known : (ts : List (List ℕ)) (t : List ℕ) (code : ℕ) → is_text t ≡ true → code_of ts t ≡ Some code → with_texts ts (text_field (kind.Text []) t) ≡ ts
field_known ts t code is h =
    let first : text_field (kind.Text []) t ≡ t ∷ [] = cond-true (is_text t) (t ∷ []) [] is in
    ap (with_texts ts) first ∙ cond-true (has_text ts t || are_full ts) ts (ts ++ t ∷ []) (ap (λ b. b || are_full ts) (known ts code t h))

-- and one for which there was none has none then either
pub text_not_given : (ts : List (List ℕ)) (t : List ℕ) (more : List (List ℕ)) (e : Fault) (rec field : ℕ) → is_text t ≡ true → code_given ts t ≡ Err e
    → cell_at rec field (over_seen ts (kind.Text []) t more) t ≡ Err e
text_not_given ts t more e rec field is h =
    let none = never_given ts t (text_field (kind.Text []) t ++ more) e h in
    let us : List (List ℕ) = with_texts ts (text_field (kind.Text []) t ++ more) in
    ap (λ o. or_bad (fault_at rec field (kind.Text us) t) o (λ z. Ok z)) (cond-true (is_text t) (option_map pos (code_of us t)) None is ∙ ap (option_map pos) none.0)
    ∙ ap (λ f. Err f) (cond-true (is_text t) (too_many MOST_TEXTS) (bad_table rec field) is ∙ sym none.1)

-- bytes that may not stand in a cell of texts are refused at their place
pub text_refused_at : (ts : List (List ℕ)) (t : List ℕ) (rec field : ℕ) → is_text t ≡ false → cell_at rec field (kind.Text ts) t ≡ Err (bad_table rec field)
text_refused_at ts t rec field is = rw is refl

-- the given fault, or memory, as for one text
pub text_fails : (ts : List (List ℕ)) (t : List ℕ) (more : List (List ℕ)) (x : Refusal) (rec field : ℕ) → is_text t ≡ true → Fails ⊥ x (code_given ts t) → Fails ⊥ x (cell_at rec field (over_seen ts (kind.Text []) t more) t)
text_fails ts t more refusal.NoMemory rec field is h = tt
text_fails ts t more (refusal.BadTable a b) rec field is h = text_not_given ts t more (bad_table a b) rec field is h
text_fails ts t more (refusal.BadLine a b) rec field is h = absurd h
text_fails ts t more (refusal.UnknownAttribute a) rec field is h = absurd h
text_fails ts t more (refusal.TooMany a) rec field is h = text_not_given ts t more (too_many a) rec field is h
text_fails ts t more (refusal.NoBlank a b) rec field is h = absurd h
text_fails ts t more (refusal.Short a b c) rec field is h = absurd h
text_fails ts t more (refusal.Contended a b) rec field is h = absurd h
text_fails ts t more (refusal.SharesOut a b) rec field is h = absurd h
text_fails ts t more (refusal.HistoryFull a) rec field is h = absurd h
text_fails ts t more (refusal.NotLegal a) rec field is h = absurd h
text_fails ts t more refusal.Input rec field is h = absurd h
text_fails ts t more refusal.Output rec field is h = absurd h
text_fails ts t more (refusal.Ahead a b) rec field is h = absurd h

-- numbers know no texts
pub number_at : (ts : List (List ℕ)) (d : Domain) (t : List ℕ) (more : List (List ℕ)) (rec field : ℕ) → is_of_texts d ≡ false → cell_at rec field (over_seen ts d t more) t ≡ or_bad (bad_table rec field) (cell_value d t) (λ z. Ok z)
number_at ts d t more rec field h =
    let same = over_numbers (with_texts ts (text_field d t ++ more)) d h in
    ap (λ e. cell_at rec field e t) same ∙ ap (λ b. or_bad (cond (b && is_text t) (too_many MOST_TEXTS) (bad_table rec field)) (cell_value d t) (λ z. Ok z)) h

-- a field of numbers teaches no text
pub no_text_field : (d : Domain) (t : List ℕ) → is_of_texts d ≡ false → text_field d t ≡ []
no_text_field d t h = ap (λ b. cond (b && is_text t) (t ∷ []) []) h

-- a text that was taken under a test is that text
pub text_is : (b : Bool) (t f : List ℕ) → Some t ≡ cond b (Some f) None → t ≡ f
text_is true t f h = same_Some t f h
text_is false t f h = absurd (none-some t (sym h))

-- the texts of a field, then those of the rest, then others
pub seen_all : (start ts first rest all more : List (List ℕ)) → with_texts ts (first ++ rest) ≡ with_texts start all → with_texts ts (first ++ (rest ++ more)) ≡ with_texts start (all ++ more)
seen_all start ts first rest all more h =
    ap (with_texts ts) (sym (append_assoc first rest more)) ∙ with_more ts (first ++ rest) more ∙ ap (λ us. with_texts us more) h ∙ sym (with_more start all more)

-- one more row
pub rows_step : (ds : List Domain) (done : List Row) (r : List (List ℕ)) (rest : List (List (List ℕ))) (cells : List ℤ) → length done < MOST_ROWS → then_padded (cells_of (length done + 1) ds r) ≡ Ok cells
    → rows_after ds done (r ∷ rest) ≡ rows_after ds (done ++ row_of (length done + 1) cells ∷ []) rest
rows_step ds done r rest cells lt read =
    cond-true (nat_lt (length done) MOST_ROWS) (then_padded (cells_of (length done + 1) ds r) >>= λ z. rows_after ds (done ++ row_of (length done + 1) z ∷ []) rest) (Err (too_many MOST_ROWS)) (lt-ltb (length done) MOST_ROWS lt)
    ∙ ap (λ o. o >>= λ z. rows_after ds (done ++ row_of (length done + 1) z ∷ []) rest) read

-- a row with a fault ends the reading with it
pub rows_fault : (ds : List Domain) (done : List Row) (r : List (List ℕ)) (rest : List (List (List ℕ))) (e : Refusal) → length done < MOST_ROWS → Fails ⊥ e (then_padded (cells_of (length done + 1) ds r))
    → Fails ⊥ e (rows_after ds done (r ∷ rest))
rows_fault ds done r rest e lt fails =
    rw (cond-true (nat_lt (length done) MOST_ROWS) (then_padded (cells_of (length done + 1) ds r) >>= λ z. rows_after ds (done ++ row_of (length done + 1) z ∷ []) rest) (Err (too_many MOST_ROWS)) (lt-ltb (length done) MOST_ROWS lt))
    (fails_then (λ z. rows_after ds (done ++ row_of (length done + 1) z ∷ []) rest) e (then_padded (cells_of (length done + 1) ds r)) fails)

-- a row past the limit is refused
pub rows_full : (ds : List Domain) (done : List Row) (r : List (List ℕ)) (rest : List (List (List ℕ))) → MOST_ROWS ≤ length done → rows_after ds done (r ∷ rest) ≡ Err (too_many MOST_ROWS)
rows_full ds done r rest full =
    cond-false (nat_lt (length done) MOST_ROWS) (then_padded (cells_of (length done + 1) ds r) >>= λ z. rows_after ds (done ++ row_of (length done + 1) z ∷ []) rest) (Err (too_many MOST_ROWS)) (le-ltb (length done) MOST_ROWS full)

-- what is told of a field over the texts so far holds over all that are seen
pub over_all : (rec field : ℕ) (d : Domain) (t : List ℕ) (us vs : List (List ℕ)) (P : Result ℤ Fault → Type 0) → us ≡ vs → P (cell_at rec field (over us d) t) → P (cell_at rec field (over vs d) t)
over_all rec field d t us vs P e p = subst (λ ws. P (cell_at rec field (over ws d) t)) e p

-- ---- rows that are left

abbrev Records : Type 0
Records = List (List (List ℕ))

-- the texts of records are those of the first and then of the others
pub texts_step : (ds : List Domain) (r : List (List ℕ)) (rest : Records) → texts_in ds (r ∷ rest) ≡ text_fields ds r ++ texts_in ds rest
texts_step ds r rest = refl

-- the records that were left are a record and those left now, or none
pub left_one : (found : Bool) (old : Records) (r : List (List ℕ)) (new : Records) → found ≡ true → old ≡ cond found (r ∷ new) [] → old ≡ r ∷ new
left_one found old r new h e = e ∙ cond-true found (r ∷ new) [] h

-- where no record was found, none is left
pub left_none : (found : Bool) (old : Records) (r : List (List ℕ)) (new : Records) → found ≡ false → old ≡ cond found (r ∷ new) [] → old ≡ []
left_none found old r new h e = e ∙ cond-false found (r ∷ new) [] h

-- the texts of a record, then those of the rest and others, over those so far
pub seen_next : (start ts : List (List ℕ)) (ds : List Domain) (r : List (List ℕ)) (rest all : Records) (more : List (List ℕ)) → with_texts ts (texts_in ds (r ∷ rest)) ≡ with_texts start (texts_in ds all)
    → with_texts ts (text_fields ds r ++ (texts_in ds rest ++ more)) ≡ with_texts start (texts_in ds all ++ more)
seen_next start ts ds r rest all more h = seen_all start ts (text_fields ds r) (texts_in ds rest) (texts_in ds all) more h

-- a record's cells over all texts that are seen
pub cells_over : (ds : List Domain) (n : ℕ) (r : List (List ℕ)) (us vs : List (List ℕ)) (P : Result (List ℤ) Fault → Type 0) → us ≡ vs → P (then_padded (cells_of n (under us ds) r)) → P (then_padded (cells_of n (under vs ds) r))
cells_over ds n r us vs P e p = subst (λ ws. P (then_padded (cells_of n (under ws ds) r))) e p

-- without attributes of texts no text is seen
pub no_fields : (ds : List Domain) (fields : List (List ℕ)) → list_any is_of_texts ds ≡ false → text_fields ds fields ≡ []
no_fields [] fields h = refl
no_fields (d ∷ ds) [] h = refl
no_fields (d ∷ ds) (t ∷ ts) h =
    let parts = or_parts (is_of_texts d) (list_any is_of_texts ds) h in
    ap (λ xs. xs ++ text_fields ds ts) (no_text_field d t parts.0) ∙ no_fields ds ts parts.1

-- records have no texts where no attribute is of texts
pub no_texts_in : (ds : List Domain) (records : Records) → list_any is_of_texts ds ≡ false → texts_in ds records ≡ []
no_texts_in ds [] h = refl
no_texts_in ds (r ∷ rs) h = ap (λ xs. xs ++ texts_in ds rs) (no_fields ds r h) ∙ no_texts_in ds rs h

-- ---- tables

-- the kinds of a schema that has seen records are over the texts of these
pub seeing_kinds : (cs : List Column) (rs : Records) → kinds_of (seeing cs rs) ≡ under (with_texts [] (texts_in (kinds_of cs) rs ++ [])) (kinds_of cs)
seeing_kinds cs rs = holding_kinds (with_texts [] (texts_in (kinds_of cs) rs)) cs ∙ ap (λ xs. under (with_texts [] xs) (kinds_of cs)) (sym (append-nil (texts_in (kinds_of cs) rs)))

-- rows that are read make the table
pub table_read : (cs : List Column) (rs : Records) (rows : List Row) → rows_after (under (with_texts [] (texts_in (kinds_of cs) rs ++ [])) (kinds_of cs)) [] rs ≡ Ok rows → table_with (seeing cs rs) rs ≡ Ok (record { columns = seeing cs rs; rows = rows })
table_read cs rs rows h = ap (λ o. o >>= λ rows. Ok (record { columns = seeing cs rs; rows = rows })) (ap (λ ds. rows_after ds [] rs) (seeing_kinds cs rs) ∙ h)

-- a fault of the rows is that of the table
pub table_fails : (cs : List Column) (rs : Records) (e : Refusal) → Fails ⊥ e (rows_after (under (with_texts [] (texts_in (kinds_of cs) rs ++ [])) (kinds_of cs)) [] rs) → Fails ⊥ e (table_with (seeing cs rs) rs)
table_fails cs rs e h = fails_then (λ (rows : List Row). Ok (record { columns = seeing cs rs; rows = rows })) e (rows_after (kinds_of (seeing cs rs)) [] rs) (rw (seeing_kinds cs rs) h)

-- attributes of numbers see no text
pub seeing_numbers : (cs : List Column) (rs : Records) → has_texts cs ≡ false → seeing cs rs ≡ holding [] cs
seeing_numbers cs rs h = ap (λ xs. holding (with_texts [] xs) cs) (no_texts_in (kinds_of cs) rs (kinds_of_texts cs ∙ h))

numbers_kinds : (cs : List Column) → has_texts cs ≡ false → kinds_of (holding [] cs) ≡ kinds_of cs
numbers_kinds cs h = holding_kinds [] cs ∙ under_numbers [] cs h

-- the same where no attribute is of texts
pub numbers_read : (cs : List Column) (rs : Records) (rows : List Row) → has_texts cs ≡ false → rows_after (kinds_of cs) [] rs ≡ Ok rows → table_with (seeing cs rs) rs ≡ Ok (record { columns = holding [] cs; rows = rows })
numbers_read cs rs rows h k = ap (λ ds. table_with ds rs) (seeing_numbers cs rs h) ∙ ap (λ o. o >>= λ rows. Ok (record { columns = holding [] cs; rows = rows })) (ap (λ ds. rows_after ds [] rs) (numbers_kinds cs h) ∙ k)

-- the same where no attribute is of texts
pub numbers_fail : (cs : List Column) (rs : Records) (e : Refusal) → has_texts cs ≡ false → Fails ⊥ e (rows_after (kinds_of cs) [] rs) → Fails ⊥ e (table_with (seeing cs rs) rs)
numbers_fail cs rs e h k =
    rw (seeing_numbers cs rs h) (fails_then (λ (rows : List Row). Ok (record { columns = holding [] cs; rows = rows })) e (rows_after (kinds_of (holding [] cs)) [] rs) (rw (numbers_kinds cs h) k))

-- what holds of an answer holds where there is no fault
pub on_ok : {A B : Type 0} (r : Result A B) (P : Type 0) → is_err r ≡ false → OnOk r P → P
on_ok (Ok x) P h p = p
on_ok (Err e) P h p = absurd (true≢false h)
