-- The beginning of a text: which of its records are those of the whole, and what a record of too many fields tells.
use Rattle.std.specs.Prelude.{◌&&◌}
use Rattle.std.proofs.Common.{◌≡◌, ◌∙◌, ap, sym, refl, true≢false, append-nil, append_assoc, ℕ, ◌==◌, ◌+◌, ◌<◌, ◌≤◌, Bool, true, false, cond, suc, min, List, [], ◌∷◌, ◌++◌, length, length-append, nat_eq, nat_lt, Option, Some, None, Result, Ok, Err, ℤ, arith}
use Rattle.std.proofs.Math.Nat.{min-eq_right, min-le_left, min-le_right}
use Rattle.std.proofs.lemmas.Bool.Decides.{nat_tests}
use Rattle.csv.specs.Machine.{after_end, ends_with, field_after, fields_after, in_field, is_end, next_record, start_field, start_record, step}
use Rattle.csv.specs.Reading.{default_config, is_bom, records, records_from, strip_bom}
use Rattle.csv.specs.declared.parser.Action.{Action}
use Rattle.csv.specs.declared.parser.Action.TheVariants as act
use Rattle.csv.specs.declared.parser.State.{State}
use Rattle.csv.specs.declared.parser.Terminator.TheVariants as term
use Rattle.csv.specs.declared.parser.State.TheVariants as st
use Rattle.sw_rows.specs.Cells.{cell_value}
use Rattle.sw_rows.specs.Domains.{Domain, is_of_texts, under}
use Rattle.sw_rows.specs.Beginnings.{Begins, GoesOn}
use Rattle.sw_rows.specs.Header.{Column, Fault, bad_table, kinds_of, too_many}
use Rattle.sw_rows.specs.Tables.{◌>>=◌, cells_after, cells_of, fault_at, or_bad, padded, row_of, rows_after, seeing, table_of_records, table_with, text_fields, texts_in, text_field, then_padded}
use Rattle.sw_rows.specs.Texts.{is_text, with_texts}
use Rattle.sw_rows.specs.declared.table.TheConstants.{MOST_ROWS}
use Rattle.sw_rows.specs.declared.schema.texts.TheConstants.{MOST_TEXTS}
use Rattle.sw_table.specs.declared.row.Row.{Row}
use Rattle.sw_rows.proofs.Loads.CutLaws.{records_within}
use Rattle.sw_rows.proofs.Options.{by_bool}
use Rattle.sw_rows.proofs.Tables.RecordLemmas.{records_step}
use Rattle.sw_rows.proofs.Tables.TableLemmas.{seeing_kinds}

abbrev Fields : Type 0
Fields = List (List ℕ)

abbrev Records : Type 0
Records = List Fields

-- ---- the machine

chosen : {A : Type 0} (b : Bool) (x y : A) (P : A → Type 0) → (b ≡ true → P x) → (b ≡ false → P y) → P (cond b x y)
chosen true x y P f g = f refl
chosen false x y P f g = g refl

-- inside a record
abbrev inside : State → Bool
inside st.StartRecord = false
inside st.AfterCr = false
inside st.InComment = false
inside st.StartField = true
inside st.InField = true
inside st.InQuoted = true
inside st.AfterQuote = true
inside st.InEscape = true

-- not in a comment, which this reader has not
abbrev speaks : State → Bool
speaks st.StartRecord = true
speaks st.AfterCr = true
speaks st.InComment = false
speaks st.StartField = true
speaks st.InField = true
speaks st.InQuoted = true
speaks st.AfterQuote = true
speaks st.InEscape = true

abbrev Stays : State × Action → Type 0
Stays sa = is_end sa.1 ≡ false → inside sa.0 ≡ true

abbrev Speaks : State × Action → Type 0
Speaks sa = speaks sa.0 ≡ true

field_stays : (c : ℕ) → Stays (in_field default_config c)
field_stays c = chosen (c == 44) (st.StartField, act.EndField) (cond (ends_with term.CRLF c) (after_end term.CRLF c, act.EndRecord) (st.InField, act.Copy)) Stays (λ _. λ _. refl) (λ _. chosen (ends_with term.CRLF c) (after_end term.CRLF c, act.EndRecord) (st.InField, act.Copy) Stays (λ _. λ h. absurd (true≢false h)) (λ _. λ _. refl))

stays : (s : State) (c : ℕ) → inside s ≡ true → Stays (step default_config s c)
stays st.StartRecord c h = absurd (true≢false (sym h))
stays st.AfterCr c h = absurd (true≢false (sym h))
stays st.InComment c h = absurd (true≢false (sym h))
stays st.StartField c h = chosen (c == 34) (st.InQuoted, act.Skip) (in_field default_config c) Stays (λ _. λ _. refl) (λ _. field_stays c)
stays st.InField c h = field_stays c
stays st.InQuoted c h = chosen (c == 34) (st.AfterQuote, act.Skip) (st.InQuoted, act.Copy) Stays (λ _. λ _. refl) (λ _. λ _. refl)
stays st.AfterQuote c h = chosen (c == 34) (st.InQuoted, act.Copy) (in_field default_config c) Stays (λ _. λ _. refl) (λ _. field_stays c)
stays st.InEscape c h = λ _. refl

ended_speaks : (b : Bool) → speaks (cond b st.AfterCr st.StartRecord) ≡ true
ended_speaks true = refl
ended_speaks false = refl

field_speaks : (c : ℕ) → Speaks (in_field default_config c)
field_speaks c = chosen (c == 44) (st.StartField, act.EndField) (cond (ends_with term.CRLF c) (after_end term.CRLF c, act.EndRecord) (st.InField, act.Copy)) Speaks (λ _. refl) (λ _. chosen (ends_with term.CRLF c) (after_end term.CRLF c, act.EndRecord) (st.InField, act.Copy) Speaks (λ _. ended_speaks (c == 13)) (λ _. refl))

begin_speaks : (c : ℕ) → Speaks (start_field default_config c)
begin_speaks c = chosen (c == 34) (st.InQuoted, act.Skip) (in_field default_config c) Speaks (λ _. refl) (λ _. field_speaks c)

record_speaks : (c : ℕ) → Speaks (step default_config st.StartRecord c)
record_speaks c = chosen (ends_with term.CRLF c) (st.StartRecord, act.Skip) (start_field default_config c) Speaks (λ _. refl) (λ _. begin_speaks c)

goes_speaking : (s : State) (c : ℕ) → speaks s ≡ true → Speaks (step default_config s c)
goes_speaking st.InComment c h = absurd (true≢false (sym h))
goes_speaking st.StartRecord c h = record_speaks c
goes_speaking st.AfterCr c h = chosen (c == 10) (st.StartRecord, act.Skip) (start_record default_config c) Speaks (λ _. refl) (λ _. record_speaks c)
goes_speaking st.StartField c h = begin_speaks c
goes_speaking st.InField c h = field_speaks c
goes_speaking st.InQuoted c h = chosen (c == 34) (st.AfterQuote, act.Skip) (st.InQuoted, act.Copy) Speaks (λ _. refl) (λ _. refl)
goes_speaking st.AfterQuote c h = chosen (c == 34) (st.InQuoted, act.Copy) (in_field default_config c) Speaks (λ _. refl) (λ _. field_speaks c)
goes_speaking st.InEscape c h = refl

-- a record that goes on with these fields comes first
abbrev Continues : Fields → Records → Type 0
Continues fs [] = ⊥
Continues fs (t ∷ ts) = (g : List ℕ) × (gs : Fields) × (t ≡ fs ++ g ∷ gs)

end_fields : (a : Action) (fs : Fields) (f : List ℕ) → is_end a ≡ true → fields_after a fs f ≡ fs ++ f ∷ []
end_fields act.EndRecord fs f h = refl
end_fields act.EndField fs f h = refl
end_fields act.Skip fs f h = absurd (true≢false (sym h))
end_fields act.Copy fs f h = absurd (true≢false (sym h))

further : (fs : Fields) (f : List ℕ) (rs : Records) → Continues (fs ++ f ∷ []) rs → Continues fs rs
further fs f [] h = h
further fs f (t ∷ ts) h = (f, h.0 ∷ h.1, h.2 ∙ append_assoc fs (f ∷ []) (h.0 ∷ h.1))

continued : (a : Action) (fs : Fields) (f : List ℕ) (rs : Records) → Continues (fields_after a fs f) rs → Continues fs rs
continued act.EndRecord fs f rs h = further fs f rs h
continued act.EndField fs f rs h = further fs f rs h
continued act.Skip fs f rs h = h
continued act.Copy fs f rs h = h

-- at the end of a text
last_of : (s : State) (fs : Fields) (f : List ℕ) → inside s ≡ true → records_within s fs f [] ≡ (fs ++ f ∷ []) ∷ []
unfolding next_record records_from
last_of st.StartRecord fs f h = absurd (true≢false (sym h))
last_of st.AfterCr fs f h = absurd (true≢false (sym h))
last_of st.InComment fs f h = absurd (true≢false (sym h))
last_of st.StartField fs f h = refl
last_of st.InField fs f h = refl
last_of st.InQuoted fs f h = refl
last_of st.AfterQuote fs f h = refl
last_of st.InEscape fs f h = refl

nothing_of : (s : State) (fs : Fields) (f : List ℕ) → speaks s ≡ true → inside s ≡ false → records_within s fs f [] ≡ []
unfolding next_record
nothing_of st.StartRecord fs f h k = refl
nothing_of st.AfterCr fs f h k = refl
nothing_of st.InComment fs f h k = absurd (true≢false (sym h))
nothing_of st.StartField fs f h k = absurd (true≢false k)
nothing_of st.InField fs f h k = absurd (true≢false k)
nothing_of st.InQuoted fs f h k = absurd (true≢false k)
nothing_of st.AfterQuote fs f h k = absurd (true≢false k)
nothing_of st.InEscape fs f h k = absurd (true≢false k)

-- one byte
byte_ends : (s : State) (fs : Fields) (f : List ℕ) (c : ℕ) (xs : List ℕ) → is_end (step default_config s c).1 ≡ true → records_within s fs f (c ∷ xs) ≡ (fs ++ f ∷ []) ∷ records_within (step default_config s c).0 [] [] xs
unfolding next_record
byte_ends s fs f c xs e = rw (e, end_fields (step default_config s c).1 fs f e) (ap (λ rs. (fs ++ f ∷ []) ∷ rs) (records_step (step default_config s c).0 xs))

byte_goes : (s : State) (fs : Fields) (f : List ℕ) (c : ℕ) (xs : List ℕ) → is_end (step default_config s c).1 ≡ false
    → records_within s fs f (c ∷ xs) ≡ records_within (step default_config s c).0 (fields_after (step default_config s c).1 fs f) (field_after (step default_config s c).1 c f) xs
unfolding next_record
byte_goes s fs f c xs e = rw e refl

-- from inside a record one comes that goes on with its fields
going_on : (xs : List ℕ) (s : State) (fs : Fields) (f : List ℕ) → inside s ≡ true → Continues fs (records_within s fs f xs)
going_on [] s fs f h = rw (last_of s fs f h) (f, [], refl)
going_on (c ∷ xs) s fs f h =
    let a = (step default_config s c).1 in
    by_bool (is_end a) (λ e. rw (byte_ends s fs f c xs e) (f, [], refl))
    (λ e. rw (byte_goes s fs f c xs e) (continued a fs f (records_within (step default_config s c).0 (fields_after a fs f) (field_after a c f) xs) (going_on xs (step default_config s c).0 (fields_after a fs f) (field_after a c f) (stays s c h e))))

last_begins : (fs : Fields) (f : List ℕ) (rs : Records) → Continues fs rs → Begins ((fs ++ f ∷ []) ∷ []) rs
last_begins fs f [] h = h
last_begins fs f (t ∷ ts) h = (fs, f, h.0, h.1, refl, h.2)

more_begin : (fs : Fields) (f : List ℕ) (rs ts : Records) → Begins rs ts → Begins ((fs ++ f ∷ []) ∷ rs) ((fs ++ f ∷ []) ∷ ts)
more_begin fs f [] ts h = (fs, f, f, [], refl, refl)
more_begin fs f (r ∷ rs) ts h = (refl, h)

begin_within : (front rest : List ℕ) (s : State) (fs : Fields) (f : List ℕ) → speaks s ≡ true → Begins (records_within s fs f front) (records_within s fs f (front ++ rest))
begin_within [] rest s fs f h =
    by_bool (inside s) (λ i. rw (last_of s fs f i) (last_begins fs f (records_within s fs f rest) (going_on rest s fs f i))) (λ o. rw (nothing_of s fs f h o) tt)
begin_within (c ∷ front) rest s fs f h =
    let next = (step default_config s c).0 in
    let a = (step default_config s c).1 in
    by_bool (is_end a)
    (λ e. rw (byte_ends s fs f c front e, byte_ends s fs f c (front ++ rest) e) (more_begin fs f (records_within next [] [] front) (records_within next [] [] (front ++ rest)) (begin_within front rest next [] [] (goes_speaking s c h))))
    (λ e. rw (byte_goes s fs f c front e, byte_goes s fs f c (front ++ rest) e) (begin_within front rest next (fields_after a fs f) (field_after a c f) (goes_speaking s c h)))

-- the records of a beginning
pub records_begin : (front rest : List ℕ) → Begins (records default_config front) (records default_config (front ++ rest))
records_begin front rest = rw (records_step st.StartRecord front, records_step st.StartRecord (front ++ rest)) (begin_within front rest st.StartRecord [] [] refl)

-- ---- rows

-- the last record has more fields than n
abbrev IsLastLong : ℕ → Records → Type 0
IsLastLong n [] = ⊥
IsLastLong n (r ∷ []) = n < length r
IsLastLong n (r ∷ s ∷ rs) = IsLastLong n (s ∷ rs)

no_less : (r t : Fields) → GoesOn r t → length r ≤ length t
no_less r t h =
    let a : length r ≡ length h.0 + 1 = ap length h.4 ∙ length-append h.0 (h.1 ∷ []) in
    let b : length t ≡ length h.0 + suc (length h.3) = ap length h.5 ∙ length-append h.0 (h.2 ∷ h.3) in
    omega arith

-- a fault of a cell is of a field that the attributes reach
cell_within : (b : Bool) (limit rec field n rec2 field2 : ℕ) → ◌≡◌ {A = Result (List ℤ) Fault} (Err (cond b (too_many limit) (bad_table rec field))) (Err (bad_table rec2 field2)) → field ≤ n → field2 ≤ n
cell_within true limit rec field n rec2 field2 h le = absurd cc
cell_within false limit rec field n rec2 field2 h le = let e : field ≡ field2 = cc in omega arith

cells_within : (rec : ℕ) (done : List ℤ) (ds : List Domain) (ts : Fields) (rec2 field : ℕ) → cells_after rec done ds ts ≡ Err (bad_table rec2 field) → field ≤ length done + length ds
cells_within rec done [] ts rec2 field h = absurd cc
cells_within rec done (d ∷ ds) [] rec2 field h = absurd cc
cells_within rec done (d ∷ ds) (t ∷ ts) rec2 field h = by_value (cell_value d t) h (λ z. cells_within rec (done ++ z ∷ []) ds ts rec2 field)
  where
    by_value : (o : Option ℤ) → or_bad (fault_at rec (length done + 1) d t) o (λ z. cells_after rec (done ++ z ∷ []) ds ts) ≡ Err (bad_table rec2 field)
        → ((z : ℤ) → cells_after rec (done ++ z ∷ []) ds ts ≡ Err (bad_table rec2 field) → field ≤ length (done ++ z ∷ []) + length ds) → field ≤ length done + length (d ∷ ds)
    by_value None k more = cell_within (is_of_texts d && is_text t) MOST_TEXTS rec (length done + 1) (length done + length (d ∷ ds)) rec2 field k (omega arith)
    by_value (Some z) k more = let le = more z k in let e = length-append done (z ∷ []) in omega arith

record Long (rec : ℕ) (ds : List Domain) (r : Fields) (rec2 field : ℕ) : Type 0 where
  more : length ds < length r
  here : rec2 ≡ rec
  next : field ≡ length ds + 1

-- a record whose faulty field the attributes do not reach has more fields than they
long_of : (rec : ℕ) (ds : List Domain) (r : Fields) (rec2 field : ℕ) → cells_of rec ds r ≡ Err (bad_table rec2 field) → length ds < field → Long rec ds r rec2 field
long_of rec ds r rec2 field h lt =
    by_bool (nat_eq (length r) (length ds))
    (λ e. absurd (let k : cells_after rec [] ds r ≡ Err (bad_table rec2 field) = rw e at h in let le = cells_within rec [] ds r rec2 field k in omega arith))
    (λ e. let k : ◌≡◌ {A = Result (List ℤ) Fault} (Err (bad_table rec (min (length r) (length ds) + 1))) (Err (bad_table rec2 field)) = rw e at h in
    let is : min (length r) (length ds) + 1 ≡ field = cc in
    let left = min-le_left (length r) (length ds) in
    let right = min-le_right (length r) (length ds) in
    let same : min (length r) (length ds) ≡ length ds = omega (arith, is, lt, right) in
    record { more = grind (arith, nat_tests, e, left, same); here = cc; next = omega (arith, is, same) })

is_long : (rec : ℕ) (ds : List Domain) (t : Fields) → length ds < length t → cells_of rec ds t ≡ Err (bad_table rec (length ds + 1))
is_long rec ds t lt =
    let other : nat_eq (length t) (length ds) ≡ false = grind (arith, nat_tests) in
    let le : length ds ≤ length t = omega arith in
    let least : min (length t) (length ds) ≡ length ds = min-eq_right le in
    rw (other, least) refl

ok-err : {A : Type 0} (x : A) (e : Fault) → ◌≡◌ {A = Result A Fault} (Ok x) (Err e) → ⊥
ok-err x e h = cc

same_Err : {A : Type 0} (x y : Fault) → ◌≡◌ {A = Result A Fault} (Err x) (Err y) → x ≡ y
same_Err x y h = cc

many-bad : (limit rec field : ℕ) → too_many limit ≡ bad_table rec field → ⊥
many-bad limit rec field h = cc

abbrev Faulty : Result (List Row) Fault → ℕ → ℕ → Type 0
Faulty read rec field = read ≡ Err (bad_table rec field)

row_then : (ds : List Domain) (done : List Row) (r : Fields) (rest : Records) → nat_lt (length done) MOST_ROWS ≡ true → rows_after ds done (r ∷ rest) ≡ (then_padded (cells_of (length done + 1) ds r) >>= λ cells. rows_after ds (done ++ row_of (length done + 1) cells ∷ []) rest)
row_then ds done r rest e = rw e refl

row_full : (ds : List Domain) (done : List Row) (r : Fields) (rest : Records) → nat_lt (length done) MOST_ROWS ≡ false → rows_after ds done (r ∷ rest) ≡ Err (too_many MOST_ROWS)
row_full ds done r rest e = rw e refl

-- what a beginning of records tells, where its last is the first that is too long
pub rows_begin : (ds : List Domain) (rs ts : Records) (done : List Row) (rec field : ℕ) → Faulty (rows_after ds done rs) rec field → length ds < field → length done + length rs ≡ rec → Begins rs ts
    → IsLastLong (length ds) rs × Faulty (rows_after ds done ts) rec field
rows_begin ds [] ts done rec field h lt all b = absurd (ok-err done (bad_table rec field) h)
rows_begin ds (r ∷ []) [] done rec field h lt all b = absurd b
rows_begin ds (r ∷ s ∷ rs) [] done rec field h lt all b = absurd b
rows_begin ds (r ∷ []) (t ∷ ts) done rec field h lt all b =
    by_bool (nat_lt (length done) MOST_ROWS)
    (λ e. by_cells e (cells_of (length done + 1) ds r) refl (sym (row_then ds done r [] e) ∙ h))
    (λ e. absurd (many-bad MOST_ROWS rec field (same_Err (too_many MOST_ROWS) (bad_table rec field) (sym (row_full ds done r [] e) ∙ h))))
  where
    by_cells : nat_lt (length done) MOST_ROWS ≡ true → (o : Result (List ℤ) Fault) → cells_of (length done + 1) ds r ≡ o → Faulty (then_padded o >>= λ cells. rows_after ds (done ++ row_of (length done + 1) cells ∷ []) []) rec field
        → IsLastLong (length ds) (r ∷ []) × Faulty (rows_after ds done (t ∷ ts)) rec field
    by_cells e (Ok zs) is k = absurd (ok-err (done ++ row_of (length done + 1) (padded zs) ∷ []) (bad_table rec field) k)
    by_cells e (Err x) is k =
        let fault = same_Err x (bad_table rec field) k in
        let long = long_of (length done + 1) ds r rec field (is ∙ ap (λ y. Err y) fault) lt in
        let grown = no_less r t b in
        let longer : length ds < length t = let more = long.more in omega arith in
        (long.more, row_then ds done t ts e ∙ ap (λ o. then_padded o >>= λ cells. rows_after ds (done ++ row_of (length done + 1) cells ∷ []) ts) (is_long (length done + 1) ds t longer) ∙ ap (λ m. Err (bad_table m (length ds + 1))) (sym long.here) ∙ ap (λ m. Err (bad_table rec m)) (sym long.next))
rows_begin ds (r ∷ s ∷ rs) (t ∷ ts) done rec field h lt all b =
    by_bool (nat_lt (length done) MOST_ROWS)
    (λ e. by_cells e (cells_of (length done + 1) ds r) refl (sym (row_then ds done r (s ∷ rs) e) ∙ h) (λ row. rows_begin ds (s ∷ rs) ts (done ++ row ∷ []) rec field))
    (λ e. absurd (many-bad MOST_ROWS rec field (same_Err (too_many MOST_ROWS) (bad_table rec field) (sym (row_full ds done r (s ∷ rs) e) ∙ h))))
  where
    by_cells : nat_lt (length done) MOST_ROWS ≡ true → (o : Result (List ℤ) Fault) → cells_of (length done + 1) ds r ≡ o → Faulty (then_padded o >>= λ cells. rows_after ds (done ++ row_of (length done + 1) cells ∷ []) (s ∷ rs)) rec field
        → ((row : Row) → Faulty (rows_after ds (done ++ row ∷ []) (s ∷ rs)) rec field → length ds < field → length (done ++ row ∷ []) + length (s ∷ rs) ≡ rec → Begins (s ∷ rs) ts → IsLastLong (length ds) (s ∷ rs) × Faulty (rows_after ds (done ++ row ∷ []) ts) rec field)
        → IsLastLong (length ds) (r ∷ s ∷ rs) × Faulty (rows_after ds done (t ∷ ts)) rec field
    by_cells e (Ok zs) is k more =
        let row = row_of (length done + 1) (padded zs) in
        let rest = more row k lt (let n = length-append done (row ∷ []) in omega arith) b.1 in
        (rest.0, row_then ds done t ts e ∙ ap (λ u. then_padded (cells_of (length done + 1) ds u) >>= λ cells. rows_after ds (done ++ row_of (length done + 1) cells ∷ []) ts) (sym b.0) ∙ ap (λ o. then_padded o >>= λ cells. rows_after ds (done ++ row_of (length done + 1) cells ∷ []) ts) is ∙ rest.1)
    by_cells e (Err x) is k more =
        let fault = same_Err x (bad_table rec field) k in
        let long = long_of (length done + 1) ds r rec field (is ∙ ap (λ y. Err y) fault) lt in
        absurd (let a = long.here in omega arith)

-- ---- texts

texts_front : (ds : List Domain) (fs xs ys : Fields) → length ds ≤ length fs → text_fields ds (fs ++ xs) ≡ text_fields ds (fs ++ ys)
texts_front [] fs xs ys h = refl
texts_front (d ∷ ds) [] xs ys h = absurd (omega arith)
texts_front (d ∷ ds) (f ∷ fs) xs ys h = ap (λ us. text_field d f ++ us) (texts_front ds fs xs ys (omega arith))

-- the texts of a beginning come first
pub texts_begin : (ds : List Domain) (rs ts : Records) → IsLastLong (length ds) rs → Begins rs ts → (more : List (List ℕ)) × (texts_in ds ts ≡ texts_in ds rs ++ more)
texts_begin ds [] ts h b = absurd h
texts_begin ds (r ∷ []) [] h b = absurd b
texts_begin ds (r ∷ s ∷ rs) [] h b = absurd b
texts_begin ds (r ∷ []) (t ∷ ts) h b =
    let len : length r ≡ length b.0 + 1 = ap length b.4 ∙ length-append b.0 (b.1 ∷ []) in
    let le : length ds ≤ length b.0 = omega arith in
    let same : text_fields ds t ≡ text_fields ds r = ap (text_fields ds) b.5 ∙ texts_front ds b.0 (b.2 ∷ b.3) (b.1 ∷ []) le ∙ ap (text_fields ds) (sym b.4) in
    (texts_in ds ts, ap (λ us. us ++ texts_in ds ts) (same ∙ sym (append-nil (text_fields ds r))))
texts_begin ds (r ∷ s ∷ rs) (t ∷ ts) h b =
    let rest = texts_begin ds (s ∷ rs) ts h b.1 in
    (rest.0, ap (λ u. text_fields ds u ++ texts_in ds ts) (sym b.0) ∙ ap (λ us. text_fields ds r ++ us) rest.1 ∙ sym (append_assoc (text_fields ds r) (texts_in ds (s ∷ rs)) rest.0))

-- ---- tables

under_length : (us : List (List ℕ)) (ds : List Domain) → length (under us ds) ≡ length ds
under_length us [] = refl
under_length us (d ∷ ds) = ap suc (under_length us ds)

-- a beginning whose last record is the first that is too long has its fault in every table that begins so
pub table_begins : (cs : List Column) (rs ts : Records) (rec field : ℕ) → ((more : List (List ℕ)) → Faulty (rows_after (under (with_texts [] (texts_in (kinds_of cs) rs ++ more)) (kinds_of cs)) [] rs) rec field)
    → length (kinds_of cs) < field → length rs ≡ rec → Begins rs ts → table_with (seeing cs ts) ts ≡ Err (bad_table rec field)
table_begins cs rs ts rec field reads lt all b =
    let ds = kinds_of cs in
    let known : List (List ℕ) → List Domain = λ more. under (with_texts [] (texts_in ds rs ++ more)) ds in
    let first = rows_begin (known []) rs ts [] rec field (reads []) (rw (under_length (with_texts [] (texts_in ds rs ++ [])) ds) lt) (omega (arith, all)) b in
    let long : IsLastLong (length ds) rs = rw (under_length (with_texts [] (texts_in ds rs ++ [])) ds) at first.0 in
    let texts = texts_begin ds rs ts long b in
    let there = rows_begin (known texts.0) rs ts [] rec field (reads texts.0) (rw (under_length (with_texts [] (texts_in ds rs ++ texts.0)) ds) lt) (omega (arith, all)) b in
    let kinds : kinds_of (seeing cs ts) ≡ known texts.0 = seeing_kinds cs ts ∙ ap (λ us. under (with_texts [] us) ds) (append-nil (texts_in ds ts) ∙ texts.1) in
    ap (λ o. o >>= λ (rows : List Row). Ok (record { columns = seeing cs ts; rows = rows })) (ap (λ es. rows_after es [] ts) kinds ∙ there.1)

-- ---- the whole

-- the first record of a beginning begins that of the whole
pub head_begins : (r : Fields) (rs ts : Records) → Begins (r ∷ rs) ts → (t : Fields) × (us : Records) × (ts ≡ t ∷ us) × (length r ≤ length t)
head_begins r [] [] b = absurd b
head_begins r (s ∷ rs) [] b = absurd b
head_begins r [] (t ∷ ts) b = (t, ts, refl, no_less r t b)
head_begins r (s ∷ rs) (t ∷ ts) b = (t, ts, refl, (let e : length r ≡ length t = ap length b.0 in omega arith))

-- a record that is not the last of a beginning is the whole one
pub tail_begins : (r : Fields) (rs ts : Records) → 0 < length rs → Begins (r ∷ rs) ts → (us : Records) × (ts ≡ r ∷ us) × Begins rs us
tail_begins r [] ts h b = absurd (omega arith)
tail_begins r (s ∷ rs) [] h b = absurd b
tail_begins r (s ∷ rs) (t ∷ ts) h b = (ts, ap (λ u. u ∷ ts) (sym b.0), b.1)

-- a byte order mark stands in a beginning that is long enough
pub front_bom : (a b : List ℕ) → 3 ≤ length a → strip_bom (a ++ b) ≡ strip_bom a ++ b
unfolding strip_bom
front_bom [] b h = absurd (omega arith)
front_bom (x ∷ []) b h = absurd (omega arith)
front_bom (x ∷ y ∷ []) b h = absurd (omega arith)
front_bom (x ∷ y ∷ z ∷ a) b h = by_bool (is_bom x y z) (λ e. rw e refl) (λ e. rw e refl)

-- a header of more than eight fields is refused
pub header_long : (t : Fields) (us : Records) → 8 < length t → table_of_records (t ∷ us) ≡ Err (too_many 8)
header_long [] us h = absurd (omega arith)
header_long (f ∷ fs) us h =
    let many : nat_lt 8 (length (f ∷ fs)) ≡ true = grind (arith, nat_tests) in
    rw many refl
