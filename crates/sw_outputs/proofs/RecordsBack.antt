-- Records that are written are read again.
use Rattle.std.proofs.Common.{◌≡◌, ◌∙◌, ap, sym, refl, ℕ, zero, suc, ◌+◌, ◌<◌, ◌≤◌, ◌==◌, ◌&&◌, Bool, true, false, cond, List, [], ◌∷◌, ◌++◌, length, map, length-append, append_assoc, arith}
use Rattle.std.specs.List.{list_any}
use Rattle.std.specs.Prelude.{if◌then◌else◌}
use Rattle.csv.specs.Machine.{next_record}
use Rattle.csv.specs.Reading.{default_config, records, records_from, strip_bom}
use Rattle.csv.specs.Writing.{default_writer, field_text, fields_text, is_blank, needs_byte, quoted, read_back, row_body, row_text}
use Rattle.csv.specs.declared.parser.State.TheVariants as st
use Rattle.csv.proofs.RoundTrip.{read-write}
use Rattle.sw_outputs.specs.Fields.{records_text}

-- records, each a list of fields
abbrev pub Records : Type 0
Records = List (List (List ℕ))

-- nothing is read of no bytes
no_more : (n : ℕ) → records_from default_config n st.StartRecord [] ≡ []
unfolding records_from next_record
no_more zero = refl
no_more (suc n) = refl

turns : (n : ℕ) (rs : Records) → length rs ≤ n → records_from default_config n st.StartRecord (records_text rs) ≡ map read_back rs
unfolding records_from
turns n [] h = no_more n
turns zero (r ∷ rs) h = absurd (omega arith)
turns (suc n) (r ∷ rs) h = rw (read-write r (records_text rs)) (ap (λ (t : Records). read_back r ∷ t) (turns n rs (omega arith)))

-- a record has a byte at least
one_byte : (r : List (List ℕ)) → 1 ≤ length (row_text default_writer r)
one_byte r =
    let blank : List ℕ = if is_blank default_writer r then 34 ∷ 34 ∷ [] else [] in
    omega (arith, length-append (row_body default_writer r) (blank ++ 10 ∷ []), length-append blank (10 ∷ []))

few : (rs : Records) → length rs ≤ length (records_text rs)
few [] = omega arith
few (r ∷ rs) = omega (arith, few rs, one_byte r, length-append (row_text default_writer r) (records_text rs))

-- each record has a field
abbrev pub HaveFields : Records → Type 0
HaveFields [] = Unit {0}
HaveFields (r ∷ rs) = (0 < length r) × HaveFields rs

same_record : (r : List (List ℕ)) → 0 < length r → read_back r ≡ r
same_record [] h = absurd (omega arith)
same_record (f ∷ fs) h = refl

same_records : (rs : Records) → HaveFields rs → map read_back rs ≡ rs
same_records [] h = refl
same_records (r ∷ rs) h = ap (λ (x : List (List ℕ)). x ∷ map read_back rs) (same_record r h.0) ∙ ap (λ (x : Records). r ∷ x) (same_records rs h.1)

-- ---- no byte order mark stands first

no_mark : (a : ℕ) (rest : List ℕ) → (a == 239) ≡ false → strip_bom (a ∷ rest) ≡ a ∷ rest
unfolding strip_bom
no_mark a [] h = refl
no_mark a (b ∷ []) h = refl
no_mark a (b ∷ c ∷ rest) h = ap (λ t. cond (t && (b == 187) && (c == 191)) rest (a ∷ b ∷ c ∷ rest)) h

-- a field that begins with another byte
field_start : (a : ℕ) (field rest : List ℕ) → (a == 239) ≡ false → strip_bom (field_text default_writer (a ∷ field) ++ rest) ≡ field_text default_writer (a ∷ field) ++ rest
field_start a field rest h = by_quotes (list_any (needs_byte default_writer) (a ∷ field))
  where
    by_quotes : (b : Bool) → strip_bom (cond b (quoted default_writer (a ∷ field)) (a ∷ field) ++ rest) ≡ cond b (quoted default_writer (a ∷ field)) (a ∷ field) ++ rest
    by_quotes true = no_mark 34 _ refl
    by_quotes false = no_mark a (field ++ rest) h

regrouped : (f g t r : List ℕ) → ((f ++ g) ++ t) ++ r ≡ f ++ (g ++ (t ++ r))
regrouped f g t r = simp append_assoc

-- a record's end
abbrev record_end : List (List ℕ) → List ℕ
record_end r = (if is_blank default_writer r then 34 ∷ 34 ∷ [] else []) ++ 10 ∷ []

text_start : (a : ℕ) (field : List ℕ) (fs : List (List ℕ)) (rs : Records) → (a == 239) ≡ false
    → strip_bom (records_text (((a ∷ field) ∷ fs) ∷ rs)) ≡ records_text (((a ∷ field) ∷ fs) ∷ rs)
text_start a field fs rs h =
    let first : List ℕ = field_text default_writer (a ∷ field) in
    let others : List ℕ = fields_text default_writer fs in
    let end : List ℕ = record_end ((a ∷ field) ∷ fs) in
    let same : records_text (((a ∷ field) ∷ fs) ∷ rs) ≡ first ++ (others ++ (end ++ records_text rs)) = regrouped first others end (records_text rs) in
    ap strip_bom same ∙ field_start a field (others ++ (end ++ records_text rs)) h ∙ sym same

-- the records of a text whose first field begins with another byte than such a mark
pub records_back : (a : ℕ) (field : List ℕ) (fs : List (List ℕ)) (rs : Records) → (a == 239) ≡ false → HaveFields rs
    → records default_config (strip_bom (records_text (((a ∷ field) ∷ fs) ∷ rs))) ≡ ((a ∷ field) ∷ fs) ∷ rs
records_back a field fs rs h some =
    let all : Records = ((a ∷ field) ∷ fs) ∷ rs in
    ap (records default_config) (text_start a field fs rs h)
    ∙ turns (length (records_text all) + 1) all (omega (arith, few all))
    ∙ same_records all (omega arith, some)

-- ---- behind an empty line

after_line : (n : ℕ) (xs : List ℕ) → records_from default_config (suc n) st.StartRecord (10 ∷ xs) ≡ records_from default_config (suc n) st.StartRecord xs
unfolding records_from next_record
after_line n xs = refl

turns_behind : (n : ℕ) (rs : Records) → 0 < n → length rs ≤ n → records_from default_config n st.StartRecord (10 ∷ records_text rs) ≡ map read_back rs
turns_behind zero rs some h = absurd (omega arith)
turns_behind (suc n) rs some h = after_line n (records_text rs) ∙ turns (suc n) rs h

-- records behind an empty line
pub records_behind : (rs : Records) → HaveFields rs → records default_config (strip_bom (10 ∷ records_text rs)) ≡ rs
records_behind rs some =
    ap (records default_config) (no_mark 10 (records_text rs) refl)
    ∙ turns_behind (length (10 ∷ records_text rs) + 1) rs (omega arith) (omega (arith, few rs))
    ∙ same_records rs some
