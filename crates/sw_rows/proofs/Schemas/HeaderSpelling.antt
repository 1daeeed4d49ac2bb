-- What is read of a header, and what the header writes.
use Rattle.std.proofs.Common.{◌≡◌, ◌∙◌, ap, sym, refl, ℕ, zero, suc, ◌+◌, ◌≤◌, ◌⊎◌, inl, inr, Bool, true, false, not, cond, List, [], ◌∷◌, ◌++◌, length, take, drop, Option, Some, None, Ok, Err, position, codes, bytes_eq, nat_lt, nat_le, ◌==◌, ◌&&◌, arith, append-nil, append_assoc, slice_index, ltb-false, subst}
use Rattle.std.proofs.Math.Seq.{take-append_seam}
use Rattle.std.proofs.lemmas.Bool.{and_parts, cond-false, cond-true, le-ltb, not-true, or_from, or_parts}
use Rattle.std.proofs.lemmas.Bool.Decides.{nat_tests}
use Rattle.std.proofs.lemmas.Option.{none-some, same_Some}
use Rattle.std.proofs.lemmas.Slice.Eq.{bytes_eq-Decides}
use Rattle.std.specs.Char.{is_ascii_digit}
use Rattle.std.specs.List.{list_all}
use Rattle.sw_rows.specs.Header.{Column, bad_table, too_many, column, column_at, column_of, header_after, header_of, is_known, is_name, is_name_byte, is_reserved, is_word, kind_of, names_differ, or_fault, with_column, with_field}
use Rattle.sw_rows.specs.Spelling.{WriteColumns, WritesColumn, WritesHeader, kind_text}
use Rattle.sw_rows.specs.Domains.{Domain, IsFresh}
use Rattle.sw_rows.specs.Domains as kind
use Rattle.sw_rows.specs.declared.limits.TheConstants.{MOST_NAME}
use Rattle.sw_rows.proofs.Tables.CellSpelling.{all_like, divided, drop_past, position_none, position_seam}
use Rattle.sw_rows.proofs.Schemas.ColumnLemmas.{bytes_eq-sym, differ-more}
use Rattle.sw_rows.proofs.Options.{err-ok, if_some, same_Ok, unless_ok, unless_some}

-- ---- kinds

-- a word that is one of a list of names
is_word_of : (word name : List ℕ) (k l : Domain) (o : Option Domain) → (kind_text k ≡ name) → IsFresh k → ((o ≡ Some l) → (word ≡ kind_text l) × IsFresh l) → cond (bytes_eq word name) (Some k) o ≡ Some l → (word ≡ kind_text l) × IsFresh l
is_word_of word name k l o text places more h = by_test (bytes_eq word name) refl h
  where
    by_test : (b : Bool) → bytes_eq word name ≡ b → cond b (Some k) o ≡ Some l → (word ≡ kind_text l) × IsFresh l
    by_test true e i =
        let same : k ≡ l = same_Some k l i in
        ((bytes_eq-Decides word name).0 e ∙ sym text ∙ ap kind_text same, subst IsFresh same places)
    by_test false e i = more i

kind_found : (word : List ℕ) (l : Domain) → kind_of word ≡ Some l → (word ≡ kind_text l) × IsFresh l
kind_found word l h =
    is_word_of word (codes "int") kind.Int l _ refl tt
    (is_word_of word (codes "flag") kind.Flag l _ refl tt
    (is_word_of word (codes "text") (kind.Text []) l _ refl refl
    (is_word_of word (codes "fix1") (kind.Fix 1) l _ refl (omega arith, omega arith)
    (is_word_of word (codes "fix2") (kind.Fix 2) l _ refl (omega arith, omega arith)
    (is_word_of word (codes "fix3") (kind.Fix 3) l _ refl (omega arith, omega arith)
    (is_word_of word (codes "fix4") (kind.Fix 4) l _ refl (omega arith, omega arith)
    (is_word_of word (codes "fix5") (kind.Fix 5) l _ refl (omega arith, omega arith)
    (is_word_of word (codes "fix6") (kind.Fix 6) l None refl (omega arith, omega arith) (λ i. absurd (none-some l i)))))))))) h

fix_read : (p : ℕ) → 1 ≤ p → p ≤ 6 → kind_of (kind_text (kind.Fix p)) ≡ Some (kind.Fix p)
fix_read zero h k = absurd (omega arith)
fix_read (suc zero) h k = refl
fix_read (suc (suc zero)) h k = refl
fix_read (suc (suc (suc zero))) h k = refl
fix_read (suc (suc (suc (suc zero)))) h k = refl
fix_read (suc (suc (suc (suc (suc zero))))) h k = refl
fix_read (suc (suc (suc (suc (suc (suc zero)))))) h k = refl
fix_read (suc (suc (suc (suc (suc (suc (suc n))))))) h k = absurd (omega arith)

kind_read : (k : Domain) → IsFresh k → kind_of (kind_text k) ≡ Some k
kind_read kind.Int h = refl
kind_read (kind.Fix p) h = fix_read p h.0 h.1
kind_read kind.Flag h = refl
kind_read (kind.Text texts) h = ap (λ ts. Some (kind.Text ts)) (sym h)

-- ---- fields

name_byte-no_colon : (c : ℕ) → is_name_byte c ≡ true → not (c == 58) ≡ true
name_byte-no_colon c h = grind (arith, nat_tests)

-- a name has no colon
name-plain : (name : List ℕ) → is_name name ≡ true → list_all (λ c. not (c == 58)) name ≡ true
name-plain name h =
    let word = (and_parts (is_word name) (not (is_reserved name)) h).0 in
    let short = and_parts (nat_lt 0 (length name) && list_all is_name_byte name && not (is_ascii_digit (slice_index name 0))) (nat_le (length name) MOST_NAME) word in
    let first = and_parts (nat_lt 0 (length name) && list_all is_name_byte name) (not (is_ascii_digit (slice_index name 0))) short.0 in
    let bytes = and_parts (nat_lt 0 (length name)) (list_all is_name_byte name) first.0 in
    all_like is_name_byte (λ c. not (c == 58)) name_byte-no_colon name bytes.1

column_parts : (name : List ℕ) (k : Domain) (c : Column) → column name (Some k) ≡ Some c → (is_name name ≡ true) × (name ≡ c.0) × (k ≡ c.1)
column_parts name k c h =
    let step = if_some (is_name name) (Some (name, k)) c h in
    let same = same_Some (name, k) c step.1 in
    (step.0, ap (λ (d : Column). d.0) same, ap (λ (d : Column). d.1) same)

-- a field that is read as a column writes it
pub column_spelled : (field : List ℕ) (c : Column) → column_of field ≡ Some c → WritesColumn field c
column_spelled field c h = by_colon (position (λ x. x == 58) field) refl h
  where
    with_kind : (i : ℕ) (o : Option Domain) → position (λ x. x == 58) field ≡ Some i → kind_of (drop (i + 1) field) ≡ o → column (take i field) o ≡ Some c → WritesColumn field c
    with_kind i None e q r = absurd (none-some c r)
    with_kind i (Some k) e q r =
        let parts = column_parts (take i field) k c r in
        let found = kind_found (drop (i + 1) field) k q in (
          subst (λ n. is_name n ≡ true) parts.1 parts.0,
          subst IsFresh parts.2 found.1,
          inr (divided 58 field i e ∙ ap (λ t. t ++ 58 ∷ drop (i + 1) field) parts.1 ∙ ap (λ t. c.0 ++ 58 ∷ t) (found.0 ∙ ap kind_text parts.2)),
        )

    by_colon : (o : Option ℕ) → position (λ x. x == 58) field ≡ o → column_at field o ≡ Some c → WritesColumn field c
    by_colon None e r =
        let parts = column_parts field kind.Int c r in
        (subst (λ n. is_name n ≡ true) parts.1 parts.0, subst IsFresh parts.2 tt, inl (parts.1, sym parts.2))
    by_colon (Some i) e r = with_kind i (kind_of (drop (i + 1) field)) e refl r

column_named : (name : List ℕ) (k : Domain) → is_name name ≡ true → column name (Some k) ≡ Some (name, k)
column_named name k h = cond-true (is_name name) (Some (name, k)) None h

bare_read : (name : List ℕ) → is_name name ≡ true → column_of name ≡ Some (name, kind.Int)
bare_read name h = ap (column_at name) (position_none (λ x. x == 58) name (name-plain name h)) ∙ column_named name kind.Int h

typed_read : (name : List ℕ) (k : Domain) → is_name name ≡ true → IsFresh k → column_of (name ++ 58 ∷ kind_text k) ≡ Some (name, k)
typed_read name k h places =
    let field = name ++ 58 ∷ kind_text k in
    ap (column_at field) (position_seam (λ x. x == 58) name 58 (kind_text k) (name-plain name h) refl)
    ∙ ap (λ t. column t (kind_of (drop (length name + 1) field))) (take-append_seam name (58 ∷ kind_text k))
    ∙ ap (λ t. column name (kind_of t)) (drop_past name 58 (kind_text k))
    ∙ ap (column name) (kind_read k places)
    ∙ column_named name k h

-- a field that writes a column is read as it
pub column_read_back : (field : List ℕ) (c : Column) → WritesColumn field c → column_of field ≡ Some c
column_read_back field c w = by_form w.2
  where
    by_form : ((field ≡ c.0) × (c.1 ≡ kind.Int)) ⊎ (field ≡ c.0 ++ (codes ":" ++ kind_text c.1)) → column_of field ≡ Some c
    by_form (inl f) = ap column_of f.0 ∙ bare_read c.0 w.0 ∙ ap (λ k. Some (c.0, k)) (sym f.1)
    by_form (inr f) = ap column_of f ∙ typed_read c.0 c.1 w.0 w.1

-- ---- headers

apart : (cs : List Column) (c : Column) (ds : List Column) (name : List ℕ) → is_known (cs ++ c ∷ ds) name ≡ false → bytes_eq name c.0 ≡ false
apart [] c ds name h = (or_parts (bytes_eq name c.0) (is_known ds name) h).0
apart (b ∷ cs) c ds name h = apart cs c ds name (or_parts (bytes_eq name b.0) (is_known (cs ++ c ∷ ds) name) h).1

-- a name of distinct ones is none before it
known_no_more : (cs : List Column) (c : Column) (ds : List Column) → names_differ (cs ++ c ∷ ds) ≡ true → is_known cs c.0 ≡ false
known_no_more [] c ds h = refl
known_no_more (b ∷ cs) c ds h =
    let parts = and_parts (not (is_known (cs ++ c ∷ ds) b.0)) (names_differ (cs ++ c ∷ ds)) h in
    or_from (bytes_eq c.0 b.0) (is_known cs c.0) (bytes_eq-sym c.0 b.0 ∙ apart cs c ds b.0 (not-true (is_known (cs ++ c ∷ ds) b.0) parts.0)) (known_no_more cs c ds parts.1)

-- one more field
with_found : (columns : List Column) (field : List ℕ) (more : List Column) → with_field columns field ≡ Some more → (c : Column) × (column_of field ≡ Some c) × (is_known columns c.0 ≡ false) × (columns ++ c ∷ [] ≡ more)
with_found columns field more h = by_column (column_of field) refl h
  where
    by_column : (o : Option Column) → column_of field ≡ o → with_column columns o ≡ Some more → (c : Column) × (column_of field ≡ Some c) × (is_known columns c.0 ≡ false) × (columns ++ c ∷ [] ≡ more)
    by_column None e k = absurd (none-some more k)
    by_column (Some c) e k =
        let step = unless_some (is_known columns c.0) (Some (columns ++ c ∷ [])) more k in
        (c, e, step.0, same_Some (columns ++ c ∷ []) more step.1)

abbrev Continues : List (List ℕ) → List Column → List Column → Type 0
Continues ts columns all = (cs : List Column) × (all ≡ columns ++ cs) × WriteColumns ts cs × (names_differ all ≡ true)

-- fields that are read behind others write what they add
pub header_more : (ts : List (List ℕ)) (columns all : List Column) → names_differ columns ≡ true → header_after ts columns ≡ Ok all → Continues ts columns all
header_more [] columns all d h =
    let same = same_Ok columns all h in
    ([], sym same ∙ sym (append-nil columns), tt, subst (λ cs. names_differ cs ≡ true) same d)
header_more (t ∷ ts) columns all d h = by_field (with_field columns t) refl (λ more. header_more ts more all) h
  where
    by_field : (o : Option (List Column)) → with_field columns t ≡ o → ((more : List Column) → names_differ more ≡ true → header_after ts more ≡ Ok all → Continues ts more all) → or_fault (length columns + 1) (header_after ts) o ≡ Ok all → Continues (t ∷ ts) columns all
    by_field None e go k = absurd (err-ok (bad_table 0 (length columns + 1)) all k)
    by_field (Some more) e go k =
        let f = with_found columns t more e in
        let rest = go more (subst (λ cs. names_differ cs ≡ true) f.3 (differ-more columns f.0 d f.2)) k in
        (f.0 ∷ rest.0, rest.1 ∙ ap (λ cs. cs ++ rest.0) (sym f.3) ∙ append_assoc columns (f.0 ∷ []) rest.0, (column_spelled t f.0 f.1, rest.2), rest.3)

-- fields that write further columns are read as these
pub header_again : (ts : List (List ℕ)) (columns cs : List Column) → WriteColumns ts cs → names_differ (columns ++ cs) ≡ true → header_after ts columns ≡ Ok (columns ++ cs)
header_again [] columns [] w d = ap (λ (cs : List Column). Ok cs) (sym (append-nil columns))
header_again [] columns (c ∷ cs) w d = absurd w
header_again (t ∷ ts) columns [] w d = absurd w
header_again (t ∷ ts) columns (c ∷ cs) w d =
    let step : columns ++ c ∷ cs ≡ (columns ++ c ∷ []) ++ cs = sym (append_assoc columns (c ∷ []) cs) in
    let new : with_field columns t ≡ Some (columns ++ c ∷ []) = ap (with_column columns) (column_read_back t c w.0) ∙ cond-false (is_known columns c.0) None (Some (columns ++ c ∷ [])) (known_no_more columns c cs d) in
    ap (or_fault (length columns + 1) (header_after ts)) new
    ∙ header_again ts (columns ++ c ∷ []) cs w.1 (subst (λ ds. names_differ ds ≡ true) step d)
    ∙ ap (λ (ds : List Column). Ok ds) (sym step)

-- fields that are read as a header write it
pub header_spelled : (fields : List (List ℕ)) (columns : List Column) → header_of fields ≡ Ok columns → WritesHeader fields columns
header_spelled [] columns h = absurd (err-ok (bad_table 0 0) columns h)
header_spelled (t ∷ ts) columns h =
    let step = unless_ok (nat_lt 8 (length (t ∷ ts))) (header_after (t ∷ ts) []) (too_many 8) columns h in
    let found = header_more (t ∷ ts) [] columns refl step.1 in
    record {
      some = omega arith;
      few = ltb-false 8 (length (t ∷ ts)) step.0;
      fields_are = subst (WriteColumns (t ∷ ts)) (sym found.1) found.2;
      distinct = found.3;
    }

-- fields that write a header are read as it
pub header_read_back : (fields : List (List ℕ)) (columns : List Column) → WritesHeader fields columns → header_of fields ≡ Ok columns
header_read_back [] columns w = absurd (let some = w.some in omega arith)
header_read_back (t ∷ ts) columns w =
    cond-false (nat_lt 8 (length (t ∷ ts))) (Err (too_many 8)) (header_after (t ∷ ts) []) (le-ltb 8 (length (t ∷ ts)) w.few)
    ∙ header_again (t ∷ ts) [] columns w.fields_are w.distinct
