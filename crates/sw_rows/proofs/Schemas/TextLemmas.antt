-- An indexed set of strings as a list of texts, and what holds of the texts after a step.
use Rattle.std.proofs.Common.{◌≡◌, ◌∙◌, ap, sym, refl, ℕ, ◌+◌, ◌<◌, ◌≤◌, Bool, true, false, not, cond, zero, suc, ◌||◌, ◌&&◌, List, [], ◌∷◌, ◌++◌, map, length, take, position, bytes_eq, String, string_bytes, nat_le, leb-false, Option, Some, option_map, slice_get, subst, arith, true≢false, length-append, IsUtf8}
use Rattle.std.proofs.lemmas.Bool.Decides.{nat_tests}
use Rattle.std.proofs.lemmas.Bool.{and_from, and_parts, cond-false, le-leb, not-true, not_from_false, or_parts}
use Rattle.std.proofs.lemmas.List.{map-append}
use Rattle.std.proofs.lemmas.List.Folds.{list_all-append}
use Rattle.std.proofs.lemmas.Option.{none-some, same_Some}
use Rattle.std.proofs.lemmas.Str.{IsUtf8-from_is_utf8, is_utf8-from_IsUtf8}
use Rattle.std.specs.Global.{Global}
use Rattle.std.specs.List.{list_all, list_any, position_or_len}
use Rattle.std.specs.Str.{is_utf8}
use Rattle.std.specs.String.{string_eq}
use Rattle.indexmap.specs.IndexSet.{insert_key}
use Rattle.sw_rows.specs.Texts.{AreTexts, are_full, with_text, with_texts, code_of, has_text, is_text, is_text_byte, texts_differ}
use Rattle.sw_rows.specs.declared.schema.texts.TheConstants.{MOST_BYTES_OF_TEXT, MOST_TEXTS}
use Rattle.sw_rows.proofs.Schemas.ColumnLemmas.{bytes_eq-sym}

abbrev Strings : Type 0
Strings = List (String Global)

-- ---- the set as a list

first-same : (text : List ℕ) (ks : Strings) → position_or_len (λ k. bytes_eq text (string_bytes k)) ks ≡ position_or_len (bytes_eq text) (map string_bytes ks)
first-same text [] = refl
first-same text (k ∷ ks) = ap (λ n. cond (not (bytes_eq text (string_bytes k))) (1 + n) 0) (first-same text ks)

long-same : (ks : Strings) → length ks ≡ length (map string_bytes ks)
long-same [] = refl
long-same (k ∷ ks) = ap suc (long-same ks)

-- the index of a text is its place
text_place : (text : List ℕ) (ks : Strings) → position (λ k. bytes_eq text (string_bytes k)) ks ≡ position (bytes_eq text) (map string_bytes ks)
text_place text ks = cc (first-same text ks, long-same ks)

-- the place that a string has or gets is that of its text
pub text_index : (text : List ℕ) (ks : Strings) (ts : List (List ℕ)) (k : String Global) → map string_bytes ks ≡ ts → string_bytes k ≡ text → position_or_len (string_eq k) ks ≡ position_or_len (bytes_eq text) ts
text_index text ks ts k same kept = first-same (string_bytes k) ks ∙ (λ j. position_or_len (bytes_eq (kept j)) (same j))

-- the set has the texts that stand in the list
text_known : (text : List ℕ) (ks : Strings) → list_any (λ k. bytes_eq text (string_bytes k)) ks ≡ has_text (map string_bytes ks) text
text_known text [] = refl
text_known text (k ∷ ks) = ap (λ b. bytes_eq text (string_bytes k) || b) (text_known text ks)

-- what the set tells of a text is what its list of texts tells
pub text_code : (text : List ℕ) (ks : Strings) (ts : List (List ℕ)) (place : Option ℕ) → map string_bytes ks ≡ ts → place ≡ position (λ k. bytes_eq text (string_bytes k)) ks → option_map (λ i. i + 1) place ≡ code_of ts text
text_code text ks ts place same found = ap (option_map (λ i. i + 1)) (found ∙ text_place text ks ∙ ap (position (bytes_eq text)) same)

-- a text is known where a string of the set has its bytes
pub text_known_among : (text : List ℕ) (ks : Strings) (ts : List (List ℕ)) (b : Bool) → map string_bytes ks ≡ ts → b ≡ list_any (λ k. bytes_eq text (string_bytes k)) ks → b ≡ has_text ts text
text_known_among text ks ts b same found = found ∙ text_known text ks ∙ ap (λ us. has_text us text) same

-- a string that the set has not goes last
text_last : (ks : Strings) (k : String Global) → has_text (map string_bytes ks) (string_bytes k) ≡ false → map string_bytes (insert_key string_eq ks k) ≡ map string_bytes ks ++ string_bytes k ∷ []
text_last ks k h =
    ap (map string_bytes) (cond-false (list_any (string_eq k) ks) ks (ks ++ k ∷ []) (text_known (string_bytes k) ks ∙ h)) ∙ map-append string_bytes ks (k ∷ [])

-- a string that goes in new stands last
pub text_inserted : (text : List ℕ) (ks : Strings) (ts : List (List ℕ)) (k : String Global) → map string_bytes ks ≡ ts → string_bytes k ≡ text → has_text ts text ≡ false → map string_bytes (insert_key string_eq ks k) ≡ ts ++ text ∷ []
text_inserted text ks ts k same kept new = text_last ks k (ap (λ us. has_text us (string_bytes k)) same ∙ ap (has_text ts) kept ∙ new) ∙ (λ j. same j ++ kept j ∷ [])

-- a string that goes in, new or not, where there is room
pub text_put : (text : List ℕ) (ks : Strings) (ts : List (List ℕ)) (k : String Global) → map string_bytes ks ≡ ts → string_bytes k ≡ text → length ts < MOST_TEXTS → map string_bytes (insert_key string_eq ks k) ≡ with_text ts text
text_put text ks ts k same kept few = by_test (has_text ts text) refl
  where
    room : are_full ts ≡ false
    room = grind (arith, nat_tests)

    by_test : (b : Bool) → has_text ts text ≡ b → map string_bytes (insert_key string_eq ks k) ≡ with_text ts text
    by_test true e =
        let there : list_any (string_eq k) ks ≡ true = text_known (string_bytes k) ks ∙ ap (λ us. has_text us (string_bytes k)) same ∙ ap (has_text ts) kept ∙ e in
        rw (there, e) same
    by_test false e = text_inserted text ks ts k same kept e ∙ rw (e, room) refl

-- ---- one more text

other-step : (v : Bool) (ts : List (List ℕ)) (t u : List ℕ) → not (v || has_text ts t) ≡ true → (not (has_text ts t) ≡ true → not (has_text (ts ++ u ∷ []) t) ≡ true) → not (v || has_text (ts ++ u ∷ []) t) ≡ true
other-step true ts t u k more = absurd (true≢false (sym k))
other-step false ts t u k more = more k

other-text : (ts : List (List ℕ)) (t u : List ℕ) → not (has_text ts t) ≡ true → bytes_eq t u ≡ false → not (has_text (ts ++ u ∷ []) t) ≡ true
other-text [] t u h e = rw e refl
other-text (s ∷ ts) t u h e = other-step (bytes_eq t s) ts t u h (λ k. other-text ts t u k e)

differ-more : (ts : List (List ℕ)) (u : List ℕ) → texts_differ ts ≡ true → has_text ts u ≡ false → texts_differ (ts ++ u ∷ []) ≡ true
differ-more [] u h k = refl
differ-more (t ∷ ts) u h k =
    let parts = and_parts (not (has_text ts t)) (texts_differ ts) h in
    let new = or_parts (bytes_eq u t) (has_text ts u) k in
    and_from (not (has_text (ts ++ u ∷ []) t)) (texts_differ (ts ++ u ∷ [])) (other-text ts t u parts.0 (bytes_eq-sym t u ∙ new.0)) (differ-more ts u parts.1 new.1)

-- a new text
pub texts_more : (ts : List (List ℕ)) (u : List ℕ) → AreTexts ts → length ts < MOST_TEXTS → is_text u ≡ true → has_text ts u ≡ false → AreTexts (ts ++ u ∷ [])
texts_more ts u s few sound new = record {
  few = omega (arith, length-append ts (u ∷ []));
  sound = list_all-append is_text ts (u ∷ []) ∙ and_from (list_all is_text ts) (list_all is_text (u ∷ [])) s.sound (and_from (is_text u) true sound refl);
  distinct = differ-more ts u s.distinct new;
}

-- ---- fewer texts

has-none : (n : ℕ) (ts : List (List ℕ)) (t : List ℕ) → has_text ts t ≡ false → has_text (take n ts) t ≡ false
has-none zero ts t h = refl
has-none (suc n) [] t h = refl
has-none (suc n) (s ∷ ts) t h =
    let parts = or_parts (bytes_eq t s) (has_text ts t) h in
    rw (parts.0, has-none n ts t parts.1) refl

sound-take : (n : ℕ) (ts : List (List ℕ)) → list_all is_text ts ≡ true → list_all is_text (take n ts) ≡ true
sound-take zero ts h = refl
sound-take (suc n) [] h = refl
sound-take (suc n) (t ∷ ts) h =
    let parts = and_parts (is_text t) (list_all is_text ts) h in
    and_from (is_text t) (list_all is_text (take n ts)) parts.0 (sound-take n ts parts.1)

differ-take : (n : ℕ) (ts : List (List ℕ)) → texts_differ ts ≡ true → texts_differ (take n ts) ≡ true
differ-take zero ts h = refl
differ-take (suc n) [] h = refl
differ-take (suc n) (t ∷ ts) h =
    let parts = and_parts (not (has_text ts t)) (texts_differ ts) h in
    let here = not_from_false (has_text (take n ts) t) (has-none n ts t (not-true (has_text ts t) parts.0)) in
    and_from (not (has_text (take n ts) t)) (texts_differ (take n ts)) here (differ-take n ts parts.1)

fewer : (n : ℕ) (ts : List (List ℕ)) → length (take n ts) ≤ length ts
fewer zero ts = omega arith
fewer (suc n) [] = omega arith
fewer (suc n) (t ∷ ts) = let less = fewer n ts in omega arith

-- the first so many texts are texts that may be known
pub texts_fewer : (n : ℕ) (ts : List (List ℕ)) → AreTexts ts → AreTexts (take n ts)
texts_fewer n ts s =
    let less = fewer n ts in
    let few = s.few in
    record {
      few = omega arith;
      sound = sound-take n ts s.sound;
      distinct = differ-take n ts s.distinct;
    }

-- ---- one text

-- a text that stands among texts of cells is one
pub text_at : (ts : List (List ℕ)) (i : ℕ) (t : List ℕ) → list_all is_text ts ≡ true → slice_get ts i ≡ Some t → is_text t ≡ true
text_at [] i t h e = absurd (none-some t e)
text_at (s ∷ ts) zero t h e = subst (λ u. is_text u ≡ true) (same_Some s t e) (and_parts (is_text s) (list_all is_text ts) h).0
text_at (s ∷ ts) (suc i) t h e = text_at ts i t (and_parts (is_text s) (list_all is_text ts) h).1 e

-- what the three tests of a text come to
pub text_read : (bytes : List ℕ) → IsUtf8 bytes → length bytes ≤ MOST_BYTES_OF_TEXT → list_all is_text_byte bytes ≡ true → is_text bytes ≡ true
text_read bytes utf8 short printed =
    and_from (is_utf8 bytes && nat_le (length bytes) MOST_BYTES_OF_TEXT) (list_all is_text_byte bytes) (and_from (is_utf8 bytes) (nat_le (length bytes) MOST_BYTES_OF_TEXT) (is_utf8-from_IsUtf8 bytes utf8) (le-leb (length bytes) MOST_BYTES_OF_TEXT short)) printed

-- a text of a cell is UTF-8
pub text_utf8 : (bytes : List ℕ) → is_text bytes ≡ true → IsUtf8 bytes
text_utf8 bytes h = IsUtf8-from_is_utf8 bytes (and_parts (is_utf8 bytes) (nat_le (length bytes) MOST_BYTES_OF_TEXT) (and_parts (is_utf8 bytes && nat_le (length bytes) MOST_BYTES_OF_TEXT) (list_all is_text_byte bytes) h).0).0

not_true : (b : Bool) → (b ≡ true → ⊥) → b ≡ false
not_true true f = absurd (f refl)
not_true false f = refl

-- what is not UTF-8 is no text of a cell
pub text_refused : (bytes : List ℕ) → (IsUtf8 bytes → ⊥) → is_text bytes ≡ false
text_refused bytes bad = not_true (is_text bytes) (λ h. bad (text_utf8 bytes h))

-- sound texts and further ones
pub texts_sound : (ts more : List (List ℕ)) → AreTexts ts → list_all is_text more ≡ true → AreTexts (with_texts ts more)
texts_sound ts [] s h = s
texts_sound ts (t ∷ more) s h =
    let parts = and_parts (is_text t) (list_all is_text more) h in
    texts_sound (with_text ts t) more (by_tests (has_text ts t) (are_full ts) refl refl parts.0) parts.1
  where
    by_tests : (a b : Bool) → has_text ts t ≡ a → are_full ts ≡ b → is_text t ≡ true → AreTexts (cond (a || b) ts (ts ++ t ∷ []))
    by_tests true b e f k = s
    by_tests false true e f k = s
    by_tests false false e f k = texts_more ts t s (let few = leb-false MOST_TEXTS (length ts) f in omega arith) k e
