-- Texts that are among others, which are few, all get a code.
use Rattle.std.proofs.Common.{◌≡◌, ◌∙◌, ap, sym, refl, ℕ, zero, suc, ◌+◌, ◌<◌, ◌≤◌, Bool, true, false, not, true≢false, cond, ◌&&◌, ◌||◌, List, [], ◌∷◌, ◌++◌, length, get_or, bytes_eq, arith, Option, Some, None, option_map, Ok, Err, nat_le, nat_lt, lt-ltb}
use Rattle.std.specs.List.{AllByRecursion, IsDistinct, list_all, position_or_len}
use Rattle.std.specs.Cmp.{IsEquivalence}
use Rattle.std.specs.Option.{option_map_or}
use Rattle.std.specs.Prelude.{position}
use Rattle.std.proofs.lemmas.Bool.{and_parts}
use Rattle.std.proofs.lemmas.Bool.Decides.{nat_tests, same_from_decides}
use Rattle.std.proofs.lemmas.List.Folds.{list_all-append}
use Rattle.std.proofs.lemmas.Map.Keys.{IsDistinct-cons}
use Rattle.std.proofs.lemmas.Map.Made.{length-le_from_is_member}
use Rattle.std.proofs.lemmas.Option.{get_or_from_slice_get, none-some, slice_get_within}
use Rattle.std.proofs.lemmas.Slice.Eq.{bytes_eq-Decides}
use Rattle.sw_rows.specs.declared.schema.texts.TheConstants.{MOST_TEXTS}
use Rattle.sw_rows.specs.Faults.{too_many}
use Rattle.sw_rows.specs.Texts.{AreTexts, are_full, code_given, code_of, has_text, is_text, next_code, texts_differ, with_text, with_texts}
use Rattle.sw_rows.proofs.Schemas.TextLaws.{code_kept, code_only, coded_at, given_kept}
use Rattle.sw_rows.proofs.Schemas.TextLemmas.{texts_sound}

-- texts, each as its bytes
abbrev pub Texts : Type 0
Texts = List (List ℕ)

-- ---- a text among texts

has-at : (ts : Texts) (t : List ℕ) (i : ℕ) → i < length ts → bytes_eq t (get_or ts i []) ≡ true → has_text ts t ≡ true
has-at [] t i lt h = absurd (omega (arith, lt))
has-at (s ∷ ts) t zero lt h = ap (λ b. b || has_text ts t) h
has-at (s ∷ ts) t (suc i) lt h = by-test (bytes_eq t s) (has-at ts t i (omega (arith, lt)) h)
  where
    by-test : (b : Bool) → has_text ts t ≡ true → (b || has_text ts t) ≡ true
    by-test true more = refl
    by-test false more = more

-- a text with a code is among the texts
pub has_from_code : (ts : Texts) (t : List ℕ) (code : ℕ) → code_of ts t ≡ Some code → has_text ts t ≡ true
has_from_code ts t code h =
    let there = code_only ts code t h in
    let (i, at, got) = coded_at ts code t there in
    has-at ts t i (slice_get_within ts i t got) (ap (bytes_eq t) (get_or_from_slice_get ts i t [] got) ∙ (bytes_eq-Decides t t).1 refl)

known-within : (ts : Texts) (t : List ℕ) → has_text ts t ≡ true → position_or_len (bytes_eq t) ts < length ts
known-within [] t h = absurd (true≢false (sym h))
known-within (s ∷ ts) t h = by-test (bytes_eq t s) (known-within ts t) h
  where
    by-test : (b : Bool) → (has_text ts t ≡ true → position_or_len (bytes_eq t) ts < length ts) → (b || has_text ts t) ≡ true → cond (not b) (1 + position_or_len (bytes_eq t) ts) 0 < suc (length ts)
    by-test true more k = omega arith
    by-test false more k = let less = more k in omega arith

position-is : (p : List ℕ → Bool) (ts : Texts) (i : ℕ) → position_or_len p ts ≡ i → i < length ts → position p ts ≡ Some i
position-is p ts i e inside = ap (λ n. cond (nat_lt n (length ts)) (Some n) None) e ∙ ap (λ b. cond b (Some i) None) (lt-ltb i (length ts) inside)

unknown : (ts : Texts) (t : List ℕ) → code_of ts t ≡ None → has_text ts t ≡ false
unknown ts t h = by-test (has_text ts t) refl
  where
    by-test : (b : Bool) → has_text ts t ≡ b → b ≡ false
    by-test true e = absurd (none-some _ (sym h ∙ ap (option_map (λ n. n + 1)) (position-is (bytes_eq t) ts (position_or_len (bytes_eq t) ts) refl (known-within ts t e))))
    by-test false e = refl

bytes-same : IsEquivalence bytes_eq
bytes-same = record {
  refl = λ x. (bytes_eq-Decides x x).1 refl;
  symm = λ x y. same_from_decides (bytes_eq x y) (bytes_eq y x) (bytes_eq-Decides x y) (λ h. sym ((bytes_eq-Decides y x).0 h), λ h. (bytes_eq-Decides y x).1 (sym h));
  congr = λ x y z h. ap (λ w. bytes_eq w z) ((bytes_eq-Decides x y).0 h);
}

none-after : (t : List ℕ) (ts : Texts) → has_text ts t ≡ false → AllByRecursion (λ y. bytes_eq t y ≡ false) ts
none-after t [] h = tt
none-after t (s ∷ ts) h = by-test (none-after t ts) (bytes_eq t s) refl h
  where
    by-test : (has_text ts t ≡ false → AllByRecursion (λ y. bytes_eq t y ≡ false) ts) → (b : Bool) → bytes_eq t s ≡ b → (b || has_text ts t) ≡ false → AllByRecursion (λ y. bytes_eq t y ≡ false) (s ∷ ts)
    by-test rest true e k = absurd (true≢false k)
    by-test rest false e k = (e, rest k)

flipped : (b : Bool) → not b ≡ true → b ≡ false
flipped true h = absurd cc
flipped false h = refl

distinct : (ts : Texts) → texts_differ ts ≡ true → IsDistinct bytes_eq ts
unfolding IsDistinct
distinct [] h = tt
distinct (t ∷ ts) h =
    let parts = and_parts (not (has_text ts t)) (texts_differ ts) h in
    IsDistinct-cons bytes_eq t ts (none-after t ts (flipped (has_text ts t) parts.0)) (distinct ts parts.1)

-- all of some texts are among others
abbrev pub AreIn : Texts → Texts → Type 0
AreIn ts xs = list_all (has_text ts) xs ≡ true

member : (ts xs : Texts) (q : List ℕ) → AreIn ts xs → has_text xs q ≡ true → has_text ts q ≡ true
member ts [] q h k = absurd (true≢false (sym k))
member ts (x ∷ xs) q h k =
    let parts = and_parts (has_text ts x) (list_all (has_text ts) xs) h in
    by-test parts.0 (member ts xs q parts.1) (bytes_eq q x) refl k
  where
    by-test : has_text ts x ≡ true → (has_text xs q ≡ true → has_text ts q ≡ true) → (b : Bool) → bytes_eq q x ≡ b → (b || has_text xs q) ≡ true → has_text ts q ≡ true
    by-test there rest true e f = ap (has_text ts) ((bytes_eq-Decides q x).0 e) ∙ there
    by-test there rest false e f = rest f

-- fewer texts than those among which they and one more are
room : (ts acc : Texts) (x : List ℕ) → texts_differ acc ≡ true → AreIn ts acc → has_text acc x ≡ false → has_text ts x ≡ true → length acc < length ts
room ts acc x d h new there =
    let both : texts_differ (x ∷ acc) ≡ true = ap (λ b. not b && texts_differ acc) new ∙ d in
    let all : AreIn ts (x ∷ acc) = ap (λ b. b && list_all (has_text ts) acc) there ∙ h in
    let few = length-le_from_is_member bytes-same (x ∷ acc) ts (distinct (x ∷ acc) both) (λ q. member ts (x ∷ acc) q all) in
    omega (arith, few)

given : (ts acc : Texts) (x : List ℕ) → length ts ≤ 1048576 → texts_differ acc ≡ true → AreIn ts acc → has_text ts x ≡ true → (code : ℕ) × (code_given acc x ≡ Ok code)
given ts acc x most d h there = by-code (code_of acc x) refl
  where
    by-code : (o : Option ℕ) → code_of acc x ≡ o → (code : ℕ) × (option_map_or (λ c. Ok c) o (next_code acc) ≡ Ok code)
    by-code (Some c) e = (c, refl)
    by-code None e =
        let less = room ts acc x d h (unknown acc x e) there in
        let full : are_full acc ≡ false = let f : nat_le 1048576 (length acc) ≡ false = grind (arith, nat_tests, less, most) in f in
        (length acc + 1, ap (λ b. cond b (Err (too_many MOST_TEXTS)) (Ok (length acc + 1))) full)

-- one more of the texts among which they are
in-more : (ts acc : Texts) (x : List ℕ) → AreIn ts acc → has_text ts x ≡ true → AreIn ts (with_text acc x)
in-more ts acc x h there = by-test (has_text acc x || are_full acc)
  where
    by-test : (b : Bool) → AreIn ts (cond b acc (acc ++ x ∷ []))
    by-test true = h
    by-test false = list_all-append (has_text ts) acc (x ∷ []) ∙ ap (λ b. b && (has_text ts x && true)) h ∙ ap (λ b. b && true) there

-- each text has a code
abbrev pub HaveCodes : Texts → Texts → Type 0
HaveCodes us [] = Unit {0}
HaveCodes us (x ∷ xs) = ((code : ℕ) × (code_of us x ≡ Some code)) × HaveCodes us xs

-- texts that are among others all get a code
pub all_given : (ts acc xs : Texts) → length ts ≤ 1048576 → AreTexts acc → list_all is_text xs ≡ true → AreIn ts acc → AreIn ts xs → HaveCodes (with_texts acc xs) xs
all_given ts acc [] most sound are h k = tt
all_given ts acc (x ∷ xs) most sound are h k =
    let parts = and_parts (has_text ts x) (list_all (has_text ts) xs) k in
    let texts = and_parts (is_text x) (list_all is_text xs) are in
    let one = given ts acc x most sound.distinct h parts.0 in
    let next : AreTexts (with_text acc x) = texts_sound acc (x ∷ []) sound (ap (λ b. b && true) texts.0) in
    ((one.0, code_kept (with_text acc x) xs x one.0 (given_kept acc x one.0 one.1)), all_given ts (with_text acc x) xs most next texts.1 (in-more ts acc x h parts.0) parts.1)

-- texts of two lists have codes where those of both together have
pub codes_append : (us xs ys : Texts) → HaveCodes us (xs ++ ys) → HaveCodes us xs × HaveCodes us ys
codes_append us [] ys h = (tt, h)
codes_append us (x ∷ xs) ys h = let rest = codes_append us xs ys h.1 in ((h.0, rest.0), rest.1)
