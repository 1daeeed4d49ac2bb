-- Codes and texts stand for one another, and both stay as texts are added.
use Rattle.std.proofs.Common.{◌≡◌, ◌∙◌, ap, sym, refl, ℕ, zero, suc, ◌+◌, ◌-◌, ◌<◌, ◌≤◌, ◌==◌, ◌||◌, Bool, true, false, not, cond, List, [], ◌∷◌, ◌++◌, length, take, get_or, Option, Some, None, Result, Ok, Err, option_map, position, bytes_eq, is_some, slice_get, nat_lt, arith, subst, true≢false, append-nil, append_assoc, length-append}
use Rattle.std.proofs.Math.ListN.{get_or-append}
use Rattle.std.proofs.Math.Seq.{take-append_seam}
use Rattle.std.proofs.lemmas.Bool.{and_parts, cond-false, cond-true, lt-ltb, not-true, not_from_false, not_from_true, or_left, or_parts, or_right, true_from_ne_false}
use Rattle.std.proofs.lemmas.Bool.Decides.{nat_tests}
use Rattle.std.proofs.lemmas.List.Elements.{All-weaker}
use Rattle.std.proofs.lemmas.List.Quantifiers.{position-Some}
use Rattle.std.proofs.lemmas.List.Sums.{fold-append, position_or_len_is}
use Rattle.std.proofs.lemmas.Option.{none-some, same_Some, slice_get-get_or, slice_get_within}
use Rattle.std.proofs.lemmas.Slice.Eq.{bytes_eq-Decides}
use Rattle.std.specs.List.{position_or_len}
use Rattle.std.specs.Option.{option_map_or}
use Rattle.sw_rows.specs.Adding.{Adds}
use Rattle.sw_rows.specs.Faults.{Fault, too_many}
use Rattle.sw_rows.specs.Recent.{AreTrueOf}
use Rattle.sw_rows.specs.Slots.{IsTrueOf, text_in}
use Rattle.sw_rows.specs.declared.schema.recent.Recent.{Recent}
use Rattle.sw_rows.specs.declared.schema.slot.Slot.{Slot}
use Rattle.sw_rows.specs.Texts.{AreTexts, is_text, are_full, code_given, code_of, has_text, next_code, text_of, texts_differ, with_text, with_texts}
use Rattle.sw_rows.specs.declared.schema.texts.TheConstants.{MOST_TEXTS}
use Rattle.sw_rows.proofs.Tables.CellSpelling.{one_further}
use Rattle.sw_rows.proofs.Schemas.ColumnLemmas.{bytes_eq-sym}
use Rattle.sw_rows.proofs.Options.{err-ok, same_Ok, unless_ok}
use Rattle.sw_rows.proofs.Schemas.TextLemmas.{text_at}

abbrev Texts : Type 0
Texts = List (List ℕ)

-- ---- places

-- a text that the texts do not have is none of theirs
other_at : (ts : Texts) (i : ℕ) (new t : List ℕ) → has_text ts new ≡ false → slice_get ts i ≡ Some t → bytes_eq new t ≡ false
other_at [] i new t h e = absurd (none-some t e)
other_at (s ∷ ts) zero new t h e = sym (ap (bytes_eq new) (same_Some s t e)) ∙ (or_parts (bytes_eq new s) (has_text ts new) h).0
other_at (s ∷ ts) (suc i) new t h e = other_at ts i new t (or_parts (bytes_eq new s) (has_text ts new) h).1 e

here : (t : List ℕ) (n : ℕ) → cond (not (bytes_eq t t)) (1 + n) 0 ≡ 0
here t n = cond-false (not (bytes_eq t t)) (1 + n) 0 (not_from_true (bytes_eq t t) ((bytes_eq-Decides t t).1 refl))

first_at : (ts : Texts) (i : ℕ) (t : List ℕ) → texts_differ ts ≡ true → slice_get ts i ≡ Some t → position_or_len (bytes_eq t) ts ≡ i
first_at [] i t h e = absurd (none-some t e)
first_at (s ∷ ts) zero t h e = subst (λ u. cond (not (bytes_eq t u)) (1 + position_or_len (bytes_eq t) ts) 0 ≡ 0) (sym (same_Some s t e)) (here t (position_or_len (bytes_eq t) ts))
first_at (s ∷ ts) (suc i) t h e =
    let parts = and_parts (not (has_text ts s)) (texts_differ ts) h in
    let other : bytes_eq t s ≡ false = bytes_eq-sym t s ∙ other_at ts i s t (not-true (has_text ts s) parts.0) e in
    one_further (not (bytes_eq t s)) (position_or_len (bytes_eq t) ts) i (not_from_false (bytes_eq t s) other) (first_at ts i t parts.1 e)

-- the first place that passes, where it lies within
position_is : (p : List ℕ → Bool) (ts : Texts) (i : ℕ) → position_or_len p ts ≡ i → i < length ts → position p ts ≡ Some i
position_is p ts i e inside = ap (λ n. cond (nat_lt n (length ts)) (Some n) None) e ∙ cond-true (nat_lt i (length ts)) (Some i) None (lt-ltb i (length ts) inside)

place_there : (ts : Texts) (i : ℕ) (t : List ℕ) → texts_differ ts ≡ true → slice_get ts i ≡ Some t → position (bytes_eq t) ts ≡ Some i
place_there ts i t h e = position_is (bytes_eq t) ts i (first_at ts i t h e) (slice_get_within ts i t e)

place_only : (ts : Texts) (i : ℕ) (t : List ℕ) → position (bytes_eq t) ts ≡ Some i → slice_get ts i ≡ Some t
place_only ts i t h =
    let at = position-Some (bytes_eq t) ts i [] h in
    slice_get-get_or ts i [] at.0 ∙ ap (λ u. Some u) (sym ((bytes_eq-Decides t (get_or ts i [])).0 at.1))

-- ---- codes

not_zero : (code : ℕ) → 0 < code → (code == 0) ≡ false
not_zero code some = grind (arith, nat_tests)

-- codes count from 1
pub text_next : (ts : Texts) (i : ℕ) → text_of ts (i + 1) ≡ slice_get ts i
text_next ts i =
    let e : i + 1 - 1 ≡ i = omega arith in
    cond-false (i + 1 == 0) None (slice_get ts (i + 1 - 1)) (not_zero (i + 1) (omega arith)) ∙ ap (slice_get ts) e

-- a code that some text has is one more than the text's place
pub coded_at : (ts : Texts) (code : ℕ) (t : List ℕ) → text_of ts code ≡ Some t → (i : ℕ) × (i + 1 ≡ code) × (slice_get ts i ≡ Some t)
coded_at ts zero t h = absurd (none-some t h)
coded_at ts (suc i) t h = let e : i + 1 ≡ suc i = omega arith in (i, e, sym (text_next ts i) ∙ ap (text_of ts) e ∙ h)

placed_at : (ts : Texts) (code : ℕ) (t : List ℕ) → code_of ts t ≡ Some code → (i : ℕ) × (i + 1 ≡ code) × (position (bytes_eq t) ts ≡ Some i)
placed_at ts code t h = by_place (position (bytes_eq t) ts) refl h
  where
    by_place : (o : Option ℕ) → position (bytes_eq t) ts ≡ o → option_map (λ i. i + 1) o ≡ Some code → (i : ℕ) × (i + 1 ≡ code) × (position (bytes_eq t) ts ≡ Some i)
    by_place None e k = absurd (none-some code k)
    by_place (Some i) e k = (i, same_Some (i + 1) code k, e)

coded : (ts : Texts) (i code : ℕ) (t : List ℕ) → i + 1 ≡ code → position (bytes_eq t) ts ≡ Some i → code_of ts t ≡ Some code
coded ts i code t e h = ap (option_map (λ n. n + 1)) h ∙ ap (λ n. Some n) e

-- the text of a code has that code
pub code_there : (ts : Texts) (code : ℕ) (t : List ℕ) → texts_differ ts ≡ true → text_of ts code ≡ Some t → code_of ts t ≡ Some code
code_there ts code t d h = let at = coded_at ts code t h in coded ts at.0 code t at.1 (place_there ts at.0 t d at.2)

-- the code of a text has that text
pub code_only : (ts : Texts) (code : ℕ) (t : List ℕ) → code_of ts t ≡ Some code → text_of ts code ≡ Some t
code_only ts code t h =
    let at = placed_at ts code t h in
    ap (text_of ts) (sym at.1) ∙ text_next ts at.0 ∙ place_only ts at.0 t at.2

-- a text that has a code is known
pub known : (ts : Texts) (code : ℕ) (t : List ℕ) → code_of ts t ≡ Some code → has_text ts t ≡ true
known ts code t h =
    let at = placed_at ts code t h in
    let self : bytes_eq t t ≡ true = (bytes_eq-Decides t t).1 refl in
    true_from_ne_false (has_text ts t) (λ f. true≢false (sym self ∙ other_at ts at.0 t t f (place_only ts at.0 t at.2)))

-- and is given that code
pub given_known : (ts : Texts) (code : ℕ) (t : List ℕ) → code_of ts t ≡ Some code → code_given ts t ≡ Ok code
given_known ts code t h = ap (λ o. option_map_or (λ n. Ok n) o (next_code ts)) h

-- so adding it changes nothing
pub adds_known : (ts : Texts) (code : ℕ) (t : List ℕ) → code_of ts t ≡ Some code → code ≤ MOST_TEXTS → Adds ts t ts (Ok code)
adds_known ts code t h few = record {
  code = given_known ts code t h;
  few = few;
  added = sym (cond-true (has_text ts t || are_full ts) ts (ts ++ t ∷ []) (or_left (has_text ts t) (are_full ts) (known ts code t h)));
  refused = tt;
  known = λ there. refl;
  full = λ none. absurd (err-ok (too_many MOST_TEXTS) code (sym none ∙ given_known ts code t h));
}

-- a code is one of 1 to the number of texts
pub code_within : (ts : Texts) (code : ℕ) (t : List ℕ) → code_of ts t ≡ Some code → (0 < code) × (code ≤ length ts)
code_within ts code t h =
    let at = placed_at ts code t h in
    let inside : at.0 < length ts = slice_get_within ts at.0 t (place_only ts at.0 t at.2) in
    let next = at.1 in
    (omega arith, omega arith)

-- and each of these has a text
pub code_counted : (ts : Texts) (code : ℕ) → 0 < code → code ≤ length ts → is_some (text_of ts code) ≡ true
code_counted ts zero some few = absurd (omega arith)
code_counted ts (suc i) some few =
    let inside : i < length ts = omega arith in
    let e : suc i ≡ i + 1 = omega arith in
    ap is_some (ap (text_of ts) e ∙ text_next ts i ∙ slice_get-get_or ts i [] inside)

-- ---- more texts

-- where there are as many texts as there may be, a further one changes nothing
pub none_at_full : (ts : Texts) (t : List ℕ) → are_full ts ≡ true → with_text ts t ≡ ts
none_at_full ts t full = cond-true (has_text ts t || are_full ts) ts (ts ++ t ∷ []) (or_right (has_text ts t) (are_full ts) full)

step : (ts : Texts) (t : List ℕ) → (rest : Texts) × (with_text ts t ≡ ts ++ rest)
step ts t = by_test (has_text ts t || are_full ts)
  where
    by_test : (b : Bool) → (rest : Texts) × (cond b ts (ts ++ t ∷ []) ≡ ts ++ rest)
    by_test true = ([], sym (append-nil ts))
    by_test false = (t ∷ [], refl)

-- the texts stand where they stood, and others come after them
grown : (ts more : Texts) → (rest : Texts) × (with_texts ts more ≡ ts ++ rest)
grown ts [] = ([], sym (append-nil ts))
grown ts (t ∷ more) =
    let one = step ts t in
    let others = grown (with_text ts t) more in
    (one.0 ++ others.0, others.1 ∙ ap (λ us. us ++ others.0) one.1 ∙ append_assoc ts one.0 others.0)

place_kept : (ts rest : Texts) (i : ℕ) (t : List ℕ) → position (bytes_eq t) ts ≡ Some i → position (bytes_eq t) (ts ++ rest) ≡ Some i
place_kept ts rest i t h =
    let p = bytes_eq t in
    let at = position-Some p ts i [] h in
    let long = length-append ts rest in
    let inside : i < length (ts ++ rest) = let low = at.0 in omega arith in
    let within : i ≤ length (ts ++ rest) = omega arith in
    let before : (k : ℕ) → k < i → p (get_or (ts ++ rest) k []) ≡ false = λ k lt. ap p (get_or-append ts rest [] k (low k lt at.0)) ∙ at.2 k lt in
    position_is p (ts ++ rest) i (position_or_len_is p (ts ++ rest) i [] within before (λ lt. ap p (get_or-append ts rest [] i at.0) ∙ at.1)) inside
  where
    low : (k : ℕ) → k < i → i < length ts → k < length ts
    low k lt inside = omega arith

text_kept : (ts rest : Texts) (i : ℕ) (t : List ℕ) → slice_get ts i ≡ Some t → slice_get (ts ++ rest) i ≡ Some t
text_kept [] rest i t h = absurd (none-some t h)
text_kept (s ∷ ts) rest zero t h = h
text_kept (s ∷ ts) rest (suc i) t h = text_kept ts rest i t h

code-append : (ts rest : Texts) (t : List ℕ) (code : ℕ) → code_of ts t ≡ Some code → code_of (ts ++ rest) t ≡ Some code
code-append ts rest t code h = let at = placed_at ts code t h in coded (ts ++ rest) at.0 code t at.1 (place_kept ts rest at.0 t at.2)

-- a text keeps its code as texts are added
pub code_kept : (ts more : Texts) (t : List ℕ) (code : ℕ) → code_of ts t ≡ Some code → code_of (with_texts ts more) t ≡ Some code
code_kept ts more t code h = let all = grown ts more in ap (λ us. code_of us t) all.1 ∙ code-append ts all.0 t code h

-- what came lately is still so as texts are added
pub recent_kept : (ts more : Texts) (r : Recent) → AreTrueOf ts r → AreTrueOf (with_texts ts more) r
recent_kept ts more r h = All-weaker (IsTrueOf ts) (IsTrueOf (with_texts ts more)) kept r.slots h
  where
    kept : (s : Slot) → IsTrueOf ts s → IsTrueOf (with_texts ts more) s
    kept s has = code_kept ts more (text_in s) s.code has

-- a code keeps its text as texts are added
pub text_of_kept : (ts more : Texts) (t : List ℕ) (code : ℕ) → text_of ts code ≡ Some t → text_of (with_texts ts more) code ≡ Some t
text_of_kept ts more t code h =
    let all = grown ts more in
    let at = coded_at ts code t h in
    ap (λ us. text_of us code) all.1 ∙ ap (text_of (ts ++ all.0)) (sym at.1) ∙ text_next (ts ++ all.0) at.0 ∙ text_kept ts all.0 at.0 t at.2

-- the first so many texts are those before the added ones
pub taken_back : (ts more : Texts) → take (length ts) (with_texts ts more) ≡ ts
taken_back ts more = let all = grown ts more in ap (take (length ts)) all.1 ∙ take-append_seam ts all.0

-- ---- the code of a new text

known_within : (ts : Texts) (t : List ℕ) → has_text ts t ≡ true → position_or_len (bytes_eq t) ts < length ts
known_within [] t h = absurd (true≢false (sym h))
known_within (s ∷ ts) t h = by_test (bytes_eq t s) (known_within ts t) h
  where
    by_test : (b : Bool) → (has_text ts t ≡ true → position_or_len (bytes_eq t) ts < length ts) → (b || has_text ts t) ≡ true → cond (not b) (1 + position_or_len (bytes_eq t) ts) 0 < suc (length ts)
    by_test true more k = omega arith
    by_test false more k = let less = more k in omega arith

unknown : (ts : Texts) (t : List ℕ) → code_of ts t ≡ None → has_text ts t ≡ false
unknown ts t h = by_test (has_text ts t) refl
  where
    by_test : (b : Bool) → has_text ts t ≡ b → b ≡ false
    by_test true e = absurd (none-some _ (sym h ∙ ap (option_map (λ n. n + 1)) (position_is (bytes_eq t) ts (position_or_len (bytes_eq t) ts) refl (known_within ts t e))))
    by_test false e = refl

last_at : (ts : Texts) (t : List ℕ) → has_text ts t ≡ false → position_or_len (bytes_eq t) (ts ++ t ∷ []) ≡ length ts
last_at [] t h = here t 0
last_at (s ∷ ts) t h =
    let parts = or_parts (bytes_eq t s) (has_text ts t) h in
    one_further (not (bytes_eq t s)) (position_or_len (bytes_eq t) (ts ++ t ∷ [])) (length ts) (not_from_false (bytes_eq t s) parts.0) (last_at ts t parts.1)

neither : (a b : Bool) → a ≡ false → b ≡ false → (a || b) ≡ false
neither a b h k = rw (h, k) refl

code_of_new : (ts : Texts) (t : List ℕ) → has_text ts t ≡ false → are_full ts ≡ false → code_of (with_text ts t) t ≡ Some (length ts + 1)
code_of_new ts t h room =
    let long = length-append ts (t ∷ []) in
    let inside : length ts < length (ts ++ t ∷ []) = omega arith in
    ap (λ us. code_of us t) (cond-false (has_text ts t || are_full ts) ts (ts ++ t ∷ []) (neither (has_text ts t) (are_full ts) h room)) ∙ coded (ts ++ t ∷ []) (length ts) (length ts + 1) t refl (position_is (bytes_eq t) (ts ++ t ∷ []) (length ts) (last_at ts t h) inside)

at_most_all : (ts : Texts) (t : List ℕ) → position_or_len (bytes_eq t) ts ≤ length ts
at_most_all [] t = omega arith
at_most_all (s ∷ ts) t = by_test (not (bytes_eq t s)) (at_most_all ts t)
  where
    by_test : (b : Bool) → position_or_len (bytes_eq t) ts ≤ length ts → cond b (1 + position_or_len (bytes_eq t) ts) 0 ≤ suc (length ts)
    by_test true low = omega arith
    by_test false low = omega arith

-- where there is room, a text is given one more than its place, which is behind all where it is new
pub given_at : (ts : Texts) (t : List ℕ) → length ts < MOST_TEXTS → code_given ts t ≡ Ok (position_or_len (bytes_eq t) ts + 1)
given_at ts t few = by_test (nat_lt place (length ts)) refl
  where
    place : ℕ
    place = position_or_len (bytes_eq t) ts

    by_test : (b : Bool) → nat_lt place (length ts) ≡ b → code_given ts t ≡ Ok (place + 1)
    by_test true e = rw e refl
    by_test false e =
        let room : are_full ts ≡ false = grind (arith, nat_tests) in
        let most : place ≤ length ts = at_most_all ts t in
        let all : place ≡ length ts = grind (arith, nat_tests) in
        rw (e, room, all) refl

-- the code that a text is given is its code from then on
pub given_kept : (ts : Texts) (t : List ℕ) (code : ℕ) → code_given ts t ≡ Ok code → code_of (with_text ts t) t ≡ Some code
given_kept ts t code h = by_code (code_of ts t) refl h
  where
    by_code : (o : Option ℕ) → code_of ts t ≡ o → option_map_or (λ c. Ok c) o (next_code ts) ≡ Ok code → code_of (with_text ts t) t ≡ Some code
    by_code None e k =
        let next = unless_ok (are_full ts) (Ok (length ts + 1)) (too_many MOST_TEXTS) code k in
        code_of_new ts t (unknown ts t e) next.0 ∙ ap (λ n. Some n) (same_Ok (length ts + 1) code next.1)
    by_code (Some c) e k = code_kept ts (t ∷ []) t code (e ∙ ap (λ n. Some n) (same_Ok c code k))

same_Err : (e : Fault) → ◌≡◌ {A = Result ℕ Fault} (Err (too_many MOST_TEXTS)) (Err e) → e ≡ too_many MOST_TEXTS
same_Err e h = cc

-- a text for which there is no code has none after others
pub never_given : (ts : Texts) (t : List ℕ) (more : Texts) (e : Fault) → code_given ts t ≡ Err e → (code_of (with_texts ts more) t ≡ None) × (e ≡ too_many MOST_TEXTS)
never_given ts t more e h = by_code (code_of ts t) refl h
  where
    stays : (us : Texts) (xs : Texts) → are_full us ≡ true → with_texts us xs ≡ us
    stays us [] full = refl
    stays us (x ∷ xs) full = ap (λ vs. with_texts vs xs) (none_at_full us x full) ∙ stays us xs full

    by_full : (b : Bool) → are_full ts ≡ b → code_of ts t ≡ None → cond b (Err (too_many MOST_TEXTS)) (Ok (length ts + 1)) ≡ Err e → (code_of (with_texts ts more) t ≡ None) × (e ≡ too_many MOST_TEXTS)
    by_full true f n k = (ap (λ us. code_of us t) (stays ts more f) ∙ n, same_Err e k)
    by_full false f n k = absurd (err-ok e (length ts + 1) (sym k))

    by_code : (o : Option ℕ) → code_of ts t ≡ o → option_map_or (λ c. Ok c) o (next_code ts) ≡ Err e → (code_of (with_texts ts more) t ≡ None) × (e ≡ too_many MOST_TEXTS)
    by_code None n k = by_full (are_full ts) refl n k
    by_code (Some c) n k = absurd (err-ok e c (sym k))

-- more texts, and then others
pub with_more : (ts xs ys : Texts) → with_texts ts (xs ++ ys) ≡ with_texts (with_texts ts xs) ys
with_more ts xs ys = fold-append with_text ts xs ys

-- the text of a code may be one of a cell
pub text_sound : (ts : Texts) (code : ℕ) (t : List ℕ) → AreTexts ts → text_of ts code ≡ Some t → is_text t ≡ true
text_sound ts code t s h = let at = coded_at ts code t h in text_at ts at.0 t s.sound at.2
