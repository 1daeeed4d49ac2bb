-- What is known of the tickets that come to a close.
use Rattle.std.proofs.Common.{◌≡◌, inl, inr, ⊎_elim, ℕ, zero, suc, ◌+◌, ◌<◌, ◌≤◌, ◌≢◌, List, [], ◌∷◌, ◌++◌, drop, length, map, take, refl, sym, ◌∙◌, ap, subst, arith, All}
use Rattle.std.proofs.lemmas.List.{length-map, take-append-le}
use Rattle.std.proofs.Math.Seq.{take-length}
use Rattle.std.proofs.lemmas.List.Elements.{All-head, All-tail}
use Rattle.std.specs.Prelude.{Bool, Some, false, get_or, slice_get, slice_set}
use Rattle.sw_table.specs.declared.row.Row.{Row}
use Rattle.sw_table.specs.declared.row.Update.{Update}
use Rattle.sw_query.specs.declared.refusal.Refusal.{Refusal}
use Rattle.sw_query.specs.declared.refusal.Refusal.TheVariants as refusal
use Rattle.sw_spine.specs.Books.{Books, RefusesSession}
use Rattle.sw_spine.specs.declared.spine.TheConstants.{MOST_SESSIONS}
use Rattle.sw_engine.specs.Desk.{AreAll, AreCounted, AreOut, IsMade, IsNamed, IsTied, RefusesNext}
use Rattle.sw_engine.specs.Published.{Shown, answered_to, session_shown}
use Rattle.sw_engine.proofs.Ties.{get_below, nat_cases, shown_is}

-- ---- why the next session is not opened

-- where there are fewer than there may be, the spine tells of memory alone
pub next_refused : (most : ℕ) (b : Books) (e : Refusal) → b.sessions < most → most ≤ MOST_SESSIONS → RefusesSession b e → RefusesNext most b e
next_refused most b refusal.NoMemory fewer few why = fewer
next_refused most b (refusal.TooMany limit) fewer few why = absurd (omega (arith, fewer, few, why.1))
next_refused most b (refusal.BadTable _ _) fewer few why = absurd why
next_refused most b (refusal.BadLine _ _) fewer few why = absurd why
next_refused most b (refusal.UnknownAttribute _) fewer few why = absurd why
next_refused most b (refusal.NoBlank _ _) fewer few why = absurd why
next_refused most b (refusal.Short _ _ _) fewer few why = absurd why
next_refused most b (refusal.Contended _ _) fewer few why = absurd why
next_refused most b (refusal.SharesOut _ _) fewer few why = absurd why
next_refused most b (refusal.HistoryFull _) fewer few why = absurd why
next_refused most b (refusal.NotLegal _) fewer few why = absurd why
next_refused most b refusal.Input fewer few why = absurd why
next_refused most b refusal.Output fewer few why = absurd why
next_refused most b (refusal.Ahead _ _) fewer few why = absurd why

-- ---- tickets of sessions that were made

-- one whose share agrees with its row
pub is_made : (opening : List Row) (s : Books) (rows heads : List (Books × Bool)) (k n : ℕ) (a : Books) (receipt : List (List Update)) (missed : ℕ) → IsTied s rows heads → slice_get rows k ≡ Some (a, false) → n ≡ k + 1 → IsMade (length (map (λ r. r.1) rows)) (session_shown opening n a receipt missed)
is_made opening s rows heads k n a receipt missed tied at is =
    let low = get_below rows k (a, false) at in
    let many : length (map (λ (r : Books × Bool). r.1) rows) ≡ length rows = length-map rows (λ (r : Books × Bool). r.1) in
    let saw : a.sessions ≤ s.sessions = (shown_is s rows heads k n a tied at is).4 in
    let all = tied.as_many in
    (omega (arith, low, many, is), omega (arith, saw, many, all))

-- one of them that is put back as it was
pub set_kept : {A : Type 0} (xs : List A) (k : ℕ) (d v : A) → k < length xs → v ≡ get_or xs k d → slice_set xs k v ≡ xs
set_kept [] k d v lt is = absurd (omega (arith, lt))
set_kept (x ∷ xs) zero d v lt is = ap (λ y. y ∷ xs) is
set_kept (x ∷ xs) (suc k) d v lt is = ap (λ l. x ∷ l) (set_kept xs k d v (omega (arith, lt)) is)

-- what stands at a place of a list does not hang on what is told of places behind its end
pub get_any : {A : Type 0} (xs : List A) (k : ℕ) (d e : A) → k < length xs → get_or xs k d ≡ get_or xs k e
get_any [] k d e lt = absurd (omega (arith, lt))
get_any (x ∷ xs) zero d e lt = refl
get_any (x ∷ xs) (suc k) d e lt = get_any xs k d e (omega (arith, lt))

-- those before a place are of sessions that were made
abbrev pub AreHeld : ℕ → ℕ → List Shown → Type 0
AreHeld made n ts = (k : ℕ) (d : Shown) → k < n → IsMade made (get_or ts k d)

-- where the next one is of a session that was made too, there is one more of them
pub held_more : (made n : ℕ) (ts : List Shown) (d : Shown) → n < length ts → AreHeld made n ts → IsMade made (get_or ts n d) → AreHeld made (n + 1) ts
held_more made n ts d lt held one k e less = ⊎_elim
    (λ (same : k ≡ n). subst (λ j. IsMade made (get_or ts j e)) (sym same) (subst (IsMade made) (get_any ts n d e lt) one))
    (λ (apart : k ≢ n). held k e (omega (arith, less, apart)))
    (nat_cases k n)

-- one that has the number of the last session that may be made is of a session that was made
named_made : (most made : ℕ) (ts : List Shown) → All (IsMade made) ts → IsNamed most (map answered_to ts) → most ≤ made
named_made most made [] all named = absurd named
named_made most made (t ∷ ts) all named = ⊎_elim
    (λ is. let m = (All-head (IsMade made) t ts all).0 in omega (arith, is, m))
    (λ more. named_made most made ts (All-tail (IsMade made) t ts all) more)
    named

-- so where all came back that there may be, all were made
pub all_made : (most made : ℕ) (ts : List Shown) → AreAll most ts → All (IsMade made) ts → made ≤ most → made ≡ length ts
all_made zero made ts are all within = omega (arith, within, are.0)
all_made (suc n) made ts are all within = let m = named_made (suc n) made ts all (are.1 (omega arith)) in omega (arith, within, are.0, m)

-- so a close is not refused there
pub never_out : (most made : ℕ) (ts : List Shown) (e : Refusal) → All (IsMade made) ts → made ≤ most → AreOut made (length ts) e → AreAll most ts → ⊥
never_out most made ts e all within out are = out.1 (all_made most made ts are all within)

-- a list of which all was lent out, and came back as it was
pub slice_back : {A : Type 0} (n : ℕ) (xs ys : List A) → ys ≡ xs → n ≡ length xs → take n (ys ++ drop (length ys) xs) ≡ xs
slice_back n xs ys same many =
    (λ i. take (many i) (same i ++ drop (length (same i)) xs)) ∙ (take-append-le (length xs) xs (drop (length xs) xs) (omega arith) ∙ take-length xs)

-- of tickets in order the last has the number of all
counted_named : (n k : ℕ) (ts : List Shown) → AreCounted n (map (λ t. t.0) ts) → k < length ts → IsNamed (n + k) (map answered_to ts)
counted_named n k [] counted lt = absurd (omega (arith, lt))
counted_named n zero (t ∷ ts) counted lt = inl (counted.0 ∙ (let e : n ≡ n + 0 = omega arith in e))
counted_named n (suc k) (t ∷ ts) counted lt = inr (subst (λ m. IsNamed m (map answered_to ts)) (let e : n + 1 + k ≡ n + suc k = omega arith in e) (counted_named (n + 1) k ts counted.1 (omega (arith, lt))))

-- tickets numbered 1 to as many as may be made are all
pub all_counted : (most : ℕ) (ts : List Shown) → AreCounted 1 (map (λ t. t.0) ts) → length ts ≡ most → AreAll most ts
all_counted zero ts counted many = (many, λ some. absurd (omega (arith, some)))
all_counted (suc n) ts counted many = (many, λ some. subst (λ m. IsNamed m (map answered_to ts)) (let e : 1 + n ≡ suc n = omega arith in e) (counted_named 1 n ts counted (omega (arith, many))))
