-- How many pairs a tape of rising keys has at most; what a logged range leaves of an area.
use Rattle.std.proofs.Common.{◌≡◌, ℕ, suc, ◌+◌, ◌-◌, ◌<◌, ◌≤◌, ◌^◌, ◌&&◌, ◌⊎◌, inl, inr, true, false, true≢false, List, [], ◌∷◌, ◌++◌, length, refl, ap, sym, ◌∙◌, arith, subst, All, Option, Result, Ok, Err, MatchResult}
use Rattle.std.specs.List.{AllByRecursion}
use Rattle.std.proofs.lemmas.List.{length-append}
use Rattle.std.proofs.lemmas.List.Elements.{All-append}
use Rattle.sw_query.specs.declared.bound.Bound.{Bound}
use Rattle.sw_table.specs.declared.row.Row.{Row}
use Rattle.sw_query.specs.declared.refusal.Refusal.{Refusal}
use Rattle.sw_query.specs.declared.refusal.Refusal.TheVariants.{NoMemory}
use Rattle.sw_kernel.specs.Replay.{Step, loaded, inserted, removed, ranged}
use Rattle.sw_kernel.specs.Tapes.{brought, brought_by, count_after, peak_from}
use Rattle.sw_map.specs.Held.{KeysFit}
use Rattle.sw_set.specs.Shelf.{AreaState, IsAreaLawful, IsSameArea, Rises, key_of}
use Rattle.sw_set.specs.Prepared.{IsNoted, stands_if}
use Rattle.sw_set.specs.Boxed.{IsSameButBoxes}
use Rattle.sw_set.proofs.Areas.Receiving.{IsBelow, brings-less}
use Rattle.sw_set.proofs.Areas.Shelves.{brought-ranged, logged-ranged}

-- ---- how many pairs
count-brought : {A : Type 0} (n : ℕ) (e : Step A) → count_after n e ≤ n + length (brought_by e)
count-brought n (loaded xs) = omega arith
count-brought n (inserted x) = omega arith
count-brought n (removed p) = omega arith
count-brought n (ranged l u) = omega arith

peak-brought : {A : Type 0} (n : ℕ) (es : List (Step A)) → peak_from n es ≤ n + length (brought es)
peak-brought n [] = omega arith
peak-brought n (e ∷ es) =
    let c = count-brought n e in
    let h = peak-brought (count_after n e) es in
    let l = length-append (brought_by e) (brought es) in
    omega arith

above-next : (i : ℕ) (rows : List Row) → AllByRecursion (λ (y : Row). i < key_of y) rows → AllByRecursion (λ (y : Row). i + 1 ≤ key_of y) rows
above-next i [] h = tt
above-next i (r ∷ rs) h = (let p = h.0 in omega arith, above-next i rs h.1)

rising-few : (n i : ℕ) (rows : List Row) → Rises key_of rows → AllByRecursion (λ (y : Row). i ≤ key_of y) rows → All (λ (r : Row). r.key < n) rows → length rows ≤ n - i
rising-few n i [] rise low fit = omega arith
rising-few n i (r ∷ rs) rise low fit =
    let h = rising-few n (r.key + 1) rs rise.1 (above-next r.key rs rise.0) (λ k d lt. fit (suc k) d (omega (arith, lt))) in
    let l = low.0 in
    let f = fit 0 r (omega arith) in
    omega arith

least-none : (rows : List Row) → AllByRecursion (λ (y : Row). 0 ≤ key_of y) rows
least-none [] = tt
least-none (r ∷ rs) = (omega arith, least-none rs)

brought-fit : (tape : List (Step Row)) → All (λ (e : Step Row). KeysFit e) tape → All (λ (r : Row). r.key < 2 ^ 63) (brought tape)
brought-fit [] h = λ k d lt. let no : k < 0 = lt in absurd (omega arith)
brought-fit (e ∷ es) h = All-append (λ (r : Row). r.key < 2 ^ 63) (brought_by e) (brought es) (h 0 e (omega arith)) (brought-fit es (λ k d lt. h (suc k) d (omega (arith, lt))))

-- a map of a lawful area never has more than 2^63 pairs
pub peak-few : (x : AreaState) → IsAreaLawful x → peak_from 0 x.tape ≤ 2 ^ 63
peak-few x w =
    let p = peak-brought 0 x.tape in
    let f = rising-few (2 ^ 63) 0 (brought x.tape) w.brought_rise (least-none (brought x.tape)) (brought-fit x.tape w.keys) in
    omega arith

-- ---- one more range
pub same-area : (x : AreaState) → IsSameArea x x
same-area x = record { attribute = refl; from = refl; below = refl; inbox = refl; spare = refl; logged = refl; many = refl; brings = λ n h. h }

-- being the same area but for its boxes and its tape is transitive
pub same-trans : (x y z : AreaState) → IsSameArea x y → IsSameArea y z → IsSameArea x z
same-trans x y z p q = record { attribute = q.attribute ∙ p.attribute; from = q.from ∙ p.from; below = q.below ∙ p.below; inbox = q.inbox ∙ p.inbox; spare = q.spare ∙ p.spare; logged = q.logged ∙ p.logged; many = q.many ∙ p.many; brings = λ n h. q.brings n (p.brings n h) }

-- an area whose boxes alone changed
pub same-tape : (x y : AreaState) → IsSameButBoxes x y → IsSameArea x y
same-tape x y p = record {
  attribute = p.attribute;
  from = p.from;
  below = p.below;
  inbox = p.inbox;
  spare = p.spare;
  logged = rw (p.attribute, p.tape) refl;
  many = p.many;
  brings = brings-less x y p.inbox (λ n h. subst (λ (t : List (Step Row)). IsBelow n (brought t)) (sym p.tape) h);
}

-- an area that was to log one more range stands for the same rows, whether it was logged or not
pub same-logged : {U : Type 0} (r : Result U Refusal) (lower upper : Option Bound) (x y : AreaState) → MatchResult r (λ _. y ≡ record x { tape = x.tape ++ ranged lower upper ∷ [] }) (λ e. (y ≡ x) × (e ≡ NoMemory)) → IsSameArea x y
same-logged (Ok u) lower upper x y is = subst (IsSameArea x) (sym is) (record {
  attribute = refl;
  from = refl;
  below = refl;
  inbox = refl;
  spare = refl;
  logged = logged-ranged x.attribute x.tape lower upper;
  many = refl;
  brings = brings-less x (record x { tape = x.tape ++ ranged lower upper ∷ [] }) refl (λ n h. subst (IsBelow n) (sym (brought-ranged x.tape lower upper)) h);
})
same-logged (Err e) lower upper x y is = subst (IsSameArea x) (sym is.0) (same-area x)

-- where both bounds stand in ranges of the tape, it is noted with them as it is
pub noted-stood : (lower upper : Option Bound) (rows : List Row) (tape : List (Step Row)) → stands_if lower tape && stands_if upper tape ≡ true → IsNoted lower upper rows tape tape
noted-stood lower upper rows tape is = record { stood = λ _. refl; added = λ f. absurd (true≢false (sym is ∙ f)); restarted = λ f. absurd (true≢false (sym is ∙ f)) }

-- a tape with room that lacks one of the bounds is noted by one range more; or there was no memory
pub noted-added : {U : Type 0} (r : Result U Refusal) (lower upper : Option Bound) (rows : List Row) (x y : AreaState) → stands_if lower x.tape && stands_if upper x.tape ≡ false → length x.tape < 4096 → MatchResult r (λ _. y ≡ record x { tape = x.tape ++ ranged lower upper ∷ [] }) (λ e. (y ≡ x) × (e ≡ NoMemory)) → MatchResult r (λ _. IsNoted lower upper rows x.tape y.tape) (λ e. (e ≡ NoMemory) × ((y.tape ≡ x.tape) ⊎ (y.tape ≡ loaded rows ∷ [])))
noted-added (Ok u) lower upper rows x y is room w = record { stood = λ t. absurd (true≢false (sym t ∙ is)); added = λ _ _. ap (λ (v : AreaState). v.tape) w; restarted = λ _ full. absurd (omega arith) }
noted-added (Err e) lower upper rows x y is room w = (w.1, inl (ap (λ (v : AreaState). v.tape) w.0))

-- a full tape that lacks one of the bounds is noted by a range behind one load; or there was no memory
pub noted-restarted : {U : Type 0} (r : Result U Refusal) (lower upper : Option Bound) (rows : List Row) (x z y : AreaState) → stands_if lower x.tape && stands_if upper x.tape ≡ false → length x.tape ≡ 4096 → z.tape ≡ loaded rows ∷ [] → MatchResult r (λ _. y ≡ record z { tape = z.tape ++ ranged lower upper ∷ [] }) (λ e. (y ≡ z) × (e ≡ NoMemory)) → MatchResult r (λ _. IsNoted lower upper rows x.tape y.tape) (λ e. (e ≡ NoMemory) × ((y.tape ≡ x.tape) ⊎ (y.tape ≡ loaded rows ∷ [])))
noted-restarted (Ok u) lower upper rows x z y is full mid w = record { stood = λ t. absurd (true≢false (sym t ∙ is)); added = λ _ room. absurd (omega arith); restarted = λ _ _. ap (λ (s : AreaState). s.tape) w ∙ ap (λ (t : List (Step Row)). t ++ ranged lower upper ∷ []) mid }
noted-restarted (Err e) lower upper rows x z y is full mid w = (w.1, inr (ap (λ (s : AreaState). s.tape) w.0 ∙ mid))
