-- The places that are gone after some flags.
use Rattle.std.proofs.Common.{◌≡◌, ◌∙◌, ap, sym, refl, subst, ℕ, zero, suc, ◌+◌, ◌-◌, ◌<◌, ◌≤◌, Bool, true, false, List, [], ◌∷◌, ◌++◌, length, get_or, take, drop, arith, length-drop}
use Rattle.std.proofs.lemmas.List.{append_assoc, drop-drop, get_or-drop, get_or_default}
use Rattle.sw_table.specs.declared.row.Row.{Row}
use Rattle.sw_table.specs.Kept.{kept}
use Rattle.sw_table.proofs.LiveLaws.{kept-all}
use Rattle.sw_load.specs.Flags.{AreLive, IsNextGone}
use Rattle.sw_load.specs.Gone.{AreBefore, AreGoneAfter, ArePlaces, left_of, without_places}
use Rattle.sw_load.proofs.Places.{before-few, behind-push, behind_last, between-append, items_between, left-before, left-behind, places-behind, places-change, places-put, without-long, without-split}

-- the places that are gone after the flags before the q-th, and after them those that were gone from the k-th on, are what is gone where the other flags are true
pub record IsPartGone (live : List Bool) (old : List ℕ) (q k : ℕ) (new : List ℕ) : Type 0 where
  pub many : k ≤ length old
  pub within : q ≤ length live
  pub behind : behind_last 0 new ≡ q + k
  pub places : ArePlaces 0 (length live + length old) (new ++ drop k old)
  pub items : (xs : List Row) → length xs ≡ length live + length old → items_between 0 new xs ++ kept (drop q live) (without_places (q + k) (drop k old) xs) ≡ kept live (left_of xs old)

-- some live items, and one that is not
kept-run_suc : {X : Type 0} (fs : List Bool) (xs : List X) (r : ℕ) → length fs ≡ length xs → r < length fs → ((i : ℕ) → i < r → get_or fs i false ≡ true) → get_or fs r false ≡ false → kept fs xs ≡ take r xs ++ kept (drop (suc r) fs) (drop (suc r) xs)
kept-run_suc [] xs r same lt on off = absurd (omega (arith, lt))
kept-run_suc (b ∷ fs) [] r same lt on off = absurd (omega (arith, same))
kept-run_suc (b ∷ fs) (x ∷ xs) zero same lt on off = rw off refl
kept-run_suc (b ∷ fs) (x ∷ xs) (suc r) same lt on off =
    let first : b ≡ true = on 0 (omega arith) in
    rw first (ap (λ v. x ∷ v) (kept-run_suc fs xs r (omega (arith, same)) (omega (arith, lt)) (λ i low. on (suc i) (omega (arith, low))) off))

-- flags that are true up to one that is false keep all items before it, and then the rest without it
pub kept-run : {X : Type 0} (fs : List Bool) (xs : List X) (r : ℕ) → length fs ≡ length xs → r < length fs → ((i : ℕ) → i < r → get_or fs i false ≡ true) → get_or fs r false ≡ false → kept fs xs ≡ take r xs ++ kept (drop (r + 1) fs) (drop (r + 1) xs)
kept-run fs xs r same lt on off = kept-run_suc fs xs r same lt on off ∙ ap (λ n. take r xs ++ kept (drop n fs) (drop n xs)) (let e : suc r ≡ r + 1 = omega arith in e)

-- before all flags nothing is gone that was not
pub part-none : (live : List Bool) (old : List ℕ) → ArePlaces 0 (length live + length old) old → IsPartGone live old 0 0 []
part-none live old a = record { many = omega arith; within = omega arith; behind = omega arith; places = a; items = λ xs long. refl }

-- one more flag is false
module _ (live : List Bool) (old new : List ℕ) (q k p i : ℕ) (part : IsPartGone live old q k new) (next : IsNextGone live q p) (before : AreBefore (p + k) (drop k old) i) where
  gs : List ℕ
  gs = drop k old

  few : i ≤ length (drop k old)
  few = before-few (p + k) (drop k old) i before

  rest : ArePlaces (q + k) (length live + length old) (drop k old)
  rest = subst (λ (n : ℕ). ArePlaces n (length live + length old) (drop k old)) part.behind (places-behind 0 (length live + length old) new (drop k old) part.places)

  at : p + k ≡ q + k + (p - q)
  at = omega (arith, next.after)

  sums : p + (k + i) ≡ p + k + i
  sums = omega arith

  below : p + k + i < length live + length old
  below = omega (arith, few, next.within, part.many, length-drop k old)

  after : List ℕ
  after = new ++ take i (drop k old) ++ (p + (k + i)) ∷ []

  more-behind : behind_last 0 (new ++ take i (drop k old) ++ (p + (k + i)) ∷ []) ≡ p + 1 + (k + i)
  more-behind = behind-push 0 (new ++ take i (drop k old)) (p + (k + i)) ∙ omega arith

  regroup : (new ++ take i (drop k old) ++ (p + (k + i)) ∷ []) ++ drop (k + i) old ≡ new ++ (take i (drop k old) ++ (p + k + i) ∷ drop i (drop k old))
  regroup =
      append_assoc (new ++ take i (drop k old)) ((p + (k + i)) ∷ []) (drop (k + i) old)
      ∙ append_assoc new (take i (drop k old)) ((p + (k + i)) ∷ drop (k + i) old)
      ∙ ap (λ n. new ++ (take i (drop k old) ++ n ∷ drop (k + i) old)) sums
      ∙ ap (λ v. new ++ (take i (drop k old) ++ (p + k + i) ∷ v)) (sym (drop-drop i k old))

  more-places : ArePlaces 0 (length live + length old) ((new ++ take i (drop k old) ++ (p + (k + i)) ∷ []) ++ drop (k + i) old)
  more-places =
      subst (λ (v : List ℕ). ArePlaces 0 (length live + length old) v) (sym regroup)
      (places-change 0 (length live + length old) new (drop k old) (take i (drop k old) ++ (p + k + i) ∷ drop i (drop k old)) part.places
      (λ a. places-put (behind_last 0 new) (length live + length old) (drop k old) (p + k) i a before (omega (arith, part.behind, next.after)) below))

  more-items : (xs : List Row) → length xs ≡ length live + length old → items_between 0 (new ++ take i (drop k old) ++ (p + (k + i)) ∷ []) xs ++ kept (drop (p + 1) live) (without_places (p + 1 + (k + i)) (drop (k + i) old) xs) ≡ kept live (left_of xs old)
  more-items xs long =
      let m = length live + length old in
      let left = without_places (q + k) (drop k old) xs in
      let many : length left + (q + k + length (drop k old)) ≡ m = without-long xs (q + k) m (drop k old) long rest in
      let same : length (drop q live) ≡ length left = omega (arith, many, length-drop q live, length-drop k old, part.many, part.within) in
      let run : kept (drop q live) left ≡ take (p - q) left ++ kept (drop (p - q + 1) (drop q live)) (drop (p - q + 1) left) =
      kept-run (drop q live) left (p - q) same (omega (arith, length-drop q live, next.after, next.within))
      (λ j lt. get_or-drop q live j false ∙ next.live_before (q + j) (omega arith) (omega (arith, lt)))
      (get_or-drop q live (p - q) false ∙ ap (λ (n : ℕ). get_or live n false) (let e : q + (p - q) ≡ p = omega (arith, next.after) in e) ∙ next.gone) in
      let flags : drop (p - q + 1) (drop q live) ≡ drop (p + 1) live = drop-drop (p - q + 1) q live ∙ ap (λ (n : ℕ). drop n live) (let e : q + (p - q + 1) ≡ p + 1 = omega (arith, next.after) in e) in
      let front : items_between (q + k) (take i (drop k old) ++ (p + k + i) ∷ []) xs ≡ take (p - q) left = left-before xs (q + k) m (drop k old) (p - q) (p + k) i long rest at before in
      let back : without_places (p + k + i + 1) (drop i (drop k old)) xs ≡ drop (p - q + 1) left = left-behind xs (q + k) m (drop k old) (p - q) (p + k) i long rest at before in
      let there : without_places (p + 1 + (k + i)) (drop (k + i) old) xs ≡ drop (p - q + 1) left =
      ap (λ (n : ℕ). without_places n (drop (k + i) old) xs) (let e : p + 1 + (k + i) ≡ p + k + i + 1 = omega arith in e)
      ∙ ap (λ (v : List ℕ). without_places (p + k + i + 1) v xs) (sym (drop-drop i k old)) ∙ back in
      let here : items_between 0 (new ++ take i (drop k old) ++ (p + (k + i)) ∷ []) xs ≡ items_between 0 new xs ++ take (p - q) left =
      ap (λ (v : List ℕ). items_between 0 v xs) (append_assoc new (take i (drop k old)) ((p + (k + i)) ∷ []))
      ∙ between-append xs 0 new (take i (drop k old) ++ (p + (k + i)) ∷ [])
      ∙ ap (λ (n : ℕ). items_between 0 new xs ++ items_between n (take i (drop k old) ++ (p + (k + i)) ∷ []) xs) part.behind
      ∙ ap (λ (n : ℕ). items_between 0 new xs ++ items_between (q + k) (take i (drop k old) ++ n ∷ []) xs) sums
      ∙ ap (λ (v : List Row). items_between 0 new xs ++ v) front in
      ap (λ (v : List Row). v ++ kept (drop (p + 1) live) (without_places (p + 1 + (k + i)) (drop (k + i) old) xs)) here
      ∙ ap (λ (v : List Row). items_between 0 new xs ++ take (p - q) left ++ kept (drop (p + 1) live) v) there
      ∙ append_assoc (items_between 0 new xs) (take (p - q) left) (kept (drop (p + 1) live) (drop (p - q + 1) left))
      ∙ ap (λ (v : List Bool). items_between 0 new xs ++ (take (p - q) left ++ kept v (drop (p - q + 1) left))) (sym flags)
      ∙ ap (λ (v : List Row). items_between 0 new xs ++ v) (sym run)
      ∙ part.items xs long

  -- one more place that is gone, behind those of the old ones that come before it
  pub part-more : IsPartGone live old (p + 1) (k + i) (new ++ take i (drop k old) ++ (p + (k + i)) ∷ [])
  part-more = record {
    many = omega (arith, few, length-drop k old, part.many);
    within = omega (arith, next.within);
    behind = more-behind;
    places = more-places;
    items = more-items;
  }

-- all other flags are true
pub part-all : (live : List Bool) (old new : List ℕ) (q k : ℕ) → IsPartGone live old q k new → AreLive live q (length live) → AreGoneAfter live old (new ++ drop k old)
part-all live old new q k part on =
    let m = length live + length old in
    record {
      places = part.places;
      items = λ xs long. (
          let left = without_places (q + k) (drop k old) xs in
          let rest : ArePlaces (q + k) m (drop k old) = subst (λ (n : ℕ). ArePlaces n m (drop k old)) part.behind (places-behind 0 m new (drop k old) part.places) in
          let many : length left + (q + k + length (drop k old)) ≡ m = without-long xs (q + k) m (drop k old) long rest in
          let same : length (drop q live) ≡ length left = omega (arith, many, length-drop q live, length-drop k old, part.many, part.within) in
          let all : kept (drop q live) left ≡ left = kept-all (drop q live) left same (λ j d lt. all-at live q j d (omega (arith, lt, length-drop q live)) on) in
          without-split xs 0 new (drop k old)
          ∙ ap (λ (n : ℕ). items_between 0 new xs ++ without_places n (drop k old) xs) part.behind
          ∙ ap (λ (v : List Row). items_between 0 new xs ++ v) (sym all)
          ∙ part.items xs long
          );
    }
  where
    all-at : (fs : List Bool) (n j : ℕ) (d : Bool) → n + j < length fs → AreLive fs n (length fs) → get_or (drop n fs) j d ≡ true
    all-at fs n j d lt live_on = get_or-drop n fs j d ∙ get_or_default fs (n + j) d false lt ∙ live_on (n + j) (omega arith) lt
