-- Places that rise, and the items that are left without those there.
use Rattle.std.proofs.Common.{◌≡◌, ◌∙◌, ap, sym, refl, subst, ℕ, zero, suc, ◌+◌, ◌-◌, ◌<◌, ◌≤◌, List, [], ◌∷◌, ◌++◌, length, get_or, take, drop, arith, length-append, length-drop}
use Rattle.std.proofs.Math.Seq.{drop-append-add, take-append-add}
use Rattle.std.proofs.lemmas.List.{append-nil, append_assoc, drop-append-le, drop-drop, drop-take, get_or-append_right, get_or-drop, get_or-take, get_or_append_left, length-take-le, take-append-le, take-take}
use Rattle.sw_load.specs.Gone.{AreBefore, ArePlaces, without_places}

-- ---- places

-- where there are places from n on and before m, n is not above m
pub places-le : (n m : ℕ) (gs : List ℕ) → ArePlaces n m gs → n ≤ m
places-le n m [] a = a
places-le n m (g ∷ gs) a = let h = places-le (g + 1) m gs a.1 in omega (arith, h, a.0)

-- the same places are before what is above m
pub places-more : (n m k : ℕ) (gs : List ℕ) → m ≤ k → ArePlaces n m gs → ArePlaces n k gs
places-more n m k [] le a = omega (arith, le, a)
places-more n m k (g ∷ gs) le a = (a.0, places-more (g + 1) m k gs le a.1)

-- and from what is below n on
pub places-lower : (l n m : ℕ) (gs : List ℕ) → l ≤ n → ArePlaces n m gs → ArePlaces l m gs
places-lower l n m [] le a = omega (arith, le, a)
places-lower l n m (g ∷ gs) le a = (omega (arith, le, a.0), a.1)

-- each place is from n on, with as many numbers between as places
pub place-high : (n m : ℕ) (gs : List ℕ) (j : ℕ) → ArePlaces n m gs → j < length gs → n + j ≤ get_or gs j 0
place-high n m [] j a lt = absurd (omega (arith, lt))
place-high n m (g ∷ gs) zero a lt = omega (arith, a.0)
place-high n m (g ∷ gs) (suc j) a lt = let h = place-high (g + 1) m gs j a.1 (omega (arith, lt)) in omega (arith, h, a.0)

-- between two places there are as many numbers as places
pub places-apart : (n m : ℕ) (gs : List ℕ) (i j : ℕ) → ArePlaces n m gs → i ≤ j → j < length gs → get_or gs i 0 + (j - i) ≤ get_or gs j 0
places-apart n m [] i j a le lt = absurd (omega (arith, lt))
places-apart n m (g ∷ gs) zero zero a le lt = omega arith
places-apart n m (g ∷ gs) (suc i) zero a le lt = absurd (omega (arith, le))
places-apart n m (g ∷ gs) zero (suc j) a le lt = let h = place-high (g + 1) m gs j a.1 (omega (arith, lt)) in omega (arith, h)
places-apart n m (g ∷ gs) (suc i) (suc j) a le lt = let h = places-apart (g + 1) m gs i j a.1 (omega (arith, le)) (omega (arith, lt)) in omega (arith, h)

-- ---- how many places come before an item

-- no more come before an item than there are
pub before-few : (p : ℕ) (gs : List ℕ) (i : ℕ) → AreBefore p gs i → i ≤ length gs
before-few p [] zero b = omega arith
before-few p [] (suc i) b = absurd b
before-few p (g ∷ gs) zero b = omega arith
before-few p (g ∷ gs) (suc i) b = let h = before-few (p + 1) gs i b.1 in omega (arith, h)

-- the places up to the i-th come before an item, and no others, where each alone says so
pub before-at : (p : ℕ) (gs : List ℕ) (i : ℕ) → i ≤ length gs → ((j : ℕ) → j < i → get_or gs j 0 ≤ p + j) → (i < length gs → p + i < get_or gs i 0) → AreBefore p gs i
before-at p [] zero le low high = tt
before-at p [] (suc i) le low high = absurd (omega (arith, le))
before-at p (g ∷ gs) zero le low high = let h = high (omega arith) in omega (arith, h)
before-at p (g ∷ gs) (suc i) le low high =
    let first = low 0 (omega arith) in (
      omega (arith, first),
      before-at (p + 1) gs i (omega (arith, le)) (λ j lt. let h = low (suc j) (omega (arith, lt)) in omega (arith, h)) (λ lt. let h = high (omega (arith, lt)) in omega (arith, h)),
    )

-- ---- the number behind the last of some places

-- the number behind the last place, n for none
abbrev pub behind_last : ℕ → List ℕ → ℕ
behind_last n [] = n
behind_last n (g ∷ gs) = behind_last (g + 1) gs

-- behind one more place is the number after it
pub behind-push : (n : ℕ) (gs : List ℕ) (g : ℕ) → behind_last n (gs ++ g ∷ []) ≡ g + 1
behind-push n [] g = refl
behind-push n (h ∷ gs) g = behind-push (h + 1) gs g

-- what comes behind some places is exchanged for other places
pub places-change : (n m : ℕ) (hs gs ks : List ℕ) → ArePlaces n m (hs ++ gs) → (ArePlaces (behind_last n hs) m gs → ArePlaces (behind_last n hs) m ks) → ArePlaces n m (hs ++ ks)
places-change n m [] gs ks a f = f a
places-change n m (h ∷ hs) gs ks a f = (a.0, places-change (h + 1) m hs gs ks a.1 f)

-- those that come behind others
pub places-behind : (n m : ℕ) (hs gs : List ℕ) → ArePlaces n m (hs ++ gs) → ArePlaces (behind_last n hs) m gs
places-behind n m [] gs a = a
places-behind n m (h ∷ hs) gs a = places-behind (h + 1) m hs gs a.1

-- one more place comes behind those before it
pub places-put : (n m : ℕ) (gs : List ℕ) (p i : ℕ) → ArePlaces n m gs → AreBefore p gs i → n ≤ p → p + i < m → ArePlaces n m (take i gs ++ (p + i) ∷ drop i gs)
places-put n m [] p zero a b le lt = (omega (arith, le), omega (arith, lt))
places-put n m [] p (suc i) a b le lt = absurd b
places-put n m (g ∷ gs) p zero a b le lt = (omega (arith, le), (omega (arith, b), a.1))
places-put n m (g ∷ gs) p (suc i) a b le lt =
    let e : p + 1 + i ≡ p + suc i = omega arith in (
      a.0,
      subst (λ (k : ℕ). ArePlaces (g + 1) m (take i gs ++ k ∷ drop i gs)) e (places-put (g + 1) m gs (p + 1) i a.1 b.1 (omega (arith, b.0)) (omega (arith, lt))),
    )

-- ---- the items that are left

module _ {X : Type 0} where
  -- the first of two lists joined, past the end of the one
  pub take-past : (xs ys : List X) (n r : ℕ) → length xs ≡ n → n ≤ r → take r (xs ++ ys) ≡ xs ++ take (r - n) ys
  take-past xs ys n r long le = let e : r ≡ length xs + (r - n) = omega (arith, long, le) in ap (λ k. take k (xs ++ ys)) e ∙ take-append-add xs ys (r - n)

  -- what is left of two lists joined, past the end of the one
  pub drop-past : (xs ys : List X) (n r : ℕ) → length xs ≡ n → n ≤ r → drop r (xs ++ ys) ≡ drop (r - n) ys
  drop-past xs ys n r long le = let e : r ≡ length xs + (r - n) = omega (arith, long, le) in ap (λ k. drop k (xs ++ ys)) e ∙ drop-append-add xs ys (r - n)

  -- a part of a list from n on up to g
  part-long : (xs : List X) (n g m : ℕ) → length xs ≡ m → g ≤ m → length (take (g - n) (drop n xs)) ≡ g - n
  part-long xs n g m long le = length-take-le (g - n) (drop n xs) (omega (arith, length-drop n xs, long, le))

  -- how many are left
  pub without-long : (xs : List X) (n m : ℕ) (gs : List ℕ) → length xs ≡ m → ArePlaces n m gs → length (without_places n gs xs) + (n + length gs) ≡ m
  without-long xs n m [] long a = omega (arith, length-drop n xs, long, a)
  without-long xs n m (g ∷ gs) long a =
      let le = places-le (g + 1) m gs a.1 in
      let rest = without-long xs (g + 1) m gs long a.1 in
      let first = part-long xs n g m long (omega (arith, le)) in
      let both = length-append (take (g - n) (drop n xs)) (without_places (g + 1) gs xs) in
      omega (arith, rest, first, both, a.0)

  -- more items behind those
  pub without-append : (xs ys : List X) (n m : ℕ) (gs : List ℕ) → length xs ≡ m → ArePlaces n m gs → without_places n gs (xs ++ ys) ≡ without_places n gs xs ++ ys
  without-append xs ys n m [] long a = drop-append-le n xs ys (omega (arith, long, a))
  without-append xs ys n m (g ∷ gs) long a =
      let le = places-le (g + 1) m gs a.1 in
      let here : take (g - n) (drop n (xs ++ ys)) ≡ take (g - n) (drop n xs) =
      ap (take (g - n)) (drop-append-le n xs ys (omega (arith, long, le, a.0))) ∙ take-append-le (g - n) (drop n xs) ys (omega (arith, length-drop n xs, long, le)) in
      ap (λ v. v ++ without_places (g + 1) gs (xs ++ ys)) here
      ∙ ap (λ v. take (g - n) (drop n xs) ++ v) (without-append xs ys (g + 1) m gs long a.1)
      ∙ sym (append_assoc (take (g - n) (drop n xs)) (without_places (g + 1) gs xs) ys)

  -- the item at a place without those that are gone is behind as many more as come before it
  pub without-at : (xs : List X) (n m : ℕ) (gs : List ℕ) (r p i : ℕ) (d : X) → length xs ≡ m → ArePlaces n m gs → p ≡ n + r → AreBefore p gs i → get_or (without_places n gs xs) r d ≡ get_or xs (p + i) d
  without-at xs n m [] r p zero d long a at b = get_or-drop n xs r d ∙ ap (λ k. get_or xs k d) (let e : n + r ≡ p + 0 = omega (arith, at) in e)
  without-at xs n m [] r p (suc i) d long a at b = absurd b
  without-at xs n m (g ∷ gs) r p zero d long a at b =
      let le = places-le (g + 1) m gs a.1 in
      let first = part-long xs n g m long (omega (arith, le)) in
      get_or_append_left (take (g - n) (drop n xs)) (without_places (g + 1) gs xs) d r (omega (arith, first, at, b))
      ∙ get_or-take (g - n) (drop n xs) r d (omega (arith, at, b))
      ∙ get_or-drop n xs r d
      ∙ ap (λ k. get_or xs k d) (let e : n + r ≡ p + 0 = omega (arith, at) in e)
  without-at xs n m (g ∷ gs) r p (suc i) d long a at b =
      let le = places-le (g + 1) m gs a.1 in
      let first = part-long xs n g m long (omega (arith, le)) in
      get_or-append_right (take (g - n) (drop n xs)) (without_places (g + 1) gs xs) (g - n) r d first (omega (arith, at, a.0, b.0))
      ∙ without-at xs (g + 1) m gs (r - (g - n)) (p + 1) i d long a.1 (omega (arith, at, a.0, b.0)) b.1
      ∙ ap (λ k. get_or xs k d) (let e : p + 1 + i ≡ p + suc i = omega arith in e)

  -- ---- one more place

  -- the items from the n-th on and before the last of some places, without those there
  abbrev pub items_between : ℕ → List ℕ → List X → List X
  items_between n [] xs = []
  items_between n (g ∷ gs) xs = take (g - n) (drop n xs) ++ items_between (g + 1) gs xs

  -- those before the item that goes
  pub left-before : (xs : List X) (n m : ℕ) (gs : List ℕ) (r p i : ℕ) → length xs ≡ m → ArePlaces n m gs → p ≡ n + r → AreBefore p gs i → items_between n (take i gs ++ (p + i) ∷ []) xs ≡ take r (without_places n gs xs)
  left-before xs n m [] r p zero long a at b = append-nil (take (p + 0 - n) (drop n xs)) ∙ ap (λ k. take k (drop n xs)) (let e : p + 0 - n ≡ r = omega (arith, at) in e)
  left-before xs n m [] r p (suc i) long a at b = absurd b
  left-before xs n m (g ∷ gs) r p zero long a at b =
      let le = places-le (g + 1) m gs a.1 in
      let first = part-long xs n g m long (omega (arith, le)) in
      append-nil (take (p + 0 - n) (drop n xs))
      ∙ ap (λ k. take k (drop n xs)) (let e : p + 0 - n ≡ r = omega (arith, at) in e)
      ∙ sym (take-take r (g - n) (drop n xs) (omega (arith, at, b)))
      ∙ sym (take-append-le r (take (g - n) (drop n xs)) (without_places (g + 1) gs xs) (omega (arith, first, at, b)))
  left-before xs n m (g ∷ gs) r p (suc i) long a at b =
      let le = places-le (g + 1) m gs a.1 in
      let first = part-long xs n g m long (omega (arith, le)) in
      let e : p + suc i ≡ p + 1 + i = omega arith in
      ap (λ k. take (g - n) (drop n xs) ++ items_between (g + 1) (take i gs ++ k ∷ []) xs) e
      ∙ ap (λ v. take (g - n) (drop n xs) ++ v) (left-before xs (g + 1) m gs (r - (g - n)) (p + 1) i long a.1 (omega (arith, at, a.0, b.0)) b.1)
      ∙ sym (take-past (take (g - n) (drop n xs)) (without_places (g + 1) gs xs) (g - n) r first (omega (arith, at, a.0, b.0)))

  -- those behind it
  pub left-behind : (xs : List X) (n m : ℕ) (gs : List ℕ) (r p i : ℕ) → length xs ≡ m → ArePlaces n m gs → p ≡ n + r → AreBefore p gs i → without_places (p + i + 1) (drop i gs) xs ≡ drop (r + 1) (without_places n gs xs)
  left-behind xs n m [] r p zero long a at b = ap (λ k. drop k xs) (let e : p + 0 + 1 ≡ n + (r + 1) = omega (arith, at) in e) ∙ sym (drop-drop (r + 1) n xs)
  left-behind xs n m [] r p (suc i) long a at b = absurd b
  left-behind xs n m (g ∷ gs) r p zero long a at b =
      let le = places-le (g + 1) m gs a.1 in
      let first = part-long xs n g m long (omega (arith, le)) in
      let all : g - n ≡ r + 1 + (g - (p + 0 + 1)) = omega (arith, at, b) in
      let cut : drop (r + 1) (take (g - n) (drop n xs)) ≡ take (g - (p + 0 + 1)) (drop (p + 0 + 1) xs) =
      ap (λ k. drop (r + 1) (take k (drop n xs))) all
      ∙ drop-take (r + 1) (g - (p + 0 + 1)) (drop n xs)
      ∙ ap (take (g - (p + 0 + 1))) (drop-drop (r + 1) n xs ∙ ap (λ k. drop k xs) (let e : n + (r + 1) ≡ p + 0 + 1 = omega (arith, at) in e)) in
      sym (drop-append-le (r + 1) (take (g - n) (drop n xs)) (without_places (g + 1) gs xs) (omega (arith, first, at, b)) ∙ ap (λ v. v ++ without_places (g + 1) gs xs) cut)
  left-behind xs n m (g ∷ gs) r p (suc i) long a at b =
      let le = places-le (g + 1) m gs a.1 in
      let first = part-long xs n g m long (omega (arith, le)) in
      let e : p + suc i + 1 ≡ p + 1 + i + 1 = omega arith in
      let f : r - (g - n) + 1 ≡ r + 1 - (g - n) = omega (arith, at, a.0, b.0) in
      ap (λ k. without_places k (drop i gs) xs) e
      ∙ left-behind xs (g + 1) m gs (r - (g - n)) (p + 1) i long a.1 (omega (arith, at, a.0, b.0)) b.1
      ∙ ap (λ k. drop k (without_places (g + 1) gs xs)) f
      ∙ sym (drop-past (take (g - n) (drop n xs)) (without_places (g + 1) gs xs) (g - n) (r + 1) first (omega (arith, at, a.0, b.0)))

  -- ---- places behind others

  -- what lies between some places and others behind them
  pub between-append : (xs : List X) (n : ℕ) (gs hs : List ℕ) → items_between n (gs ++ hs) xs ≡ items_between n gs xs ++ items_between (behind_last n gs) hs xs
  between-append xs n [] hs = refl
  between-append xs n (g ∷ gs) hs =
      ap (λ v. take (g - n) (drop n xs) ++ v) (between-append xs (g + 1) gs hs)
      ∙ sym (append_assoc (take (g - n) (drop n xs)) (items_between (g + 1) gs xs) (items_between (behind_last (g + 1) gs) hs xs))

  -- without some places and others behind them: what lies between the first ones, and then without the others
  pub without-split : (xs : List X) (n : ℕ) (gs hs : List ℕ) → without_places n (gs ++ hs) xs ≡ items_between n gs xs ++ without_places (behind_last n gs) hs xs
  without-split xs n [] hs = refl
  without-split xs n (g ∷ gs) hs =
      ap (λ v. take (g - n) (drop n xs) ++ v) (without-split xs (g + 1) gs hs)
      ∙ sym (append_assoc (take (g - n) (drop n xs)) (items_between (g + 1) gs xs) (without_places (behind_last (g + 1) gs) hs xs))
