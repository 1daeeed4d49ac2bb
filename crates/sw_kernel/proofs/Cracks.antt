-- A crack on the flat form: one piece is partitioned, and one mark is put in.
use Rattle.std.proofs.Common.{◌≡◌, ℕ, ◌+◌, ◌-◌, ℤ, Bool, List, [], ◌∷◌, ◌++◌, length, take, drop, count_by, refl, sym, ap, ap₂, ◌∙◌, arith, inl, inr}
use Rattle.std.proofs.lemmas.Bool.{cases_Bool}
use Rattle.std.proofs.lemmas.List.{append_assoc, append-nil, length-append, take_at, drop_at, take_all}
use Rattle.std.proofs.lemmas.List.Sums.{count_by-le-length}
use Rattle.sw_query.specs.declared.bound.Bound.{Bound}
use Rattle.sw_query.specs.Bounds.{bound_below}
use Rattle.sw_kernel.specs.declared.mark.Mark.{Mark}
use Rattle.sw_kernel.specs.Partition.{left_part, right_part, partition, goes_left}
use Rattle.sw_kernel.specs.Arrangement.{Arrangement, last, piece, joined, crack}
use Rattle.sw_kernel.specs.Flat.{marks_from, end_before, marks_below, start_at, IsNew}
use Rattle.sw_kernel.proofs.Parts.{left-length, right-length, partition-parts}

-- zs with the places from s up to e partitioned
abbrev pub parted_at : {A : Type 0} → (A → Bool) → ℕ → ℕ → List A → List A
parted_at p s e zs = take s zs ++ (partition p (take (e - s) (drop s zs)) ++ drop e zs)

middle : {A : Type 0} (p : A → Bool) (ps xs ws : List A) (s e : ℕ) → length ps ≡ s → s + length xs ≡ e → parted_at p s e (ps ++ (xs ++ ws)) ≡ ps ++ (left_part p xs ++ (right_part p xs ++ ws))
middle p ps xs ws s e es ee =
    let before : take s (ps ++ (xs ++ ws)) ≡ ps = take_at ps (xs ++ ws) s es in
    let here : take (e - s) (drop s (ps ++ (xs ++ ws))) ≡ xs = ap (take (e - s)) (drop_at ps (xs ++ ws) s es) ∙ take_at xs ws (e - s) (omega arith) in
    let after : drop e (ps ++ (xs ++ ws)) ≡ ws = ap (drop e) (sym (append_assoc ps xs ws)) ∙ drop_at (ps ++ xs) ws e (length-append ps xs ∙ omega arith) in
    ap₂ (λ u v. u ++ v) before (ap₂ (λ u v. u ++ v) (ap (partition p) here ∙ partition-parts p xs (left_part p xs) (right_part p xs) refl refl) after ∙ append_assoc (left_part p xs) (right_part p xs) ws)

-- partitioning the piece that a new bound falls into gives the items of the crack
pub crack-items : {A : Type 0} (value : A → ℤ) (b : Bound) (a : Arrangement A) (ps : List A) (i n : ℕ) → IsNew b (marks_from i a) → length ps ≡ i → length (ps ++ joined a) ≡ n → parted_at (goes_left value b) (start_at i (marks_from i a) (marks_below (marks_from i a) b)) (end_before (drop (marks_below (marks_from i a) b) (marks_from i a)) n) (ps ++ joined a) ≡ ps ++ joined (crack value b a)
crack-items value b (last xs) ps i n new ei en =
    let p = goes_left value b in
    let plain : ps ++ (xs ++ []) ≡ ps ++ xs = ap (λ l. ps ++ l) (append-nil xs) in
    ap (parted_at p i n) (sym plain) ∙ middle p ps xs [] i n ei (omega (arith, length-append ps xs)) ∙ ap (λ l. ps ++ (left_part p xs ++ l)) (append-nil (right_part p xs))
crack-items {A} value b (piece xs c rest) ps i n new ei en =
    let p : A → Bool = goes_left value b in
    let j = i + length xs in
    let ms = marks_from j rest in
    let fresh = new.0 in
    elim (cases_Bool (bound_below b c)) [
      | inl here ↦ rw (fresh, here) (middle p ps xs (joined rest) i j ei refl)
      | inr past ↦
          let more : (ps ++ xs) ++ joined rest ≡ ps ++ (xs ++ joined rest) = append_assoc ps xs (joined rest) in
          rw (fresh, past)
          (ap (parted_at p (start_at j ms (marks_below ms b)) (end_before (drop (marks_below ms b) ms) n)) (sym more) ∙
          crack-items value b rest (ps ++ xs) j n new.1 (length-append ps xs ∙ omega arith) (ap length more ∙ en) ∙
          append_assoc ps xs (joined (crack value b rest)))
    ]

-- a crack at a new bound adds one mark: where its piece begins, and as many items on as go left there
pub crack-marks : {A : Type 0} (value : A → ℤ) (b : Bound) (a : Arrangement A) (ps : List A) (i n : ℕ) → IsNew b (marks_from i a) → length ps ≡ i → length (ps ++ joined a) ≡ n →
    marks_from i (crack value b a) ≡ take (marks_below (marks_from i a) b) (marks_from i a) ++
    record { bound = b; at = start_at i (marks_from i a) (marks_below (marks_from i a) b) + count_by (goes_left value b) (take (end_before (drop (marks_below (marks_from i a) b) (marks_from i a)) n - start_at i (marks_from i a) (marks_below (marks_from i a) b)) (drop (start_at i (marks_from i a) (marks_below (marks_from i a) b)) (ps ++ joined a))) } ∷ drop (marks_below (marks_from i a) b) (marks_from i a)
crack-marks {A} value b (last xs) ps i n new ei en =
    let p : A → Bool = goes_left value b in
    let here : take (n - i) (drop i (ps ++ xs)) ≡ xs = ap (take (n - i)) (drop_at ps xs i ei) ∙ take_all (n - i) xs (omega (arith, length-append ps xs)) in
    ap (λ (k : ℕ). record { bound = b; at = i + k } ∷ []) (left-length p xs ∙ sym (ap (count_by p) here))
crack-marks {A} value b (piece xs c rest) ps i n new ei en =
    let p : A → Bool = goes_left value b in
    let j = i + length xs in
    let ms = marks_from j rest in
    let fresh = new.0 in
    elim (cases_Bool (bound_below b c)) [
      | inl here ↦
          let own : take (j - i) (drop i (ps ++ (xs ++ joined rest))) ≡ xs = ap (take (j - i)) (drop_at ps (xs ++ joined rest) i ei) ∙ take_at xs (joined rest) (j - i) (omega arith) in
          let first : i + length (left_part p xs) ≡ i + count_by p (take (j - i) (drop i (ps ++ (xs ++ joined rest)))) = ap (λ (k : ℕ). i + k) (left-length p xs ∙ sym (ap (count_by p) own)) in
          let second : i + length (left_part p xs) + length (right_part p xs) ≡ j = omega (arith, left-length p xs, right-length p xs, count_by-le-length p xs) in
          rw (fresh, here) (ap₂ (λ (u v : ℕ). record { bound = b; at = u } ∷ record { bound = c; at = v } ∷ marks_from v rest) first second)
      | inr past ↦
          let more : (ps ++ xs) ++ joined rest ≡ ps ++ (xs ++ joined rest) = append_assoc ps xs (joined rest) in
          let k = marks_below ms b in let s = start_at j ms k in let e = end_before (drop k ms) n in
          let G : List A → List Mark = λ zs. take k ms ++ record { bound = b; at = s + count_by p (take (e - s) (drop s zs)) } ∷ drop k ms in
          rw (fresh, past)
          (ap (λ l. record { bound = c; at = j } ∷ l) (crack-marks value b rest (ps ++ xs) j n new.1 (length-append ps xs ∙ omega arith) (ap length more ∙ en) ∙ ap G more))
    ]
