-- The texts of cells and rows, as the writers put them together.
use Rattle.std.proofs.Common.{◌≡◌, ◌∙◌, ap, sym, ℕ, suc, ◌+◌, ◌-◌, ◌≤◌, List, [], ◌∷◌, ◌++◌, length, map, take, drop, replicate, codes, ℤ, arith, append_assoc, length-append}
use Rattle.std.proofs.lemmas.List.{take-append-drop, take-replicate, length-replicate, append-nil}
use Rattle.std.proofs.lemmas.List.Concat.{flat_map-cons}
use Rattle.std.proofs.lemmas.Grind.{flat_map-append}
use Rattle.std.proofs.Math.Seq.{take-append_seam}
use Rattle.sw_rows.specs.Domains.{Domain}
use Rattle.sw_lang.specs.Replies.{cell_text, more_cells, padded_digits, with_ends}

-- digits written into a dot and zeros, from their end
pub fraction_text : (places r : ℕ) (ds new : List ℕ) → places ≤ 6 → length ds ≤ places → r + length ds ≡ places + 1 → drop r new ≡ ds ++ drop (places + 1) (codes ".000000") → take r new ≡ take r (codes ".000000") → take (places + 1) new ≡ codes "." ++ padded_digits places ds
fraction_text places r ds new few short start written before =
    let k : ℕ = places - length ds in
    let first : r ≡ suc k = omega arith in
    let front : take r (codes ".000000") ≡ codes "." ++ replicate k 48 =
    ap (λ n. take n (codes ".000000")) first ∙ ap (λ l. 46 ∷ l) (take-replicate k 6 48 (omega arith)) in
    let text : List ℕ = codes "." ++ padded_digits places ds in
    let whole : new ≡ text ++ drop (places + 1) (codes ".000000") =
    sym (take-append-drop r new) ∙ ap (λ l. l ++ drop r new) (before ∙ front) ∙ ap (λ l. (codes "." ++ replicate k 48) ++ l) written ∙ sym (append_assoc (codes "." ++ replicate k 48) ds (drop (places + 1) (codes ".000000"))) in
    let long : length text ≡ places + 1 = omega (arith, length-append (replicate k 48) ds, length-replicate {A = ℕ} k 48) in
    ap (take (places + 1)) whole ∙ ap (λ n. take n (text ++ drop (places + 1) (codes ".000000"))) (sym long) ∙ take-append_seam text (drop (places + 1) (codes ".000000"))

-- one line after others
pub ends_last : (ls : List (List ℕ)) (l : List ℕ) → with_ends (ls ++ l ∷ []) ≡ with_ends ls ++ (l ++ codes "\n")
ends_last ls l = flat_map-append (λ k. k ++ codes "\n") ls (l ∷ []) ∙ ap (λ t. with_ends ls ++ t) (ends_one l)
  where
    ends_one : (l : List ℕ) → with_ends (l ∷ []) ≡ l ++ codes "\n"
    ends_one l = flat_map-cons (λ k. k ++ codes "\n") l [] ∙ append-nil (l ++ codes "\n")

-- one line alone
pub ends_one : (l : List ℕ) → with_ends (l ∷ []) ≡ l ++ codes "\n"
ends_one l = flat_map-cons (λ k. k ++ codes "\n") l [] ∙ append-nil (l ++ codes "\n")

-- the first of some lines
pub ends_first : {X : Type 0} (f : X → List ℕ) (x : X) (xs all : List X) → all ≡ x ∷ xs → with_ends (map f all) ≡ (f x ++ codes "\n") ++ with_ends (map f xs)
ends_first f x xs all e = ap (λ l. with_ends (map f l)) e ∙ flat_map-cons (λ k. k ++ codes "\n") (f x) (map f xs)

-- the first of some further cells
pub cells_first : {X : Type 0} (f : X → Domain) (x : X) (xs all : List X) (z : ℤ) (zs cells : List ℤ) → all ≡ x ∷ xs → cells ≡ z ∷ zs → more_cells (map f all) cells ≡ (codes ", " ++ cell_text (f x) z) ++ more_cells (map f xs) zs
cells_first f x xs all z zs cells e h = ap (λ l. more_cells (map f l) cells) e ∙ ap (λ l. more_cells (map f (x ∷ xs)) l) h
