-- An element that was put into a list, moved to a place before.
use Rattle.std.proofs.Common.{◌≡◌, ℕ, zero, suc, ◌+◌, ◌-◌, ◌≤◌, List, [], ◌∷◌, ◌++◌, length, take, drop, insert, refl, ap, ap₂, ◌∙◌, arith}
use Rattle.std.proofs.lemmas.List.{take_at, drop_at, take-append-drop, length-take-le, length-append}
use borrow.Rule.Slice.PartMut.{mid_of, put_mid}

-- a list with its last element in front
abbrev pub turned : {X : Type 0} → List X → List X
turned xs = drop (length xs - 1) xs ++ take (length xs - 1) xs

front : {X : Type 0} (w : X) (vs : List X) (k : ℕ) → k ≤ length vs → take (suc k) (insert vs k w) ≡ take k vs ++ w ∷ []
front w [] zero le = refl
front w [] (suc k) le = absurd (omega (arith, le))
front w (v ∷ vs) zero le = refl
front w (v ∷ vs) (suc k) le = ap (λ l. v ∷ l) (front w vs k (omega (arith, le)))

behind : {X : Type 0} (w : X) (vs : List X) (k : ℕ) → k ≤ length vs → drop (suc k) (insert vs k w) ≡ drop k vs
behind w [] zero le = refl
behind w [] (suc k) le = absurd (omega (arith, le))
behind w (v ∷ vs) zero le = refl
behind w (v ∷ vs) (suc k) le = behind w vs k (omega (arith, le))

turned-last : {X : Type 0} (w : X) (us : List X) (k : ℕ) → length us ≡ k → turned (us ++ w ∷ []) ≡ w ∷ us
turned-last w us k is =
    let long = length-append us (w ∷ []) in
    let last : length (us ++ w ∷ []) - 1 ≡ k = omega (arith, long, is) in
    ap (λ n. drop n (us ++ w ∷ []) ++ take n (us ++ w ∷ [])) last ∙ ap₂ (λ s t. s ++ t) (drop_at us (w ∷ []) k is) (take_at us (w ∷ []) k is)

to-front : {X : Type 0} (w : X) (vs : List X) (k : ℕ) → k ≤ length vs → turned (take (suc k) (insert vs k w)) ++ drop (suc k) (insert vs k w) ≡ w ∷ vs
to-front w vs k le =
    ap₂ (λ s t. s ++ t) (ap turned (front w vs k le) ∙ turned-last w (take k vs) k (length-take-le k vs le)) (behind w vs k le) ∙
    ap (λ l. w ∷ l) (take-append-drop k vs)

-- the part from l on, up to an element that was put behind it, turned
pub moved : {X : Type 0} (w : X) (vs : List X) (l k h : ℕ) → h ≡ l + k → h ≤ length vs → put_mid l (suc k) (insert vs h w) (turned (mid_of l (suc k) (insert vs h w))) ≡ insert vs l w
moved w vs zero k h is le = let same : k ≡ h = omega (arith, is) in ap (λ n. turned (take (suc n) (insert vs h w)) ++ drop (suc n) (insert vs h w)) same ∙ to-front w vs h le
moved w [] (suc l) k h is le = absurd (omega (arith, is, le))
moved w (v ∷ vs) (suc l) k zero is le = absurd (omega (arith, is))
moved w (v ∷ vs) (suc l) k (suc h) is le = ap (λ l. v ∷ l) (moved w vs l k h (omega (arith, is)) (omega (arith, le)))
