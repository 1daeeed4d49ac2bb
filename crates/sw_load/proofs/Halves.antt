-- A part of two lists, one after the other.
use Rattle.std.proofs.Common.{◌≡◌, ◌∙◌, ap, sym, refl, ℕ, ℤ, ◌+◌, ◌-◌, ◌≤◌, min, List, ◌++◌, inl, inr, length, map, take, drop, arith, length-append, length-drop, take-add}
use Rattle.std.specs.Global.{Vec}
use Rattle.std.proofs.lemmas.Bool.{cases_lt}
use Rattle.std.proofs.lemmas.List.{append-nil, append_assoc, drop-append-le, drop-drop, map-append, drop_all, take-append-le, take_all}
use Rattle.sw_table.specs.declared.row.Row.{Row}
use Rattle.sw_load.specs.Appended.{IsAppended}
use Rattle.sw_load.proofs.Places.{drop-past, take-past}

-- the first items of both: those of the first list, of which there may be fewer, and the rest of the second
pub take-both : {X : Type 0} (xs ys : List X) (m k r : ℕ) → min k (length xs) ≡ min m (length xs) → r ≡ m - length xs → take m (xs ++ ys) ≡ take k xs ++ take r ys
take-both xs ys m k r same rest = elim (cases_lt m (length xs)) [
  | inl low ↦
      let e : m ≡ k = omega (arith, same, low) in
      let none : 0 ≡ r = omega (arith, rest, low) in
      take-append-le m xs ys (omega (arith, low)) ∙ ap (λ n. take n xs) e ∙ sym (append-nil (take k xs)) ∙ ap (λ n. take k xs ++ take n ys) none
  | inr high ↦
      take-past xs ys (length xs) m refl (omega (arith, high))
      ∙ ap (λ v. v ++ take (m - length xs) ys) (sym (take_all k xs (omega (arith, same, high))))
      ∙ ap (λ n. take k xs ++ take n ys) (sym rest)
]

-- what comes behind the first items of both
pub drop-both : {X : Type 0} (xs ys : List X) (m k : ℕ) → k ≡ min m (length xs) → drop m (xs ++ ys) ≡ drop k xs ++ drop (m - k) ys
drop-both xs ys m k is = elim (cases_lt m (length xs)) [
  | inl low ↦
      let e : m ≡ k = omega (arith, is, low) in
      let none : 0 ≡ m - k = omega (arith, is, low) in
      drop-append-le m xs ys (omega (arith, low)) ∙ ap (λ n. drop n xs ++ ys) e ∙ ap (λ n. drop k xs ++ drop n ys) none
  | inr high ↦
      let e : length xs ≡ k = omega (arith, is, high) in
      drop-past xs ys k m e (omega (arith, is)) ∙ ap (λ v. v ++ drop (m - k) ys) (sym (drop_all k xs (omega (arith, e))))
]

-- a part of both is a part of the first and a part of the second
pub part-both : {X : Type 0} (xs ys : List X) (s m t k : ℕ) → t ≡ min s (length xs) → k ≡ min m (length xs - t) → take m (drop s (xs ++ ys)) ≡ take k (drop t xs) ++ take (m - k) (drop (s - t) ys)
part-both xs ys s m t k first is =
    ap (take m) (drop-both xs ys s t first) ∙ take-both (drop t xs) (drop (s - t) ys) m k (m - k) (omega (arith, is, length-drop t xs)) (omega (arith, is, length-drop t xs))

-- a part of a list is its beginning and its rest
pub part-cut : {X : Type 0} (xs : List X) (s e k : ℕ) → s + k ≤ e → take (e - s) (drop s xs) ≡ take k (drop s xs) ++ take (e - (s + k)) (drop (s + k) xs)
part-cut xs s e k le =
    let both : e - s ≡ k + (e - (s + k)) = omega (arith, le) in
    ap (λ n. take n (drop s xs)) both
    ∙ take-add k (e - (s + k)) (drop s xs)
    ∙ ap (λ v. take k (drop s xs) ++ take (e - (s + k)) v) (drop-drop k s xs)

-- cells of some rows, and then of others, are those of all
pub appended-both : (f : Row → ℤ) (old mid new : Vec ℤ) (some rest all : List Row) → all ≡ some ++ rest → IsAppended (map f some) old mid → IsAppended (map f rest) mid new → IsAppended (map f all) old new
appended-both f old mid new some rest all is one other =
    let both : map f all ≡ map f some ++ map f rest = ap (map f) is ∙ map-append f some rest in
    record {
      items = other.items ∙ ap (λ (v : List ℤ). v ++ map f rest) one.items ∙ append_assoc old.items (map f some) (map f rest) ∙ ap (λ (v : List ℤ). old.items ++ v) (sym both);
      room = other.room ∙ one.room;
      len = omega (arith, one.len, other.len, ap length both, length-append (map f some) (map f rest));
    }
