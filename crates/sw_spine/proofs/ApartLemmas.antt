-- Where two replies part.
use Rattle.std.proofs.Common.{◌≡◌, ◌∙◌, refl, sym, subst, ap, string_bytes, String, Global, ℕ, zero, suc, ◌+◌, ◌<◌, ◌≤◌, Bool, false, List, [], ◌∷◌, get_or, length, map, take, slice_get, Some, None, arith}
use Rattle.std.specs.Bool.{Decides}
use Rattle.std.specs.String.{string_eq}
use Rattle.std.proofs.lemmas.Option.{slice_get-map, slice_get_past, slice_get_read}
use Rattle.std.proofs.lemmas.List.{length-map}
use Rattle.std.proofs.lemmas.Slice.Eq.{bytes_eq-Decides}
use Rattle.sw_spine.specs.Apart.{PartAt}

-- lists that are the same up to a place, and at it
pub same_later : {A : Type 0} (xs ys : List A) (n : ℕ) → n < length xs → take n xs ≡ take n ys → slice_get xs n ≡ slice_get ys n → take (n + 1) xs ≡ take (n + 1) ys
same_later [] ys n lt same here = absurd (omega (arith, lt))
same_later (x ∷ xs) [] n lt same here = absurd (grind (arith, lt, same, here))
same_later (x ∷ xs) (y ∷ ys) zero lt same here = grind (arith, here)
same_later (x ∷ xs) (y ∷ ys) (suc n) lt same here = grind (arith, lt, same, here, same_later xs ys n)

-- the same as far as the first goes, and no more there: it is all
pub same_all : {A : Type 0} (xs ys : List A) → take (length xs) xs ≡ take (length xs) ys → slice_get xs (length xs) ≡ slice_get ys (length xs) → xs ≡ ys
same_all [] [] same here = refl
same_all [] (y ∷ ys) same here = absurd (grind (arith, here))
same_all (x ∷ xs) [] same here = absurd (grind (arith, same))
same_all (x ∷ xs) (y ∷ ys) same here = grind (arith, same, here, same_all xs ys)

-- the item at a place, made another
line_at : {A B : Type 0} (f : A → B) (xs : List A) (n : ℕ) (x : A) → n < length xs → x ≡ get_or xs n x → slice_get (map f xs) n ≡ Some (f x)
line_at {A = A} {B = B} f xs n x lt is = rw (slice_get_read xs (length xs) n x refl lt is) at (slice_get-map {A = A} {B = B} f xs n)

-- two lines that there are: their bytes decide
pub same_line : (xs ys : List (String Global)) (n : ℕ) (x y : String Global) (b : Bool) → n < length xs → x ≡ get_or xs n x → n < length ys → y ≡ get_or ys n y → b ≡ string_eq x y → Decides b (slice_get (map (λ t. string_bytes t) xs) n ≡ slice_get (map (λ t. string_bytes t) ys) n)
same_line xs ys n x y b short here shorter there is =
    let px = line_at (λ t. string_bytes t) xs n x short here in
    let py = line_at (λ t. string_bytes t) ys n y shorter there in
    let told : Decides b (string_bytes x ≡ string_bytes y) = subst (λ t. Decides t (string_bytes x ≡ string_bytes y)) (sym is) (bytes_eq-Decides (string_bytes x) (string_bytes y)) in
    (λ t. px ∙ ap (λ z. Some z) (told.0 t) ∙ sym py, λ e. told.1 (grind (arith, px, py, e)))

-- where one reply has no line more, they part
pub no_line : (xs ys : List (String Global)) (n : ℕ) (x : String Global) → n < length xs → x ≡ get_or xs n x → length ys ≤ n → Decides false (slice_get (map (λ t. string_bytes t) xs) n ≡ slice_get (map (λ t. string_bytes t) ys) n)
no_line xs ys n x short here past =
    let px = line_at (λ t. string_bytes t) xs n x short here in
    let py : slice_get (map {A = String Global} {B = List ℕ} (λ t. string_bytes t) ys) n ≡ None = rw (slice_get_past ys n past) at (slice_get-map {A = String Global} {B = List ℕ} (λ t. string_bytes t) ys n) in
    (λ t. absurd (grind (arith, t)), λ e. absurd (grind (arith, px, py, e)))

-- the lines of texts

-- replies that are the same up to a line and at it are so behind it
pub lines_later : (xs ys : List (String Global)) (n : ℕ) → n < length xs → take n (map (λ t. string_bytes t) xs) ≡ take n (map (λ t. string_bytes t) ys) → slice_get (map (λ t. string_bytes t) xs) n ≡ slice_get (map (λ t. string_bytes t) ys) n → take (n + 1) (map (λ t. string_bytes t) xs) ≡ take (n + 1) (map (λ t. string_bytes t) ys)
lines_later xs ys n lt same here = same_later (map (λ t. string_bytes t) xs) (map (λ t. string_bytes t) ys) n (rw (length-map {A = String Global} {B = List ℕ} xs (λ t. string_bytes t)) lt) same here

-- replies that are the same in all lines of one part behind them
pub lines_all : (xs ys : List (String Global)) (n : ℕ) → n ≤ length xs → length xs ≤ n → take n (map (λ t. string_bytes t) xs) ≡ take n (map (λ t. string_bytes t) ys) → PartAt (length xs) (map (λ t. string_bytes t) xs) (map (λ t. string_bytes t) ys)
lines_all xs ys n le ge same =
    let is : n ≡ length xs = omega (arith, le, ge) in
    let long : length (map {A = String Global} {B = List ℕ} (λ t. string_bytes t) xs) ≡ length xs = length-map {A = String Global} {B = List ℕ} xs (λ t. string_bytes t) in
    let whole = rw is at same in
    (whole, λ e. same_all (map (λ t. string_bytes t) xs) (map (λ t. string_bytes t) ys) (rw long whole) (rw long e))
