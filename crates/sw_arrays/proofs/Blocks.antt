-- Rows that are copied into a block one after another.
use Rattle.std.proofs.Common.{◌≡◌, ◌∙◌, ◌<◌, ◌≤◌, ◌+◌, ◌-◌, ◌++◌, ℕ, zero, suc, List, [], ◌∷◌, length, set, take, drop, map, refl, sym, ap, arith, length-drop}
use Rattle.std.proofs.lemmas.List.{drop_all, drop-map, length-map}
use Rattle.sw_query.specs.declared.reply.ReplyRow.{ReplyRow}
use Rattle.sw_arrays.specs.Blocks.{filled, many_in}

-- a block of which the first places are filled
abbrev pub part_filled : {A : Type 0} → ℕ → List A → List A → List A
part_filled n xs block = take n xs ++ drop n block

module _ {A : Type 0} where
  take_none : (n : ℕ) → take {A = A} n [] ≡ []
  take_none zero = refl
  take_none (suc n) = refl

  -- the next item, set at its place, fills one place more
  pub set_next : (n : ℕ) (xs block : List A) (x : A) (rest : List A) → drop n xs ≡ x ∷ rest → n < length block → set (part_filled n xs block) n x ≡ part_filled (suc n) xs block
  set_next zero [] block x rest is lt = absurd cc
  set_next zero (y ∷ ys) [] x rest is lt = absurd (omega (arith, lt))
  set_next zero (y ∷ ys) (b ∷ bs) x rest is lt = let same : y ≡ x = cc in ap (λ a. a ∷ bs) (sym same)
  set_next (suc n) [] block x rest is lt = absurd cc
  set_next (suc n) (y ∷ ys) [] x rest is lt = absurd (omega (arith, lt))
  set_next (suc n) (y ∷ ys) (b ∷ bs) x rest is lt = ap (λ zs. y ∷ zs) (set_next n ys bs x rest is (omega (arith, lt)))

  -- all are in
  pub filled_all : (n : ℕ) (xs block : List A) → drop n xs ≡ [] → n ≤ length xs → n ≤ length block → part_filled n xs block ≡ filled xs block
  filled_all zero [] block is few fits = ap (λ t. t ++ block) (sym (take_none (length block)))
  filled_all zero (y ∷ ys) block is few fits = absurd cc
  filled_all (suc n) [] block is few fits = absurd (omega (arith, few))
  filled_all (suc n) (y ∷ ys) [] is few fits = absurd (omega (arith, fits))
  filled_all (suc n) (y ∷ ys) (b ∷ bs) is few fits = ap (λ zs. y ∷ zs) (filled_all n ys bs is (omega (arith, few)) (omega (arith, fits)))

  -- the block is full
  pub filled_full : (xs block : List A) → length block ≤ length xs → part_filled (length block) xs block ≡ filled xs block
  filled_full [] [] few = refl
  filled_full [] (b ∷ bs) few = absurd (omega (arith, few))
  filled_full (y ∷ ys) [] few = refl
  filled_full (y ∷ ys) (b ∷ bs) few = ap (λ zs. y ∷ zs) (filled_full ys bs (omega (arith, few)))

-- ---- rows that are left

tail_drop : {A : Type 0} (n : ℕ) (xs later : List A) (x : A) → drop n xs ≡ x ∷ later → (later ≡ drop (n + 1) xs) × (n + 1 ≤ length xs)
tail_drop zero [] later x h = absurd cc
tail_drop zero (y ∷ ys) later x h = (cc, omega arith)
tail_drop (suc n) [] later x h = absurd cc
tail_drop (suc n) (y ∷ ys) later x h =
    let more = tail_drop n ys later x h in
    let on : suc n + 1 ≡ suc (n + 1) = omega arith in
    (more.0 ∙ ap (λ m. drop m (y ∷ ys)) (sym on), omega (arith, more.1))

-- behind the next row, all are left but one more of the first
pub row_passed : (n : ℕ) (first left later : List ReplyRow) (x : ReplyRow) → left ≡ drop n first → left ≡ x ∷ later → later ≡ drop (n + 1) first
row_passed n first left later x at_ is = (tail_drop n first later x (sym at_ ∙ is)).0

-- where a row is left behind the first n, there are n + 1 at least
pub row_within : (n : ℕ) (first left later : List ReplyRow) (x : ReplyRow) → left ≡ drop n first → left ≡ x ∷ later → n + 1 ≤ length first
row_within n first left later x at_ is = (tail_drop n first later x (sym at_ ∙ is)).1

none_left : {A : Type 0} (n m : ℕ) (xs : List A) → drop n xs ≡ [] → n ≤ m → drop m xs ≡ []
none_left zero m [] h le = drop_all m [] (omega arith)
none_left zero m (x ∷ xs) h le = absurd cc
none_left (suc n) m [] h le = drop_all m [] (omega arith)
none_left (suc n) zero (x ∷ xs) h le = absurd (omega (arith, le))
none_left (suc n) (suc m) (x ∷ xs) h le = none_left n m xs h (omega (arith, le))

-- where none is left behind some, none is left behind more
pub rows_ended : (n m : ℕ) (first left later : List ReplyRow) → left ≡ drop n first → left ≡ [] → later ≡ [] → n ≤ m → later ≡ drop m first
rows_ended n m first left later at_ is gone le = gone ∙ sym (none_left n m first (sym at_ ∙ is) le)

-- ---- one more of them in the block

part_length : {A : Type 0} (n : ℕ) (xs block : List A) → n ≤ length xs → n ≤ length block → length (part_filled n xs block) ≡ length block
part_length zero xs block few fits = refl
part_length (suc n) [] block few fits = absurd (omega (arith, few))
part_length (suc n) (x ∷ xs) [] few fits = absurd (omega (arith, fits))
part_length (suc n) (x ∷ xs) (b ∷ bs) few fits = ap suc (part_length n xs bs (omega (arith, few)) (omega (arith, fits)))

map_at : {A : Type 0} (f : ReplyRow → A) (n : ℕ) (first left later : List ReplyRow) (x : ReplyRow) → left ≡ drop n first → left ≡ x ∷ later → drop n (map f first) ≡ f x ∷ map f later
map_at f n first left later x at_ is = drop-map f n first ∙ ap (map f) (sym at_ ∙ is)

-- what the next row has, set at its place, fills one place more of the block
pub copied_next : {A : Type 0} (f : ReplyRow → A) (n : ℕ) (first left later : List ReplyRow) (x : ReplyRow) (out block : List A)
    → out ≡ part_filled n (map f first) block → left ≡ drop n first → left ≡ x ∷ later → n < length block → set out n (f x) ≡ part_filled (n + 1) (map f first) block
copied_next f n first left later x out block filled_so at_ is lt =
    let on : n + 1 ≡ suc n = omega arith in
    ap (λ o. set o n (f x)) filled_so ∙ (set_next n (map f first) block (f x) (map f later) (map_at f n first left later x at_ is) lt ∙ ap (λ m. part_filled m (map f first) block) (sym on))

-- none is left
pub copied_all : {A : Type 0} (f : ReplyRow → A) (n : ℕ) (first left : List ReplyRow) (out block : List A)
    → out ≡ part_filled n (map f first) block → left ≡ drop n first → left ≡ [] → n ≤ length first → n ≤ length block
    → (out ≡ filled (map f first) block) × (n ≡ many_in (map f first) block)
copied_all f n first left out block filled_so at_ is few fits =
    let none : drop n (map f first) ≡ [] = drop-map f n first ∙ ap (map f) (sym at_ ∙ is) in
    let len : length (map f first) ≡ length first = length-map first f in
    let gone : length (drop n first) ≡ 0 = ap length (sym at_ ∙ is) in
    let less : length (drop n first) ≡ length first - n = length-drop n first in
    (filled_so ∙ filled_all n (map f first) block none (omega (arith, few, len)) fits, omega (arith, few, fits, len, gone, less))

-- the block is full
pub copied_full : {A : Type 0} (f : ReplyRow → A) (first : List ReplyRow) (out block : List A)
    → out ≡ part_filled (length block) (map f first) block → length block ≤ length first
    → (out ≡ filled (map f first) block) × (length block ≡ many_in (map f first) block)
copied_full f first out block filled_so few =
    let len : length (map f first) ≡ length first = length-map first f in
    (filled_so ∙ filled_full (map f first) block (omega (arith, few, len)), omega (arith, few, len))
