-- Lists that grow by what a function gives for each item of another.
use Rattle.std.specs.Global.{Vec}
use Rattle.std.proofs.Common.{ℤ, vec_len, length-append, ◌^◌, subst, length-take, drop, length-drop, ◌≡◌, ◌∙◌, ◌+◌, ◌++◌, ◌∷◌, ◌<◌, ℕ, Bool, true, List, [], All, ap, sym, get_or, length, map, take, arith}
use Rattle.std.proofs.lemmas.List.{append-nil, append_assoc, get_or-append-add, get_or_append_left, map-append, get_or-drop, get_or-take, length-map, map_push, take_more}
use Rattle.sw_table.specs.declared.row.Row.{Row}
use Rattle.sw_table.specs.Packed.{HasRoomFor, IsSameRoom}
use Rattle.sw_load.specs.Appended.{Fit, IsAppended}
use Rattle.sw_load.specs.declared.columns.Column.{Column}
use Rattle.sw_load.specs.declared.columns.Column.TheVariants.{Key, Cell}
use Rattle.sw_table.specs.Kept.{kept}
use Rattle.sw_table.proofs.LiveLaws.{kept-all}

-- one more item
pub appended-more : {X Y : Type 0} (f : X → Y) (ys old : List Y) (xs : List X) (i : ℕ) (d : X) (y : Y) → i < length xs → ys ≡ old ++ map f (take i xs) → y ≡ f (get_or xs i d) → ys ++ y ∷ [] ≡ old ++ map f (take (i + 1) xs)
appended-more f ys old xs i d y lt is one =
    ap (λ v. v ++ y ∷ []) is
    ∙ append_assoc old (map f (take i xs)) (y ∷ [])
    ∙ ap (λ z. old ++ (map f (take i xs) ++ z ∷ [])) one
    ∙ ap (λ v. old ++ v) (sym (ap (map f) (take_more xs i d lt) ∙ map_push f (take i xs) _))

-- one more item of a part of a list
pub part-more : {X Y : Type 0} (f : X → Y) (ys old : List Y) (xs : List X) (s i : ℕ) (d : X) (y : Y) → s + i < length xs → ys ≡ old ++ map f (take i (drop s xs)) → y ≡ f (get_or xs (s + i) d) → ys ++ y ∷ [] ≡ old ++ map f (take (i + 1) (drop s xs))
part-more f ys old xs s i d y lt is one =
    appended-more f ys old (drop s xs) i d y (omega (arith, length-drop s xs, lt)) is (one ∙ ap f (sym (get_or-drop s xs i d)))

-- what holds of the items of a part holds of each
pub small-at : (rs : List Row) (s m i : ℕ) (d : Row) → s + i < length rs → i < m → All (λ (r : Row). r.key < 2 ^ 63) (take m (drop s rs)) → (get_or rs (s + i) d).key < 2 ^ 63
small-at rs s m i d lt in_part all =
    let here : i < length (take m (drop s rs)) = omega (arith, length-take m (drop s rs), length-drop s rs, lt, in_part) in
    subst (λ (r : Row). r.key < 2 ^ 63) (get_or-take m (drop s rs) i d in_part ∙ get_or-drop s rs i d) (all i d here)

-- where all of some rows are live and none come later, what is kept is those rows
pub kept-same : {X : Type 0} (fs : List Bool) (xs ys : List X) → length ys ≡ 0 → length fs ≡ length (xs ++ ys) → All (λ (b : Bool). b ≡ true) fs → xs ≡ kept fs (xs ++ ys)
kept-same fs xs [] none many all = sym (ap (kept fs) (append-nil xs) ∙ kept-all fs xs (many ∙ ap length (append-nil xs)) all)
kept-same fs xs (y ∷ ys) none many all = absurd (omega (arith, none))

-- what a function gives for some items is at the end of a list, and that for the rest is not
pub record IsAppending (f : Row → ℤ) (old new : Vec ℤ) (rest all : List Row) : Type 0 where
  pub items : new.items ++ map f rest ≡ old.items ++ map f all
  pub room : IsSameRoom old new
  pub len : vec_len new + length rest ≡ vec_len old + length all

-- the room for what is still to come
pub appending-room : (f : Row → ℤ) (old new : Vec ℤ) (some rest all : List Row) (n : ℕ) → IsAppending f old new (some ++ rest) all → length some ≡ n → HasRoomFor (length all) old → HasRoomFor n new
appending-room f old new some rest all n so_far long room = omega (arith, length-append some rest, long, room, so_far.len, so_far.room)

-- some more items are done
pub appending-more : (f : Row → ℤ) (old new next : Vec ℤ) (some rest all : List Row) → IsAppending f old new (some ++ rest) all → IsAppended (map f some) new next → IsAppending f old next rest all
appending-more f old new next some rest all so_far more = record {
  items =
      ap (λ (v : List ℤ). v ++ map f rest) more.items
      ∙ append_assoc new.items (map f some) (map f rest)
      ∙ ap (λ (v : List ℤ). new.items ++ v) (sym (map-append f some rest))
      ∙ so_far.items;
  room = more.room ∙ so_far.room;
  len = omega (arith, more.len, so_far.len, length-append some rest, length-map some f);
}

-- the keys of the rows before others fit, where those of all do
pub fit-before : (column : Column) (xs ys : List Row) → Fit column (xs ++ ys) → Fit column xs
fit-before Key xs ys all = λ k d lt. subst (λ (r : Row). r.key < 2 ^ 63) (get_or_append_left xs ys d k lt) (all k d (omega (arith, length-append xs ys, lt)))
fit-before (Cell attr) xs ys all = tt

-- the keys of the rows behind fit, where those of all do
pub fit-behind : (column : Column) (xs ys : List Row) → Fit column (xs ++ ys) → Fit column ys
fit-behind Key xs ys all = λ k d lt. subst (λ (r : Row). r.key < 2 ^ 63) (get_or-append-add xs ys k d) (all (length xs + k) d (omega (arith, length-append xs ys, lt)))
fit-behind (Cell attr) xs ys all = tt
