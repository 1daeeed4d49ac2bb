-- What the columns of ready boxes are.
use Rattle.std.proofs.Common.{◌≡◌, ℕ, zero, suc, ◌-◌, ◌<◌, ℤ, List, [], ◌∷◌, ◌++◌, length, map, get_or, take, drop, slice_range, false, inl, inr, refl, ap, sym, ◌∙◌, arith, subst, Any}
use Rattle.std.proofs.Math.Seq.{take-length}
use Rattle.std.proofs.lemmas.List.{length-map, get_or-map, map-append}
use Rattle.sw_table.specs.declared.row.Row.{Row}
use Rattle.sw_query.specs.Scan.{cell_of, column}
use Rattle.sw_kernel.specs.Arrangement.{Arrangement, last, piece, joined}
use Rattle.sw_kernel.specs.Replay.{Step, shown}
use Rattle.sw_map.specs.declared.tail.Tail.{Tail}
use Rattle.sw_map.specs.Held.{Held, blank, pair_in, tail_value, pairs_in}
use Rattle.sw_map.specs.Lawful.{IsAligned, IsLawful, rows_by}
use Rattle.sw_set.specs.Prepared.{IsReady}
use Rattle.sw_set.specs.Choice.{AreStocked, IsColumn, shown_rows, side_in}
use Rattle.sw_set.specs.declared.reply.window.Side.{Side}
use Rattle.sw_set.specs.declared.reply.window.Side.TheVariants.{Head, Tail as tail_side}
use Rattle.sw_set.specs.declared.reply.window.Column.{Column}

-- no box passes, so there is none among them
pub any-none : {X : Type 0} (h : X → Held) (P : Held → Type 0) (xs : List X) → ((k : ℕ) (d : X) → k < length xs → P (h (get_or xs k d)) → ⊥) → Any P (map h xs) → ⊥
any-none h P [] none a = let no : a.0 < 0 = a.2 in absurd (omega arith)
any-none h P (x ∷ xs) none a =
    let lt : a.0 < length (x ∷ xs) = omega (arith, a.2, length-map (x ∷ xs) h) in
    none a.0 x lt (subst P (sym a.3 ∙ get_or-map h (x ∷ xs) a.0 x a.1 lt) a.4)

-- items shown as something else are, joined, the joined items shown so
pub joined-shown : {A B : Type 0} (f : A → B) (a : Arrangement A) → joined (shown f a) ≡ map f (joined a)
joined-shown f (last xs) = refl
joined-shown f (piece xs b rest) = ap (λ v. map f xs ++ v) (joined-shown f rest) ∙ sym (map-append f xs (joined rest))

-- the heads of the pairs of rows are the cells of the head
pub heads-shown : (a : ℕ) (t : Tail) (rows : List Row) → map (λ (p : ℤ × ℤ). p.0) (map (pair_in a t) rows) ≡ map (cell_of a) rows
heads-shown a t [] = refl
heads-shown a t (r ∷ rs) = ap (λ v. cell_of a r ∷ v) (heads-shown a t rs)

-- the tails of the pairs of rows are what the tail shows of each row
pub tails-shown : (a : ℕ) (t : Tail) (rows : List Row) → map (λ (p : ℤ × ℤ). p.1) (map (pair_in a t) rows) ≡ map (tail_value t) rows
tails-shown a t [] = refl
tails-shown a t (r ∷ rs) = ap (λ v. tail_value t r ∷ v) (tails-shown a t rs)

no-blank : (a : ℕ) (tape : List (Step Row)) (m : Held) → IsLawful a tape m → m.is_blank ≡ false → IsAligned a tape m
unfolding IsLawful
no-blank a tape m (inl e) b = let no = sym (ap (λ (x : Held). x.is_blank) e) ∙ b in cc
no-blank a tape m (inr l) b = l

-- a lawful map at the tape's end has the pairs of the rows that maps show there, in order
pub ready-pairs : (a : ℕ) (t : Tail) (tape : List (Step Row)) (m : Held) → IsLawful a tape m → IsReady t tape m → joined m.pairs ≡ map (pair_in a t) (shown_rows a tape)
ready-pairs a t tape m w r =
    let l = no-blank a tape m w r.begun in
    ap joined (l.pairs_are ∙ ap (λ (v : Tail). shown (pair_in a v) (rows_by a (take m.cursor tape))) r.tail_is ∙ ap (λ (k : ℕ). shown (pair_in a t) (rows_by a (take k tape))) r.at_end ∙ ap (λ (v : List (Step Row)). shown (pair_in a t) (rows_by a v)) (take-length tape)) ∙ joined-shown (pair_in a t) (rows_by a tape)

module _ {X : Type 0} (h : X → Held) (xs : List X) (a : ℕ) (tape : List (Step Row)) (t : Tail) (at : ℕ) (stocked : AreStocked a tape (map h xs)) (lt : at < length xs) (ready : (d : X) → IsReady t tape (h (get_or xs at d))) where
  held-ready : (ys : List X) → ys ≡ xs → IsReady t tape (get_or (map h xs) at blank)
  held-ready [] e = let long : 0 ≡ length xs = ap length e in absurd (omega arith)
  held-ready (y ∷ ys) e = subst (IsReady t tape) (sym (get_or-map h xs at y blank lt)) (ready y)

  -- the box at the place has the pairs of the rows that maps show at the tape's end, in order
  pub ready-held : joined (get_or (map h xs) at blank).pairs ≡ map (pair_in a t) (shown_rows a tape)
  ready-held =
      let many : at < length (map h xs) = omega (arith, length-map xs h) in
      ready-pairs a t tape (get_or (map h xs) at blank) (stocked.lawful at blank many) (held-ready xs refl)

  -- the heads of its pairs are the head's cells of those rows
  pub head-column : IsColumn (map h xs) (record { at = at; side = Head }) (column a (shown_rows a tape))
  head-column = record { inside = omega (arith, length-map xs h); values_are = ap (λ (v : List (ℤ × ℤ)). map (λ (p : ℤ × ℤ). p.0) v) ready-held ∙ heads-shown a t (shown_rows a tape) }

  -- the tails of its pairs are what the tail shows of those rows
  pub tail-column : IsColumn (map h xs) (record { at = at; side = tail_side }) (map (tail_value t) (shown_rows a tape))
  tail-column = record { inside = omega (arith, length-map xs h); values_are = ap (λ (v : List (ℤ × ℤ)). map (λ (p : ℤ × ℤ). p.1) v) ready-held ∙ tails-shown a t (shown_rows a tape) }

-- ---- the columns of a range

-- what the box at a place holds stands at that place in the list of what they hold
pub held-at : {X : Type 0} (h : X → Held) (xs : List X) (at : ℕ) (x : X) → at < length xs → x ≡ get_or xs at x → h x ≡ get_or (map h xs) at blank
held-at h xs at x lt is = ap h is ∙ sym (get_or-map h xs at x blank lt)

map-take : {A B : Type 0} (f : A → B) (n : ℕ) (xs : List A) → map f (take n xs) ≡ take n (map f xs)
map-take f zero xs = refl
map-take f (suc n) [] = refl
map-take f (suc n) (x ∷ xs) = ap (λ v. f x ∷ v) (map-take f n xs)

map-drop : {A B : Type 0} (f : A → B) (n : ℕ) (xs : List A) → map f (drop n xs) ≡ drop n (map f xs)
map-drop f zero xs = refl
map-drop f (suc n) [] = refl
map-drop f (suc n) (x ∷ xs) = map-drop f n xs

-- the range of a list, mapped, is that range of the mapped list
pub map-range : {A B : Type 0} (f : A → B) (xs : List A) (from upto : ℕ) → map f (slice_range xs from upto) ≡ slice_range (map f xs) from upto
map-range f xs from upto = map-take f (upto - from) (drop from xs) ∙ ap (take (upto - from)) (map-drop f from xs)

-- the range of a box's column has the values of the rows in that range
pub column-range : {X : Type 0} (h : X → Held) (xs : List X) (c : Column) (x : X) (f : Row → ℤ) (rows : List Row) (from upto : ℕ) → IsColumn (map h xs) c (map f rows) → x ≡ get_or xs c.at x → slice_range (side_in c.side (h x)) from upto ≡ map f (slice_range rows from upto)
column-range h xs c x f rows from upto is at =
    let lt : c.at < length xs = omega (arith, is.inside, length-map xs h) in
    ap (λ (m : Held). slice_range (side_in c.side m) from upto) (held-at h xs c.at x lt at) ∙ ap (λ (v : List ℤ). slice_range v from upto) is.values_are ∙ sym (map-range f rows from upto)

-- a side of a map has as many values as the map has pairs
pub side-long : (s : Side) (m : Held) → length (side_in s m) ≡ pairs_in m
side-long Head m = length-map (joined m.pairs) (λ (p : ℤ × ℤ). p.0)
side-long tail_side m = length-map (joined m.pairs) (λ (p : ℤ × ℤ). p.1)

-- a box with a column of rows has as many pairs as there are rows
pub column-long : {X : Type 0} (h : X → Held) (xs : List X) (c : Column) (x : X) (f : Row → ℤ) (rows : List Row) → IsColumn (map h xs) c (map f rows) → x ≡ get_or xs c.at x → pairs_in (h x) ≡ length rows
column-long h xs c x f rows is at =
    let lt : c.at < length xs = omega (arith, is.inside, length-map xs h) in
    sym (side-long c.side (h x)) ∙ ap (λ (m : Held). length (side_in c.side m)) (held-at h xs c.at x lt at) ∙ ap length is.values_are ∙ length-map rows f
