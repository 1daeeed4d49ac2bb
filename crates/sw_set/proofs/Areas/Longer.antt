-- The laws of a tape that is one entry longer: which rows it brings, and which it leaves live.
use Rattle.std.proofs.Common.{◌≡◌, ℕ, zero, suc, ◌<◌, ◌^◌, ℤ, Bool, true, false, not, cond, nat_eq, List, [], ◌∷◌, ◌++◌, length, get_or, filter, ◌⊎◌, inl, inr, refl, ap, sym, ◌∙◌, arith, subst, All, Contains}
use Rattle.std.specs.List.{AllByRecursion}
use Rattle.std.proofs.lemmas.List.{append-nil, append_assoc}
use Rattle.std.proofs.lemmas.List.Elements.{All-from_recursion, All-append}
use Rattle.sw_table.specs.declared.row.Row.{Row}
use Rattle.sw_query.specs.Scan.{cell_of}
use Rattle.sw_table.specs.Updates.{without}
use Rattle.sw_kernel.specs.Arrangement.{Arrangement, last, joined}
use Rattle.sw_kernel.specs.Replay.{Step, loaded, inserted, removed, ranged, step, replay_from}
use Rattle.sw_kernel.specs.Tapes.{IsTape, brought, brought_by, count_from, live_from, live_after, without_place}
use Rattle.sw_kernel.proofs.Members.{Mem, mem-from_contains, contains-from_mem, mem-left, mem-either, mem-filtered, all-append, all-from_mem}
use Rattle.sw_kernel.proofs.Once.{count-replay}
use Rattle.sw_tape.proofs.Steps.{tape-push}
use Rattle.sw_map.specs.Held.{KeysFit}
use Rattle.sw_map.specs.Lawful.{rows_by}
use Rattle.sw_set.specs.Shelf.{Rises, key_of, logged_rows}
use Rattle.sw_set.proofs.Areas.Boxes.{get_or_any}
use Rattle.sw_set.proofs.Replying.KeyOrder.{rises-filter}

-- ---- the live rows after one entry more
pub live-more : {A : Type 0} (value : A → ℤ) (key : A → ℕ) (es : List (Step A)) (e : Step A) (a : Arrangement A) (rows : List A) → live_from value key a (es ++ e ∷ []) rows ≡ live_after key (joined (replay_from value a es)) e (live_from value key a es rows)
live-more value key [] e a rows = refl
live-more value key (x ∷ es) e a rows = live-more value key es e (step value x a) (live_after key (joined a) x rows)

-- an insertion adds its row at the end
pub logged-inserted : (a : ℕ) (tape : List (Step Row)) (r : Row) → logged_rows a (tape ++ inserted r ∷ []) ≡ logged_rows a tape ++ r ∷ []
logged-inserted a tape r = live-more (cell_of a) key_of tape (inserted r) (last []) []

-- the rows without those of the key that the item at a place has
without-place : (items rows : List Row) (place k : ℕ) → place < length items → ((d : Row) → (get_or items place d).key ≡ k) → without_place key_of items place rows ≡ without k rows
without-place [] rows place k lt is = let no : place < 0 = lt in absurd (omega arith)
without-place (x ∷ xs) rows zero k lt is = ap (λ (n : ℕ). without n rows) (is x)
without-place (x ∷ xs) rows (suc place) k lt is = without-place xs rows place k (omega arith) is

-- a removal takes away the row whose key stands at its place
pub logged-removed : (a : ℕ) (tape : List (Step Row)) (place k : ℕ) → place < length (joined (rows_by a tape)) → ((d : Row) → (get_or (joined (rows_by a tape)) place d).key ≡ k) → logged_rows a (tape ++ removed place ∷ []) ≡ without k (logged_rows a tape)
logged-removed a tape place k lt is = live-more (cell_of a) key_of tape (removed place) (last []) [] ∙ without-place (joined (rows_by a tape)) (logged_rows a tape) place k lt is

-- ---- the rows that it brings
brought-more : (tape : List (Step Row)) (e : Step Row) → brought (tape ++ e ∷ []) ≡ brought tape ++ brought_by e
brought-more [] e = append-nil (brought_by e)
brought-more (x ∷ tape) e = ap (λ (v : List Row). brought_by x ++ v) (brought-more tape e) ∙ sym (append_assoc (brought_by x) (brought tape) (brought_by e))

-- an insertion at the end of a tape brings its row behind the others
pub brought-inserted : (tape : List (Step Row)) (r : Row) → brought (tape ++ inserted r ∷ []) ≡ brought tape ++ r ∷ []
brought-inserted tape r = brought-more tape (inserted r)

-- a removal at the end of a tape brings no row
pub brought-removed : (tape : List (Step Row)) (place : ℕ) → brought (tape ++ removed place ∷ []) ≡ brought tape
brought-removed tape place = brought-more tape (removed place) ∙ append-nil (brought tape)

-- ---- it is a tape
pub tape-inserted : (tape : List (Step Row)) (r : Row) → IsTape tape → IsTape (tape ++ inserted r ∷ [])
tape-inserted tape r t = tape-push tape (inserted r) t tt

-- a tape with the removal of a place that it has at its end is a tape
pub tape-removed : (tape : List (Step Row)) (place : ℕ) → IsTape tape → place < count_from 0 tape → IsTape (tape ++ removed place ∷ [])
tape-removed tape place t lt = tape-push tape (removed place) t lt

-- a place of the joined rows is one that an entry may remove
pub place-counted : (a : ℕ) (tape : List (Step Row)) (place : ℕ) → IsTape tape → place < length (joined (rows_by a tape)) → place < count_from 0 tape
place-counted a tape place t lt = let n = count-replay (cell_of a) tape t in omega (arith, n, lt)

one-all : {X : Type 0} (P : X → Type 0) (x : X) → P x → All P (x ∷ [])
one-all P x px zero d lt = px
one-all P x px (suc k) d lt = absurd (omega arith)

-- and its keys fit
pub keys-inserted : (tape : List (Step Row)) (r : Row) → r.key < 2 ^ 63 → All (λ (e : Step Row). KeysFit e) tape → All (λ (e : Step Row). KeysFit e) (tape ++ inserted r ∷ [])
keys-inserted tape r fits all = All-append (λ (e : Step Row). KeysFit e) tape (inserted r ∷ []) all (one-all (λ (e : Step Row). KeysFit e) (inserted r) (one-all (λ (x : Row). x.key < 2 ^ 63) r fits))

-- with a removal more the keys of all entries of a tape still fit
pub keys-removed : (tape : List (Step Row)) (place : ℕ) → All (λ (e : Step Row). KeysFit e) tape → All (λ (e : Step Row). KeysFit e) (tape ++ removed place ∷ [])
keys-removed tape place all = All-append (λ (e : Step Row). KeysFit e) tape (removed place ∷ []) all (one-all (λ (e : Step Row). KeysFit e) (removed place) (λ k d lt. let no : k < 0 = lt in absurd (omega arith)))

-- ---- the live rows are among those that the tape brought
mem-right : {X : Type 0} (xs ys : List X) (y : X) → Mem y ys → Mem y (xs ++ ys)
mem-right [] ys y m = m
mem-right (x ∷ xs) ys y m = inr (mem-right xs ys y m)

mem-parts : {X : Type 0} (xs ys : List X) (y : X) → Mem y (xs ++ ys) → Mem y xs ⊎ Mem y ys
mem-parts [] ys y m = inr m
mem-parts (x ∷ xs) ys y (inl e) = inl (inl e)
mem-parts (x ∷ xs) ys y (inr m) = elim (mem-parts xs ys y m) [ inl a ↦ inl (inr a) | inr b ↦ inr b ]

mem-less : {A : Type 0} (key : A → ℕ) (items rows : List A) (place : ℕ) (y : A) → Mem y (without_place key items place rows) → Mem y rows
mem-less key [] rows place y m = m
mem-less {A} key (x ∷ xs) rows zero y m = (mem-filtered (λ (r : A). not (nat_eq (key r) (key x))) rows y m).0
mem-less key (x ∷ xs) rows (suc place) y m = mem-less key xs rows place y m

live-members : {A : Type 0} (value : A → ℤ) (key : A → ℕ) (es : List (Step A)) (a : Arrangement A) (rows : List A) (y : A) → Mem y (live_from value key a es rows) → Mem y rows ⊎ Mem y (brought es)
live-members value key [] a rows y m = inl m
live-members {A} value key (loaded xs ∷ es) a rows y m = elim (live-members value key es (step value (loaded xs) a) (rows ++ xs) y m) [
  | inl f ↦ elim (mem-parts rows xs y f) [ inl g ↦ inl g | inr g ↦ inr (mem-left xs (brought es) y g) ]
  | inr f ↦ inr (mem-right xs (brought es) y f)
]
live-members value key (inserted x ∷ es) a rows y m = elim (live-members value key es (step value (inserted x) a) (rows ++ x ∷ []) y m) [
  | inl f ↦ elim (mem-either rows x y f) [ inl g ↦ inl g | inr g ↦ inr (inl g) ]
  | inr f ↦ inr (inr f)
]
live-members value key (removed place ∷ es) a rows y m = elim (live-members value key es (step value (removed place) a) (without_place key (joined a) place rows) y m) [
  | inl f ↦ inl (mem-less key (joined a) rows place y f)
  | inr f ↦ inr f
]
live-members value key (ranged lower upper ∷ es) a rows y m = live-members value key es (step value (ranged lower upper) a) rows y m

logged-mem : (a : ℕ) (tape : List (Step Row)) (r : Row) → Mem r (logged_rows a tape) → Mem r (brought tape)
logged-mem a tape r m = elim (live-members (cell_of a) key_of tape (last []) [] r m) [ inl none ↦ absurd none | inr f ↦ f ]

-- each live row of a tape is one that it brought
pub logged-brought : (a : ℕ) (tape : List (Step Row)) (r : Row) → Contains (logged_rows a tape) r → Contains (brought tape) r
logged-brought a tape r c = contains-from_mem (brought tape) r (logged-mem a tape r (mem-from_contains (logged_rows a tape) r c))

-- so what holds of all that it brought holds of each live row
pub logged-all : (P : Row → Type 0) (a : ℕ) (tape : List (Step Row)) → All P (brought tape) → All P (logged_rows a tape)
logged-all P a tape all k d lt =
    let r = get_or (logged_rows a tape) k d in
    let c = logged-brought a tape r (k, lt, get_or_any (logged_rows a tape) k r d lt) in
    subst P c.2 (all c.0 r c.1)

-- ---- and they rise with them
all-kept : {X : Type 0} (P : X → Type 0) (p : X → Bool) (xs ys : List X) → AllByRecursion P (xs ++ ys) → AllByRecursion P (filter p xs ++ ys)
all-kept P p [] ys h = h
all-kept P p (x ∷ xs) ys h = elim (p x) as (λ b. AllByRecursion P (cond b (x ∷ filter p xs) (filter p xs) ++ ys)) [ true ↦ (h.0, all-kept P p xs ys h.1) | false ↦ all-kept P p xs ys h.1 ]

rises-kept : {X : Type 0} (k : X → ℕ) (p : X → Bool) (xs ys : List X) → Rises k (xs ++ ys) → Rises k (filter p xs ++ ys)
rises-kept k p [] ys r = r
rises-kept k p (x ∷ xs) ys r = elim (p x) as (λ b. Rises k (cond b (x ∷ filter p xs) (filter p xs) ++ ys)) [ true ↦ (all-kept (λ y. k x < k y) p xs ys r.0, rises-kept k p xs ys r.1) | false ↦ rises-kept k p xs ys r.1 ]

rises-less : {A : Type 0} (key : A → ℕ) (items rows ys : List A) (place : ℕ) → Rises key (rows ++ ys) → Rises key (without_place key items place rows ++ ys)
rises-less key [] rows ys place r = r
rises-less {A} key (x ∷ xs) rows ys zero r = rises-kept key (λ (v : A). not (nat_eq (key v) (key x))) rows ys r
rises-less key (x ∷ xs) rows ys (suc place) r = rises-less key xs rows ys place r

live-rises : {A : Type 0} (value : A → ℤ) (key : A → ℕ) (es : List (Step A)) (a : Arrangement A) (rows : List A) → Rises key (rows ++ brought es) → Rises key (live_from value key a es rows)
live-rises value key [] a rows r = subst (Rises key) (append-nil rows) r
live-rises value key (loaded xs ∷ es) a rows r = live-rises value key es (step value (loaded xs) a) (rows ++ xs) (subst (Rises key) (sym (append_assoc rows xs (brought es))) r)
live-rises value key (inserted x ∷ es) a rows r = live-rises value key es (step value (inserted x) a) (rows ++ x ∷ []) (subst (Rises key) (sym (append_assoc rows (x ∷ []) (brought es))) r)
live-rises value key (removed place ∷ es) a rows r = live-rises value key es (step value (removed place) a) (without_place key (joined a) place rows) (rises-less key (joined a) rows (brought es) place r)
live-rises value key (ranged lower upper ∷ es) a rows r = live-rises value key es (step value (ranged lower upper) a) rows r

-- the live rows of a tape rise by key where those that it brought do
pub logged-rises : (a : ℕ) (tape : List (Step Row)) → Rises key_of (brought tape) → Rises key_of (logged_rows a tape)
logged-rises a tape r = live-rises (cell_of a) key_of tape (last []) [] r

-- a row of a greater key comes behind
pub rises-last : {X : Type 0} (k : X → ℕ) (xs : List X) (x : X) → Rises k xs → All (λ (y : X). k y < k x) xs → Rises k (xs ++ x ∷ [])
rises-last k [] x r below = (tt, tt)
rises-last {X} k (y ∷ ys) x r below = (all-append (λ (z : X). k y < k z) ys (x ∷ []) r.0 (below 0 y (omega arith), tt), rises-last k ys x r.1 (λ j d lt. below (suc j) d (omega arith)))

-- fewer rows rise too
pub rises-without : (k : ℕ) (rows : List Row) → Rises key_of rows → Rises key_of (without k rows)
rises-without k rows r = rises-filter key_of (λ (x : Row). not (nat_eq x.key k)) rows r

-- what holds of all rows holds of those without a key
pub all-without : (P : Row → Type 0) (k : ℕ) (rows : List Row) → All P rows → All P (without k rows)
all-without P k rows all =
    All-from_recursion P (without k rows) (all-from_mem P (without k rows) (λ y m. (let c = contains-from_mem rows y (mem-filtered (λ (x : Row). not (nat_eq x.key k)) rows y m).0 in subst P c.2 (all c.0 y c.1))))
