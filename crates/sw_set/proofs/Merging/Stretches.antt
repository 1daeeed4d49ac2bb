-- A stretch of updates that an area is begun anew with: it is left as if they were merged one after the other.
use Rattle.std.proofs.Common.{◌≡◌, ℕ, zero, suc, ◌+◌, ◌-◌, ◌<◌, ◌≤◌, inl, inr, List, [], ◌∷◌, ◌++◌, fold, length, get_or, take, drop, refl, ap, sym, ◌∙◌, arith, subst, All, Bool, true, false, true≢false, Result, Ok, Err, MatchResult}
use Rattle.std.proofs.lemmas.List.{drop_more, get_or_default, length-append}
use Rattle.sw_table.specs.declared.row.Row.{Row}
use Rattle.sw_table.specs.declared.row.Update.{Update}
use Rattle.sw_table.specs.declared.row.Update.TheVariants.{Insert, Remove}
use Rattle.sw_query.specs.declared.refusal.Refusal.{Refusal}
use Rattle.sw_query.specs.declared.refusal.Refusal.TheVariants.{NoMemory}
use Rattle.sw_table.specs.Updates.{rows_then, without}
use Rattle.sw_kernel.specs.Replay.{Step, loaded, inserted}
use Rattle.sw_map.specs.Held.{Held, blank}
use Rattle.sw_set.specs.Merged.{IsBegunAnew, IsMerged, IsSameShell, LacksKeys, MustBegin}
use Rattle.sw_set.specs.Merging.{GoesOn, IsLogged, IsLoggedOrNot, IsMergedUpTo, IsRemoval, IsSameTape, IsStretch}
use Rattle.sw_set.specs.Shelf.{AreaState, logged_rows}
use Rattle.sw_set.proofs.Merging.Merges.{full-or-not, logged-at, merged-rows, shell-trans, upto-more}
use Rattle.sw_set.proofs.Merging.Restarts.{tape-after, tape-same}
use Rattle.sw_set.proofs.Areas.Shelves.{blank-not}

abbrev AreBlank : List Held → Type 0
AreBlank ms = All (λ (m : Held). m ≡ blank) ms

no-keys : (z : AreaState) → AreBlank z.boxes → LacksKeys z
no-keys z blanks = λ k d lt keys. blank-not keys.0 (blanks k d lt)

-- the area with another tape
abbrev with_tape : AreaState → List (Step Row) → AreaState
with_tape z tape = record z { tape = tape }

-- the area with one load
abbrev reloaded : AreaState → List Row → AreaState
reloaded z rows = with_tape z (loaded rows ∷ [])

tape-shell : (z : AreaState) (tape : List (Step Row)) → IsSameShell z (with_tape z tape)
tape-shell z tape = record { attribute = refl; from = refl; below = refl; inbox = refl; spare = refl; many = refl }

-- the area after an update, where all boxes are blank
record Next (S : List (Step Row) → Type 0) (z : AreaState) (u : Update) : Type 0 where
  tape : List (Step Row)
  short : length tape ≤ 4096
  merged : IsMerged S u z (with_tape z tape)

next : {S : List (Step Row) → Type 0} (z : AreaState) (u : Update) → AreBlank z.boxes → length z.tape ≤ 4096 → Next S z u
next {S} z (Insert r) blanks short =
    full-or-not (length z.tape) short
    (λ room. record {
      tape = z.tape ++ inserted r ∷ [];
      short = (let n = length-append z.tape (inserted r ∷ []) in omega (arith, n, room));
      merged = record { logged = λ _. (refl, refl); restarted = λ full. absurd (omega (arith, full, room)) };
    })
    (λ full. record {
      tape = loaded (logged_rows z.attribute z.tape ++ r ∷ []) ∷ [];
      short = omega arith;
      merged = record { logged = λ room. absurd (omega (arith, full, room)); restarted = λ _. record { tape = refl; boxes = blanks } };
    })
next {S} z (Remove k) blanks short = record {
  tape = loaded (without k (logged_rows z.attribute z.tape)) ∷ [];
  short = omega arith;
  merged = inr (inr (inl (no-keys z blanks)), record { tape = refl; boxes = blanks });
}

-- a row that goes has it begun anew
last-gone : (S : List (Step Row) → Type 0) (u : Update) (z : AreaState) → IsRemoval u → AreBlank z.boxes → IsMerged S u z (reloaded z (rows_then (logged_rows z.attribute z.tape) u))
last-gone S (Insert r) z gone blanks = absurd gone
last-gone S (Remove k) z gone blanks = inr (inr (inl (no-keys z blanks)), record { tape = refl; boxes = blanks })

-- one that has the area begun anew
first-begun : (S : List (Step Row) → Type 0) (u : Update) (x z : AreaState) → MustBegin S u x → IsBegunAnew (rows_then (logged_rows x.attribute x.tape) u) z → IsMerged S u x z
first-begun S (Insert r) x z full begun = record { logged = λ room. absurd (omega (arith, full, room)); restarted = λ _. begun }
first-begun S (Remove k) x z must begun = inr (must, begun)

module _ (S : List (Step Row) → Type 0) (us : List Update) (first : AreaState) where
  -- the update at a place, and those from there on
  abbrev here : ℕ → Update
  here at = get_or us at (Remove 0)

  here-is : (at : ℕ) → at < length us → here at ≡ get_or us at (here at)
  here-is at lt = get_or_default us at (Remove 0) (here at) lt

  parted : (at : ℕ) → at < length us → drop at us ≡ here at ∷ drop (at + 1) us
  parted at lt = drop_more us at (Remove 0) lt

  -- on from an area whose boxes are blank, up to a removal
  chain : (n at : ℕ) (z : AreaState) → AreBlank z.boxes → length z.tape ≤ 4096 → IsMergedUpTo S us at first z → at + n < length us → IsRemoval (here (at + n)) → IsMergedUpTo S us (at + n + 1) first (reloaded z (fold rows_then (logged_rows z.attribute z.tape) (take (suc n) (drop at us))))
  chain zero at z blanks short w lt gone =
      let u = here at in
      let l : at < length us = omega (arith, lt) in
      let g : IsRemoval u = subst (λ (i : ℕ). IsRemoval (here i)) (let e : at + 0 ≡ at = omega arith in e) gone in
      let done : IsMergedUpTo S us (at + 1) first (reloaded z (rows_then (logged_rows z.attribute z.tape) u)) = upto-more us at u first z _ l (here-is at l) short w (tape-shell z (loaded (rows_then (logged_rows z.attribute z.tape) u) ∷ [])) (last-gone S u z g blanks) in
      let one : fold rows_then (logged_rows z.attribute z.tape) (take 1 (drop at us)) ≡ rows_then (logged_rows z.attribute z.tape) u = ap (λ (vs : List Update). fold rows_then (logged_rows z.attribute z.tape) (take 1 vs)) (parted at l) in
      subst (λ (i : ℕ). IsMergedUpTo S us i first (reloaded z (fold rows_then (logged_rows z.attribute z.tape) (take 1 (drop at us))))) (let e : at + 1 ≡ at + 0 + 1 = omega arith in e) (rw one done)
  chain (suc n) at z blanks short w lt gone =
      let u = here at in
      let l : at < length us = omega (arith, lt) in
      let m = next z u blanks short in
      let y = with_tape z m.tape in
      let rows : logged_rows y.attribute y.tape ≡ rows_then (logged_rows z.attribute z.tape) u = merged-rows S u z y short refl m.merged in
      let goes = upto-more us at u first z y l (here-is at l) short w (tape-shell z m.tape) m.merged in
      let rest = chain n (at + 1) y blanks m.short goes (omega (arith, lt)) (subst (λ (i : ℕ). IsRemoval (here i)) (let e : at + suc n ≡ at + 1 + n = omega arith in e) gone) in
      let all : fold rows_then (logged_rows z.attribute z.tape) (take (suc (suc n)) (drop at us)) ≡ fold rows_then (logged_rows y.attribute y.tape) (take (suc n) (drop (at + 1) us)) = ap (λ (vs : List Update). fold rows_then (logged_rows z.attribute z.tape) (take (suc (suc n)) vs)) (parted at l) ∙ ap (λ (v : List Row). fold rows_then v (take (suc n) (drop (at + 1) us))) (sym rows) in
      subst (λ (i : ℕ). IsMergedUpTo S us i first (reloaded z (fold rows_then (logged_rows z.attribute z.tape) (take (suc (suc n)) (drop at us))))) (let e : at + 1 + n + 1 ≡ at + suc n + 1 = omega arith in e) (rw all rest)

  -- a stretch
  module _ (at upto : ℕ) (x y : AreaState) (lt : at < length us) (stretch : IsStretch us at upto) (short : length x.tape ≤ 4096) (must : MustBegin S (here at) x) (shell : IsSameShell x y) (begun : IsBegunAnew (fold rows_then (logged_rows x.attribute x.tape) (take (upto - at) (drop at us))) y) (w : IsMergedUpTo S us at first x) where
    -- the live rows after the first of it
    abbrev rows-first : List Row
    rows-first = rows_then (logged_rows x.attribute x.tape) (here at)

    -- the area has the one load
    loads-all : (n : ℕ) → upto ≡ at + 1 + n → y ≡ reloaded y (fold rows_then rows-first (take n (drop (at + 1) us)))
    loads-all n e =
        let many : upto - at ≡ suc n = omega (arith, e) in
        let rows : fold rows_then (logged_rows x.attribute x.tape) (take (upto - at) (drop at us)) ≡ fold rows_then rows-first (take n (drop (at + 1) us)) = ap (λ (k : ℕ). fold rows_then (logged_rows x.attribute x.tape) (take k (drop at us))) many ∙ ap (λ (vs : List Update). fold rows_then (logged_rows x.attribute x.tape) (take (suc n) vs)) (parted at lt) in
        ap (with_tape y) (begun.tape ∙ ap (λ (v : List Row). loaded v ∷ []) rows)

    upto-first : IsMergedUpTo S us (at + 1) first (reloaded y rows-first)
    upto-first = upto-more us at (here at) first x (reloaded y rows-first) lt (here-is at lt) short w (shell-trans x y (reloaded y rows-first) shell (tape-shell y (loaded rows-first ∷ []))) (first-begun S (here at) x (reloaded y rows-first) must (record { tape = refl; boxes = begun.boxes }))

    by : (n : ℕ) → upto ≡ at + 1 + n → IsMergedUpTo S us upto first y
    by zero e = subst (λ (v : AreaState). IsMergedUpTo S us upto first v) (sym (loads-all 0 e)) (subst (λ (i : ℕ). IsMergedUpTo S us i first (reloaded y rows-first)) (let d : at + 1 ≡ upto = omega (arith, e) in d) upto-first)
    by (suc n) e =
        let within = stretch.within in
        let gone : IsRemoval (here (at + 1 + n)) = subst (λ (i : ℕ). IsRemoval (here i)) (let d : upto - 1 ≡ at + 1 + n = omega (arith, e) in d) (stretch.last (omega (arith, e)) (Remove 0)) in
        let done = chain n (at + 1) (reloaded y rows-first) begun.boxes (omega arith) upto-first (omega (arith, e, within)) gone in
        subst (λ (v : AreaState). IsMergedUpTo S us upto first v) (sym (loads-all (suc n) e)) (subst (λ (i : ℕ). IsMergedUpTo S us i first (reloaded y (fold rows_then rows-first (take (suc n) (drop (at + 1) us))))) (let d : at + 1 + n + 1 ≡ upto = omega (arith, e) in d) done)

    -- merged up to the stretch, an area that must begin and is begun anew with its rows is merged up to its end
    pub stretch-merged : IsMergedUpTo S us upto first y
    stretch-merged = let more = stretch.more in by (upto - (at + 1)) (omega (arith, more))

-- ---- on from a place
logged-merged : (S : List (Step Row) → Type 0) (u : Update) (x y : AreaState) → IsLogged u x y → IsMerged S u x y
logged-merged S (Insert r) x y w = record { logged = λ _. (w.1, w.2); restarted = λ full. let room = w.0 in absurd (omega (arith, full, room)) }
logged-merged S (Remove k) x y w = inl w

-- an update that is told to be logged is merged
pub told-logged : {S : List (Step Row) → Type 0} (u : Update) (x y : AreaState) (b : Bool) → b ≡ true → IsLoggedOrNot S u x y (Ok b) → IsMerged S u x y
told-logged {S} u x y true e w = logged-merged S u x y w.ends
told-logged {S} u x y false e w = absurd (true≢false (sym e))

-- an update that is told not to be logged must have the area begun anew, whose tape is the same
pub told-not : {S : List (Step Row) → Type 0} (u : Update) (x y : AreaState) (b : Bool) → b ≡ false → IsLoggedOrNot S u x y (Ok b) → MustBegin S u x × IsSameTape x y
told-not {S} u x y true e w = absurd (true≢false e)
told-not {S} u x y false e w = w.ends

-- to merge the update at a place is to go on from there to the next place
pub goes-one : {S : List (Step Row) → Type 0} (us : List Update) (at : ℕ) (u : Update) (x y : AreaState) → at < length us → u ≡ get_or us at u → length x.tape ≤ 4096 → IsSameShell x y → IsMerged S u x y → (at < at + 1) × (at + 1 ≤ length us) × GoesOn S us at (at + 1) x y
goes-one {S} us at u x y lt is short shell merged = (omega arith, omega (arith, lt), λ first w. upto-more us at u first x y lt is short w shell merged)

-- where an update must begin the area anew, a stretch from it on goes on to its end; or there was no memory
pub goes-begun : (S : List (Step Row) → Type 0) (r : Result ℕ Refusal) (us : List Update) (at : ℕ) (u : Update) (x m y : AreaState) → at < length us → u ≡ get_or us at u → length x.tape ≤ 4096 → MustBegin S u x → IsSameTape x m → IsSameShell m y →
    MatchResult r (λ upto. IsStretch us at upto × IsBegunAnew (fold rows_then (logged_rows m.attribute m.tape) (take (upto - at) (drop at us))) y) (λ e. (e ≡ NoMemory) × (y ≡ m)) → MatchResult r (λ upto. (at < upto) × (upto ≤ length us) × GoesOn S us at upto x y) (λ e. (e ≡ NoMemory) × IsSameTape x y)
goes-begun S (Ok upto) us at u x m y lt is short must same shell w =
    let begun : IsBegunAnew (fold rows_then (logged_rows x.attribute x.tape) (take (upto - at) (drop at us))) y = subst (λ (v : List Row). IsBegunAnew (fold rows_then v (take (upto - at) (drop at us))) y) (logged-at x.attribute m.attribute x.tape m.tape same.shell.attribute same.tape) w.1 in
    let here : MustBegin S (get_or us at (Remove 0)) x = subst (λ (v : Update). MustBegin S v x) (is ∙ get_or_default us at u (Remove 0) lt) must in
    (w.0.more, w.0.within, λ first done. stretch-merged S us first at upto x y lt w.0 short here (shell-trans x m y same.shell shell) begun done)
goes-begun S (Err e) us at u x m y lt is short must same shell w = (w.0, tape-after x m y same (tape-same m y w.1))
