-- What is published stays, or grows.
use Rattle.std.proofs.Common.{true, ◌≡◌, ◌⊎◌, ⊎_elim, inl, inr, ℕ, zero, suc, ◌+◌, ◌≤◌, List, [], ◌∷◌, ◌++◌, length, take, drop, set, Bool, false, Some, refl, sym, ◌∙◌, ap, subst, arith, fold}
use Rattle.std.specs.Prelude.{Err, Ok, OnErr, OnOk, Result, slice_get}
use Rattle.std.proofs.lemmas.List.{append-nil, take-append-le}
use Rattle.std.proofs.lemmas.List.Sums.{fold-append}
use mathlib.Core.List.{IsPrefix}
use Rattle.sw_table.specs.declared.row.Row.{Row}
use Rattle.sw_table.specs.declared.row.Update.{Update}
use Rattle.sw_table.specs.Updates.{rows_of, rows_then}
use Rattle.sw_versions.specs.Lists.{BeginsOr, rows_after}
use Rattle.sw_versions.specs.Rules.{updates_in}
use Rattle.sw_versions.proofs.Prefixes.{prefix_length, prefix_trans}
use Rattle.sw_spine.specs.Books.{Books, updates, with_session}
use Rattle.sw_spine.specs.Table.{opened}
use Rattle.sw_spine.proofs.StoreLemmas.{rows_of_opened}
use Rattle.sw_engine.specs.Later.{Begin}
use Rattle.sw_engine.specs.Published.{AreBehind, Grows, IsWhole, published_of}
use Rattle.sw_engine.proofs.Later.{begin_self, begin_trans}
use Rattle.sw_engine.specs.Desk.{IsShown, IsTied}
use Rattle.sw_engine.proofs.Ties.{get_set, length_push}

-- a list begins one that is the same
pub prefix_same : {A : Type 0} (xs ys : List A) → xs ≡ ys → IsPrefix xs ys
prefix_same xs ys e = ([], append-nil xs ∙ e)

-- ---- what a visit leaves published

-- it changes neither the updates nor their number
pub published_kept : (opening : List Row) (s s' : Books) → s'.published ≡ s.published → updates s' ≡ updates s → published_of opening s' ≡ published_of opening s
published_kept opening s s' p u = λ i. drop (length opening) (take (p i) (u i))

-- it adds updates
pub published_more : (opening : List Row) (s s' : Books) (more : List Update) → s'.published ≡ s.published → updates s' ≡ updates s ++ more → s.published ≤ length (updates s) → published_of opening s' ≡ published_of opening s
published_more opening s s' more p u le = ap (λ (us : List Update). drop (length opening) us) ((λ i. take (p i) (u i)) ∙ take-append-le s.published (updates s) more le)

-- ---- rows of the sessions' book

-- the session's row goes to the new state
pub behind_set : (limit : ℕ) (opening : List Row) (s s' x : Books) (rows rows' : List (Books × Bool)) (k : ℕ) → AreBehind limit opening s rows → IsPrefix (published_of opening s) (published_of opening s') → IsWhole limit opening s' → x ≡ s' → rows' ≡ set rows k (x, false) → AreBehind limit opening s' rows'
behind_set limit opening s s' x rows rows' k behind grows whole new are j r e = ⊎_elim
    (λ p. subst (λ (u : Books × Bool). IsPrefix (published_of opening u.0) (published_of opening s') × IsWhole limit opening u.0) p.1 (prefix_same (published_of opening x) (published_of opening s') (ap (published_of opening) new), subst (IsWhole limit opening) (sym new) whole))
    (λ p. (prefix_trans (published_of opening r.0) (published_of opening s) (published_of opening s') (behind j r p.1).0 grows, (behind j r p.1).1))
    (get_set rows k j (x, false) r (sym (ap (λ (l : List (Books × Bool)). slice_get l j) are) ∙ e))

-- one share came back
pub behind_give : (limit : ℕ) (opening : List Row) (s : Books) (rows rows' : List (Books × Bool)) (k : ℕ) (a : Books) → AreBehind limit opening s rows → slice_get rows k ≡ Some (a, false) → rows' ≡ set rows k (a, true) → AreBehind limit opening s rows'
behind_give limit opening s rows rows' k a behind at are j r e = ⊎_elim
    (λ p. subst (λ (u : Books × Bool). IsPrefix (published_of opening u.0) (published_of opening s) × IsWhole limit opening u.0) p.1 (behind k (a, false) at))
    (λ p. behind j r p.1)
    (get_set rows k j (a, true) r (sym (ap (λ (l : List (Books × Bool)). slice_get l j) are) ∙ e))

-- the session's share goes from what it showed to the new state
pub share_grows : (limit : ℕ) (opening : List Row) (s s' a x : Books) (rows heads : List (Books × Bool)) (k : ℕ) → IsTied s rows heads → AreBehind limit opening s rows → slice_get rows k ≡ Some (a, false) → IsPrefix (published_of opening s) (published_of opening s') → Begin s.entries s'.entries → x ≡ s' → Grows opening a x
share_grows limit opening s s' a x rows heads k tied behind at grows begins new =
    subst (λ (b : Books). Grows opening a b) (sym new) (
      prefix_trans (published_of opening a) (published_of opening s) (published_of opening s') (behind k (a, false) at).0 grows,
      begin_trans a.entries s.entries s'.entries (tied.shown k (a, false) at).3 begins,
    )

-- what a share shows grows where it shows the same
pub grows_self : (opening : List Row) (a x : Books) → x ≡ a → Grows opening a x
grows_self opening a x same = subst (λ (b : Books). Grows opening a b) (sym same) (prefix_same (published_of opening a) (published_of opening a) refl, begin_self a.entries)

-- what grows twice has grown
pub grows_trans : (opening : List Row) (a b d : Books) → Grows opening a b → Grows opening b d → Grows opening a d
grows_trans opening a b d first then = (
  prefix_trans (published_of opening a) (published_of opening b) (published_of opening d) first.0 then.0,
  begin_trans a.entries b.entries d.entries first.1 then.1,
)

-- what stands in a list with one more at its end
get_push : {A : Type 0} (xs : List A) (k : ℕ) (x y : A) → slice_get (xs ++ x ∷ []) k ≡ Some y → (slice_get xs k ≡ Some y) ⊎ (x ≡ y)
get_push [] zero x y e = inr (cc e)
get_push [] (suc k) x y e = absurd cc
get_push (z ∷ xs) zero x y e = inl e
get_push (z ∷ xs) (suc k) x y e = get_push xs k x y e

-- one more session, whose share shows the new state
pub enrol_tied : (s s' x : Books) (rows rows' heads : List (Books × Bool)) → IsTied s rows heads → s' ≡ with_session s → x ≡ s' → rows' ≡ rows ++ (x, false) ∷ [] → IsTied s' rows' heads
enrol_tied s s' x rows rows' heads t is new are = rw (are, new, is) record {
  shown = λ k r e. ⊎_elim
      (λ at. let o = t.shown k r at in (o.0, o.1, o.2, o.3, (let few = o.4 in omega (arith, few))))
      (λ n. subst (λ (u : Books × Bool). IsShown (k + 1) u.0 (with_session s)) n (refl, refl, refl, begin_self s.entries, omega arith))
      (get_push rows k (with_session s, false) r e);
  taken = λ j r e. t.taken j r e;
  as_many = length_push rows (with_session s, false) ∙ ap (λ n. n + 1) t.as_many;
  few = t.few;
}

-- one more session
pub behind_push : (limit : ℕ) (opening : List Row) (s s' x : Books) (rows rows' : List (Books × Bool)) → AreBehind limit opening s rows → published_of opening s ≡ published_of opening s' → IsWhole limit opening s' → x ≡ s' → rows' ≡ rows ++ (x, false) ∷ [] → AreBehind limit opening s' rows'
behind_push limit opening s s' x rows rows' behind same whole new are j r e = ⊎_elim
    (λ at. (subst (λ (us : List Update). IsPrefix (published_of opening r.0) us) same (behind j r at).0, (behind j r at).1))
    (λ is. subst (λ (u : Books × Bool). IsPrefix (published_of opening u.0) (published_of opening s') × IsWhole limit opening u.0) is (prefix_same (published_of opening x) (published_of opening s') (ap (published_of opening) new), subst (IsWhole limit opening) (sym new) whole))
    (get_push rows j (x, false) r (sym (ap (λ (l : List (Books × Bool)). slice_get l j) are) ∙ e))

take_grows : {A : Type 0} (n m : ℕ) (xs : List A) → n ≤ m → IsPrefix (take n xs) (take m xs)
take_grows zero m [] le = (take m [], refl)
take_grows zero m (x ∷ xs) le = (take m (x ∷ xs), refl)
take_grows (suc n) zero xs le = absurd (omega (arith, le))
take_grows (suc n) (suc m) [] le = ([], refl)
take_grows (suc n) (suc m) (x ∷ xs) le =
    let r = take_grows n m xs (omega (arith, le)) in (r.0, ap (λ ys. x ∷ ys) r.1)

-- a beginning of a list, without so many first items, begins the list without them
pub drop_grows : {A : Type 0} (m : ℕ) (xs ys : List A) → IsPrefix xs ys → IsPrefix (drop m xs) (drop m ys)
drop_grows zero xs ys p = p
drop_grows (suc m) [] ys p = (drop (suc m) ys, refl)
drop_grows (suc m) (x ∷ xs) [] p = absurd (cc (p.1))
drop_grows (suc m) (x ∷ xs) (y ∷ ys) p = drop_grows m xs ys (p.0, cc (p.1))

-- more of the updates are published
pub published_grows : (opening : List Row) (b : Books) (n : ℕ) → b.published ≤ n → IsPrefix (published_of opening b) (published_of opening (record b { published = n }))
published_grows opening b n le = drop_grows (length opening) (take b.published (updates b)) (take n (updates b)) (take_grows b.published n (updates b) le)

-- ---- receipts

-- a call that gives the receipt of what is published, or else leaves the one that was given
pub held_after : {A E : Type 0} (told : Result A E) (r r' : List (List Update)) (p p' : List Update) → IsPrefix (updates_in r) p → IsPrefix p p' → OnOk told (updates_in r' ≡ p') → OnErr told (r' ≡ r) → IsPrefix (updates_in r') p'
held_after (Ok a) r r' p p' had grows ok err = prefix_same (updates_in r') p' ok
held_after (Err e) r r' p p' had grows ok err = subst (λ (l : List (List Update)). IsPrefix (updates_in l) p') (sym err) (prefix_trans (updates_in r) p p' had grows)

-- the receipt that is given begins with the one before, batch by batch: it has no fewer updates
pub begins_longer : (b : Bool) (old new : List (List Update)) (p p' : List Update) → BeginsOr b old new → IsPrefix (updates_in old) p → IsPrefix p p' → updates_in new ≡ p' → IsPrefix old new
begins_longer true old new p p' begins had grows is = begins
begins_longer false old new p p' fewer had grows is =
    let short = prefix_length (updates_in old) p had in
    let long = prefix_length p p' grows in
    let same : length (updates_in new) ≡ length p' = ap (λ (us : List Update). length us) is in
    absurd (omega (arith, short, long, same, fewer.1))

-- ---- viewers

-- the rows that updates leave of the opening rows are those of the list that begins with these
pub rows_join : (opening : List Row) (us : List Update) → rows_after opening us ≡ rows_of (opened opening ++ us)
rows_join opening us = sym (fold-append rows_then [] (opened opening) us ∙ ap (λ (rs : List Row). fold rows_then rs us) (rows_of_opened opening))
