-- Tables that get the updates of a list in parts.
use Rattle.std.proofs.Common.{◌≡◌, ◌∙◌, ℕ, ◌≤◌, ◌+◌, ◌-◌, List, [], ◌∷◌, ◌++◌, length, take, drop, refl, ap, sym, arith, append_assoc, length-append}
use Rattle.std.proofs.lemmas.List.{append-nil, length-drop, length-take-le, take-append-drop, take-append-le}
use Rattle.std.proofs.lemmas.List.Sums.{fold-append}
use Rattle.std.proofs.Math.Seq.{take-length}
use mathlib.Core.List.{IsPrefix}
use Rattle.sw_table.specs.Updates.{rows_then}
use Rattle.sw_table.specs.declared.row.Row.{Row}
use Rattle.sw_table.specs.declared.row.Update.{Update}
use Rattle.sw_versions.specs.Lists.{AreDrafted, rows_after}
use Rattle.sw_versions.specs.Rules.{updates_in}
use Rattle.sw_versions.proofs.Batches.{all_begins}
use Rattle.sw_versions.proofs.Prefixes.{prefix_length, prefix_taken}

-- the opening rows, before any update
pub draft_new : (opening first second : List Row) (us : List Update) → first ≡ opening → second ≡ opening → AreDrafted opening first second us 0 []
draft_new opening first second [] f s = record { first = f; second = s; within = omega arith; next = ([], refl) }
draft_new opening first second (u ∷ us) f s = record { first = f; second = s; within = omega arith; next = (u ∷ us, refl) }

-- a longer list has as many updates at least
pub draft_within : (xs ys : List (List Update)) (n : ℕ) → IsPrefix xs ys → n ≤ length (updates_in xs) → n ≤ length (updates_in ys)
draft_within xs ys n p le = omega (arith, le, prefix_length (updates_in xs) (updates_in ys) (all_begins xs ys p))

-- and the same ones at its beginning
pub draft_same : (xs ys : List (List Update)) (n : ℕ) → IsPrefix xs ys → n ≤ length (updates_in xs) → take n (updates_in ys) ≡ take n (updates_in xs)
draft_same xs ys n p le =
    let q = all_begins xs ys p in
    ap (take n) (sym q.1) ∙ take-append-le n (updates_in xs) q.0 le

-- the next ones of a list begin what is left of it
pub draft_next : (us : List Update) (n m : ℕ) → IsPrefix (take n us ++ take m (drop n us)) us
draft_next us n m = (
  drop m (drop n us),
  append_assoc (take n us) (take m (drop n us)) (drop m (drop n us))
      ∙ (ap (λ l. take n us ++ l) (take-append-drop m (drop n us)) ∙ take-append-drop n us),
)

-- so the next ones may be taken
pub draft_taken : (opening first second : List Row) (xs ys : List (List Update)) (n m : ℕ) (old : List Update) → IsPrefix xs ys
    → AreDrafted opening first second (updates_in xs) n old
    → AreDrafted opening first second (updates_in ys) n (take m (drop n (updates_in ys)))
draft_taken opening first second xs ys n m old p d =
    let same = draft_same xs ys n p d.within in
    record {
      first = d.first ∙ ap (rows_after opening) (sym same);
      second = d.second ∙ ap (rows_after opening) (sym same);
      within = draft_within xs ys n p d.within;
      next = draft_next (updates_in ys) n m;
    }

-- what is left is all that comes after
pub draft_rest : (us : List Update) (n : ℕ) → take (length us - n) (drop n us) ≡ drop n us
draft_rest us n = ap (λ k. take k (drop n us)) (sym (length-drop n us)) ∙ take-length (drop n us)

-- with what was taken there are no more than the list has
pub draft_room : (us next : List Update) (n : ℕ) → n ≤ length us → IsPrefix (take n us ++ next) us → n + length next ≤ length us
draft_room us next n le p =
    omega (arith, le, prefix_length (take n us ++ next) us p, length-append (take n us) next, length-take-le n us le)

-- what was taken, once it is made
pub draft_rows : (opening rows : List Row) (us next : List Update) (n : ℕ) → rows ≡ rows_after opening (take n us) → n ≤ length us
    → IsPrefix (take n us ++ next) us → rows_after rows next ≡ rows_after opening (take (n + length next) us)
draft_rows opening rows us next n is le p =
    let many : length (take n us ++ next) ≡ n + length next = omega (arith, le, length-append (take n us) next, length-take-le n us le) in
    ap (λ r. rows_after r next) is
    ∙ (sym (fold-append rows_then opening (take n us) next)
    ∙ ap (rows_after opening) (sym (prefix_taken (take n us ++ next) us p) ∙ ap (λ k. take k us) many))

-- then nothing is taken
pub draft_made : (opening first second : List Row) (us next : List Update) (n : ℕ) → AreDrafted opening first second us n next
    → AreDrafted opening (rows_after first next) (rows_after second next) us (n + length next) []
draft_made opening first second us next n d =
    record {
      first = draft_rows opening first us next n d.first d.within d.next;
      second = draft_rows opening second us next n d.second d.within d.next;
      within = draft_room us next n d.within d.next;
      next = (
        drop (n + length next) us,
        ap (λ l. l ++ drop (n + length next) us) (append-nil (take (n + length next) us)) ∙ take-append-drop (n + length next) us,
      );
    }

-- all updates of a list, once those are made that a beginning of it left
pub draft_all : (opening rows : List Row) (xs ys : List (List Update)) (n : ℕ) → IsPrefix xs ys → n ≤ length (updates_in xs)
    → rows ≡ rows_after opening (take n (updates_in xs))
    → rows_after rows (drop n (updates_in ys)) ≡ rows_after opening (updates_in ys)
draft_all opening rows xs ys n p le is =
    ap (λ r. rows_after r (drop n (updates_in ys))) (is ∙ ap (rows_after opening) (sym (draft_same xs ys n p le)))
    ∙ (sym (fold-append rows_then opening (take n (updates_in ys)) (drop n (updates_in ys)))
    ∙ ap (rows_after opening) (take-append-drop n (updates_in ys)))
