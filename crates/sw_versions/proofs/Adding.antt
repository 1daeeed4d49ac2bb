-- The exchange that adds updates keeps the rule.
use Rattle.std.proofs.Common.{◌≡◌, ◌∙◌, ℕ, ◌+◌, ◌<◌, ◌≤◌, ◌^◌, ◌==◌, Bool, true, false, List, [], ◌∷◌, ◌++◌, length, refl, ap, sym, subst, arith, inl, length-append, None}
use Rattle.std.proofs.lemmas.List.{append-nil}
use Rattle.std.proofs.lemmas.Bool.Decides.{nat_tests}
use mathlib.Core.List.{IsPrefix}
use prog.Atomic.{either}
use Rattle.logbook.specs.Pages.{Cell, cell, keeps, no_nib, step, Moves, Goes}
use Rattle.sw_table.specs.declared.row.Update.{Update}
use Rattle.sw_versions.specs.Rules.{IsKept, IsShort, AreFilled, Adds, updates_in}
use Rattle.sw_versions.proofs.Batches.{all_added, filled_more, same_many}

-- what those who share the book see of its batches beside the book: nothing
abbrev pub shown : List (List Update) → List (List Update)
shown log = []

-- and nothing is asked of how that changes
abbrev pub moved : List (List Update) → List (List Update) → ℕ → Type 0
moved xs ys n = Unit {0}

-- over these batches the exchange adds the updates to all that was seen, or finds that there are more
pub adds_goes : (log v : List (List Update)) (us : List Update) (old : ℕ) → length (updates_in v) ≡ old → old + length us ≤ 2 ^ 62 → 0 < length us → IsShort (updates_in log) → AreFilled log → IsPrefix v log
    → (b : Bool) → (length (updates_in log) == old) ≡ b
    → Goes IsKept shown moved 0 (v, (no_nib, None)) (λ n. either (n == old) (old + length us) n) (Adds (step 0 old (old + length us) us) (v, (no_nib, None))) ((length (updates_in log), true) ∷ (0, true) ∷ []) log
adds_goes log v us old len room some short filled pre true is =
    let here : length (updates_in log) ≡ old = grind (arith, nat_tests) in
    let same : v ≡ log = same_many v log pre filled (omega (arith, here, len)) in
    let more : length (updates_in (log ++ us ∷ [])) ≡ old + length us = ap length (all_added log us) ∙ omega (arith, length-append (updates_in log) us) in
    let n : either (length (updates_in log) == old) (old + length us) (length (updates_in log)) ≡ length (updates_in (log ++ us ∷ [])) = rw is (sym more) in
    let short' : IsShort (updates_in (log ++ us ∷ [])) = omega (arith, more) in
    let filled' : AreFilled (log ++ us ∷ []) = filled_more log us filled some in (
      keeps,
      us ∷ [],
      None,
      tt,
      record { words = ap (λ (k : ℕ). (k, true) ∷ (0, true) ∷ []) n; short = short'; filled = filled' },
      inl (refl, refl),
      (short', filled', rw is (ap (λ (l : List (List Update)). l ++ us ∷ []) (sym same))),
    )
adds_goes log v us old len room some short filled pre false is =
    let all : log ++ [] ≡ log = append-nil log in
    let n : either (length (updates_in log) == old) (old + length us) (length (updates_in log)) ≡ length (updates_in (log ++ [])) = rw is (ap (λ l. length (updates_in l)) (sym all)) in
    let short' : IsShort (updates_in (log ++ [])) = subst (λ l. IsShort (updates_in l)) (sym all) short in
    let filled' : AreFilled (log ++ []) = subst AreFilled (sym all) filled in (
      keeps,
      [],
      None,
      tt,
      record { words = ap (λ (k : ℕ). (k, true) ∷ (0, true) ∷ []) n; short = short'; filled = filled' },
      inl (refl, refl),
      (short', filled', rw is (ap (λ l. length (updates_in l)) all)),
    )

-- whatever the book is, the exchange adds the updates to all that was seen, or finds that the list is longer
pub adds_moves : (v : List (List Update)) (us : List Update) (old : ℕ) → length (updates_in v) ≡ old → old + length us ≤ 2 ^ 62 → 0 < length us
    → Moves IsKept shown moved 0 (v, (no_nib, None)) (λ n. either (n == old) (old + length us) n) (Adds (step 0 old (old + length us) us) (v, (no_nib, None)))
adds_moves v us old len room some cs log kept pre away =
    let P : List Cell → Type 0 = λ c. (0 < length c) × ((cell c 0).1 ≡ true) × Goes IsKept shown moved 0 (v, (no_nib, None)) (λ n. either (n == old) (old + length us) n) (Adds (step 0 old (old + length us) us) (v, (no_nib, None))) c log in
    subst P (sym kept.words) (omega arith, refl, adds_goes log v us old len room some kept.short kept.filled pre (length (updates_in log) == old) refl)
