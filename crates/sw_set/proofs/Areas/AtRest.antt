-- Boxes whose maps stand at the tape's end.
use Rattle.std.proofs.Common.{◌≡◌, ℕ, ◌+◌, ◌<◌, ◌≤◌, Bool, true, false, true≢false, nat_eq, List, length, get_or, refl, sym, arith, subst, Any, Option, None, Some, is_some}
use Rattle.std.proofs.lemmas.Bool.Decides.{nat_tests}
use Rattle.sw_kernel.specs.Replay.{Step}
use Rattle.sw_table.specs.declared.row.Row.{Row}
use Rattle.sw_map.specs.declared.tail.Tail.{Tail}
use Rattle.sw_map.specs.Held.{Held}
use Rattle.sw_set.specs.Prepared.{IsReady, StandReady}
use Rattle.sw_set.specs.Sought.{FindsUnless}
use Rattle.sw_set.proofs.Areas.Boxes.{get_or_any}
use Rattle.sw_set.proofs.Areas.Views.{any-at}

-- where none was found, none passes
pub found-none : (P : Held → Type 0) (ms : List Held) (found : Option ℕ) → FindsUnless (λ m. P m → ⊥) (λ m. P m) ms found → is_some found ≡ false → Any P ms → ⊥
found-none P ms None w e a = w a.0 a.1 a.2 (subst P (sym a.3) a.4)
found-none P ms (Some at) w e a = absurd (true≢false e)

-- and where one was, one passes
pub found-some : (P : Held → Type 0) (ms : List Held) (found : Option ℕ) → FindsUnless (λ m. P m → ⊥) (λ m. P m) ms found → is_some found ≡ true → Any P ms
found-some P ms None w e = absurd (true≢false (sym e))
found-some P ms (Some at) w e = any-at ms at P w.0 w.1

-- of each of the tails before a place a map stands at the end
abbrev pub StandBefore : List (Step Row) → List Held → List Tail → ℕ → Type 0
StandBefore tape ms tails at = (k : ℕ) (d : Tail) → k < at → k < length tails → Any (IsReady (get_or tails k d) tape) ms

module _ (tape : List (Step Row)) (ms : List Held) (tails : List Tail) where
  same-place : (k at : ℕ) → nat_eq k at ≡ true → k ≡ at
  same-place k at q = grind (arith, nat_tests, q)

  lower-place : (k at : ℕ) → nat_eq k at ≡ false → k < at + 1 → k < at
  lower-place k at q lt = grind (arith, nat_tests, q, lt)

  -- where a map of the tail at the place too stands at the end, the tails before the next place have theirs
  pub stand-next : (at : ℕ) (t : Tail) → StandBefore tape ms tails at → at < length tails → Any (IsReady (get_or tails at t) tape) ms → StandBefore tape ms tails (at + 1)
  stand-next at t before within here k d lt l = by (nat_eq k at) refl
    where
      by : (b : Bool) → nat_eq k at ≡ b → Any (IsReady (get_or tails k d) tape) ms
      by true q = subst (λ (n : ℕ). Any (IsReady (get_or tails n d) tape) ms) (sym (same-place k at q)) (subst (λ (v : Tail). Any (IsReady v tape) ms) (get_or_any tails at t d within) here)
      by false q = before k d (lower-place k at q lt) l

  -- where the place is behind all tails, each tail has a map that stands at the end
  pub stand-all : (at : ℕ) → StandBefore tape ms tails at → length tails ≤ at → StandReady tails tape ms
  stand-all at before over t among =
      subst (λ (v : Tail). Any (IsReady v tape) ms) among.2 (before among.0 t (let lt = among.1 in omega (arith, over, lt)) among.1)

  -- where no map of the tail at a place stands at the end, not each tail has one that does
  pub stand-not : (at : ℕ) (t : Tail) → at < length tails → (Any (IsReady (get_or tails at t) tape) ms → ⊥) → StandReady tails tape ms → ⊥
  stand-not at t within lacks ready = lacks (ready (get_or tails at t) (at, within, get_or_any tails at (get_or tails at t) t within))
