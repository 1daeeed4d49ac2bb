-- A tape's load, taken out and put back, and a tape of one load.
use Rattle.std.proofs.Common.{◌≡◌, ap, refl, ℕ, ◌<◌, List, [], ◌∷◌, length, slice_set, arith, map, ◌^◌}
use Rattle.sw_table.specs.declared.row.Row.{Row}
use Rattle.sw_table.specs.Packed.{Packed}
use Rattle.sw_kernel.specs.Replay.{Step, loaded}
use Rattle.sw_kernel.specs.Tapes.{IsTape}
use Rattle.sw_tape.specs.declared.entry.Entry.{Entry}
use Rattle.sw_tape.specs.declared.entry.Entry.TheVariants.{Load, Insert, Remove, Range}
use Rattle.sw_tape.specs.Entries.{IsKept, step_of}
use Rattle.sw_tape.specs.Restart.{first_rows}

-- the load is taken out and put back
pub put-back : (es : List Entry) (e : Entry) (rows : Packed) → IsTape (map step_of es) → rows.items ≡ first_rows (map step_of es) → map step_of (slice_set (slice_set es 0 e) 0 (Load rows)) ≡ map step_of es
put-back [] e rows t is = absurd t
put-back (Load old ∷ es) e rows t is = ap (λ (l : List Row). loaded l ∷ map step_of es) is
put-back (Insert row ∷ es) e rows t is = absurd t
put-back (Remove place ∷ es) e rows t is = absurd t
put-back (Range lower upper ∷ es) e rows t is = absurd t

-- what a tape of one load keeps
pub kept-loaded : (steps : List (Step Row)) (rows : List Row) (n : ℕ) → steps ≡ loaded rows ∷ [] → n ≡ length rows → n < 2 ^ 63 → IsKept steps [] n n
kept-loaded steps rows n is many few = rw is (record {
  tape = tt;
  short = omega arith;
  rising = tt;
  marked = λ b. refl;
  counted = omega (arith, many);
  highest = omega (arith, many);
  few = omega (arith, few);
})
