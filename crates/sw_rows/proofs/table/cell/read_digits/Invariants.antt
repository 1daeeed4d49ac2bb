use Rattle.std.proofs.Common.{◌≡◌, ◌^◌, ◌<◌, drop}
use Rattle.sw_rows.specs.Cells.{digits_after, fitting}
use Rattle.sw_rows.proofs.table.cell.read_digits.Given as goal

abbrev pub invariant-loop-digit : goal.invariant-loop-digit
invariant-loop-digit l = (l.n < 2 ^ 64) × (fitting (digits_after l.n (drop l.digit-index l.digits)) ≡ fitting (digits_after l.start l.digits))
