use Rattle.std.proofs.Common.{◌≡◌, length}
use Rattle.sw_import.specs.Dates.{after_digits}
use Rattle.sw_import.proofs.dates.after_digits.Given as goal

abbrev pub invariant-digits : goal.invariant-digits
invariant-digits l = after_digits l.rest ≡ after_digits l.fn.text

abbrev pub decreases-digits : goal.decreases-digits
decreases-digits l = length l.rest
