use Rattle.sw_solo.specs.Seats.{AreNewSeats}
use Rattle.sw_solo.proofs.solo.all_seats.Given as goal

abbrev pub invariant-loop-place : goal.invariant-loop-place
invariant-loop-place g l = AreNewSeats l.taken l.place l.seats.items
