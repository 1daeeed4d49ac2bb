use Rattle.sw_chunks.proofs.Rooms.{AreRoomy}
use Rattle.sw_chunks.proofs.routing.room_in_all.Given as goal

abbrev pub invariant-loop-k : goal.invariant-loop-k
invariant-loop-k g l = AreRoomy l.k l.places l.initial.areas l.areas
