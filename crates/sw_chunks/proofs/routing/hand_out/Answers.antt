use Rattle.sw_chunks.proofs.Rooms.{may-spare, sent-spare}
use Rattle.sw_chunks.proofs.routing.hand_out.Goals as goal

pub hand_all-requires-clause-may : goal.hand_all-requires-clause-may
hand_all-requires-clause-may g c = λ κs far.
    may-spare c.args.places.now c.args.updates.now c.args.areas.now c.room_in_all.new.areas c.room_in_all.ensures.same c.requires.may

pub returns-clause-sent : goal.returns-clause-sent
returns-clause-sent g c =
    sent-spare c.args.places.now c.args.updates.now c.args.areas.now c.room_in_all.new.areas c.hand_all.new.areas c.room_in_all.ensures.same c.hand_all.ensures.sent
