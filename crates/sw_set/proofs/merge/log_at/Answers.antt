use Rattle.sw_set.proofs.Merging.Restarts.{removal-logged}
use Rattle.sw_set.proofs.merge.log_at.Goals as goal

pub returns-clause-ends : goal.returns-clause-ends
returns-clause-ends g c = (removal-logged _ _ _ c.args.at _ _ c.place_of-place.ensures.within c.place_of-place.ensures.own c.requires.within c.requires.ready c.log_removal.ensures).1
