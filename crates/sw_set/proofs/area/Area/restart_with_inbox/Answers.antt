use Rattle.std.proofs.Common.{rules}
use Rattle.sw_set.specs.Merged.{IsBegunWithInbox}
use Rattle.sw_set.proofs.Merging.Restarts.{inbox-begun}
use Rattle.sw_set.proofs.area.Area.restart_with_inbox.Goals as goal

pub returns-in-Ok-clause-same : goal.returns-in-Ok-clause-same
returns-in-Ok-clause-same g c = let all : IsBegunWithInbox c.args.self.now c.put_inbox.new.self = search rules in inbox-begun _ _ all
