use Rattle.std.proofs.Common.{◌+◌, ℕ, drop, ap, sym, ◌∙◌}
use Rattle.sw_set.specs.Aligned.{IsStalled}
use Rattle.sw_set.specs.Inbox.{Waiting}
use Rattle.sw_set.specs.Merged.{IsPartlyMerged, StandsForSame}
use Rattle.sw_set.proofs.Merging.Merges.{partly-merged}
use Rattle.sw_set.proofs.area.Area.merge_in_turn.Goals as goal

stopped : (g : _) (c : goal.After-put_inbox-in-Err g) → IsPartlyMerged (IsStalled g.M.CrackerMap.stalls) c.args.self.now c.put_inbox-in-Err.new.self × StandsForSame c.args.self.now c.put_inbox-in-Err.new.self
stopped g c =
    let rest = c.drop_first.new.self in
    partly-merged c.args.self.now c.take_inbox-waiting.new.self c.merge_each.new.area c.put_inbox-in-Err.new.self c.updates.result.now rest.updates c.in-Err.many rest.spare
    c.take_inbox-waiting.ensures.area (c.updates.ensures ∙ c.take_inbox-waiting.ensures.taken) c.in-Err.ensures c.put_inbox-in-Err.ensures
    (ap (λ (w : Waiting). w.updates) c.drop_first.ensures ∙ ap (drop c.in-Err.many) (sym c.updates.ensures)) (ap (λ (w : Waiting). w.spare) c.drop_first.ensures ∙ ap (λ (n : ℕ). n + c.in-Err.many) c.take_inbox-waiting.ensures.spare)

pub returns-in-Err-clause-same : goal.returns-in-Err-clause-same
returns-in-Err-clause-same g c = (stopped g c).1
