use Rattle.std.proofs.Common.{◌∙◌}
use Rattle.sw_table.specs.Live.{live_rows}
use Rattle.sw_versions.specs.Rules.{updates_in}
use Rattle.sw_versions.proofs.Drafts.{draft_new}
use Rattle.sw_versions.proofs.draft.Draft.new.Goals as goal

pub invariant_of-result : goal.invariant_of-result
invariant_of-result g c =
    rw (c.new.ensures.items) (draft_new g.J.Naming.opening (live_rows c.in_ok-first.first) (live_rows c.in_ok-second.second) (updates_in c.args.list)
    (c.in_ok-first.ensures ∙ c.requires.rows)
    (c.in_ok-second.ensures ∙ c.requires.rows))
