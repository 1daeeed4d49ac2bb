use Rattle.sw_table.specs.Live.{live_rows}
use Rattle.sw_versions.specs.Rules.{updates_in}
use Rattle.sw_versions.proofs.Drafts.{draft_rest, draft_taken}
use Rattle.sw_versions.proofs.draft.Draft.take_next.Goals as goal

pub invariant_of-self : goal.invariant_of-self
invariant_of-self g c =
    let s = c.self.inside in
    rw (c.again.ensures, c.in_ok-next.ensures.items, c.requires, draft_rest (updates_in c.args.list.now) s.made)
    (draft_taken g.J.Naming.opening (live_rows s.first) (live_rows s.second) s.list c.args.list.now s.made c.args.most s.next.items c.if-not-begins.ensures c.self.invariant)
