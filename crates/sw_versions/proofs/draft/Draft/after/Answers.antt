use Rattle.sw_table.specs.Live.{live_rows}
use Rattle.sw_versions.specs.Rules.{updates_in}
use Rattle.sw_versions.proofs.Drafts.{draft_all, draft_rest}
use Rattle.sw_versions.proofs.draft.Draft.after.Goals as goal

pub returns-clause-first : goal.returns-clause-first
returns-clause-first g c =
    let s = c.self.inside in
    rw (c.in_ok-make_all.ensures, c.requires, draft_rest (updates_in c.args.list.now) s.made)
    (draft_all g.J.Naming.opening (live_rows s.first) s.list c.args.list.now s.made c.if-not-begins.ensures c.self.invariant.within c.self.invariant.first)

pub returns-clause-second : goal.returns-clause-second
returns-clause-second g c =
    let s = c.self.inside in
    rw (c.in_ok-make_all-2.ensures, c.requires, draft_rest (updates_in c.args.list.now) s.made)
    (draft_all g.J.Naming.opening (live_rows s.second) s.list c.args.list.now s.made c.if-not-begins.ensures c.self.invariant.within c.self.invariant.second)
