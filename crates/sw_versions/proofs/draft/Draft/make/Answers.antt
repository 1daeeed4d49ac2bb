use Rattle.sw_table.specs.Live.{live_rows}
use Rattle.sw_versions.specs.Rules.{updates_in}
use Rattle.sw_versions.proofs.Drafts.{draft_made}
use Rattle.sw_versions.proofs.draft.Draft.make.Goals as goal

pub invariant_of-result : goal.invariant_of-result
invariant_of-result g c =
    let s = c.self.inside in
    rw (c.new.ensures.items, c.in_ok-make_all.ensures, c.as_slice.ensures.value, c.in_ok-make_all-2.ensures, c.as_slice-2.ensures.value, c.len.ensures, s.next.ok.0)
    (draft_made g.J.Naming.opening (live_rows s.first) (live_rows s.second) (updates_in s.list) s.next.items s.made c.self.invariant)
