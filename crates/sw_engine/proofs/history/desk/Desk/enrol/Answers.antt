use Rattle.std.proofs.Common.{◌≡◌, ◌+◌, length, false, sym, subst, ap, ◌∙◌, arith}
use Rattle.sw_spine.specs.Books.{Books, with_session}
use Rattle.sw_engine.specs.Published.{IsWhole, published_of}
use Rattle.sw_engine.proofs.Owned.{new_absent}
use Rattle.sw_engine.proofs.Published.{behind_push, enrol_tied}
use Rattle.sw_engine.proofs.Ties.{is_of_same, length_push}
use Rattle.sw_engine.proofs.Whole.{ends_session, whole_after}
use Rattle.sw_engine.proofs.history.desk.Desk.enrol.Goals as goal

pub invariant_of-self-2 : goal.invariant_of-self-2
invariant_of-self-2 g c =
    let s = c.self.inside in
    let x = c.open_session.new.self in
    let is : x ≡ with_session s.spine = c.in_ok-number.ensures.opened.2 in
    let ends = ends_session g.J.Naming.limit g.J.Naming.opening s.spine x is c.self.invariant.ends in
    let rows = c.open-share.ensures.rows in record {
      sessions_named = c.open-share.ensures.name.0 ∙ c.self.invariant.sessions_named;
      heads_named = c.self.invariant.heads_named;
      many_are = ap (λ n. n + 1) c.self.invariant.many_are ∙ sym (ap length rows ∙ length_push s.sessions.rows (c.of.result.value, false));
      of = is_of_same g.J.Naming.columns g.J.Naming.opening g.J.Naming.limit s.spine x c.self.invariant.of (ap (λ (b : Books). b.columns) is) (ap (λ (b : Books). b.rows) is) (ap (λ (b : Books). b.limit) is);
      tied = enrol_tied s.spine x c.of.result.value s.sessions.rows c.open-share.new.self.rows s.heads.rows c.self.invariant.tied is c.of.ensures rows;
      behind = behind_push g.J.Naming.limit g.J.Naming.opening s.spine x c.of.result.value s.sessions.rows c.open-share.new.self.rows c.self.invariant.behind (sym (ap (published_of g.J.Naming.opening) is)) (whole_after g.J.Naming.columns g.J.Naming.opening g.J.Naming.limit s.spine x c.self.invariant.of (ap (λ (b : Books). b.columns) is) (ap (λ (b : Books). b.rows) is) (ap (λ (b : Books). b.limit) is) ends) c.of.ensures rows;
      ends = ends;
      most_is = c.self.invariant.most_is;
      few = c.self.invariant.few;
      within = let many : x.sessions ≡ s.spine.sessions + 1 = ap (λ (b : Books). b.sessions) is in let room = c.if-many-most.false in let i = c.self.invariant in omega (arith, many, room, i.most_is, i.many_are, i.tied.as_many);
    }

pub returns-clause-whole : goal.returns-clause-whole
returns-clause-whole g c =
    let s = c.self.inside in
    let x = c.open_session.new.self in
    let is : x ≡ with_session s.spine = c.in_ok-number.ensures.opened.2 in
    let ends = ends_session g.J.Naming.limit g.J.Naming.opening s.spine x is c.self.invariant.ends in
    subst (IsWhole g.J.Naming.limit g.J.Naming.opening) (sym (c.open-share.ensures.share.1 ∙ c.of.ensures)) (whole_after g.J.Naming.columns g.J.Naming.opening g.J.Naming.limit s.spine x c.self.invariant.of (ap (λ (b : Books). b.columns) is) (ap (λ (b : Books). b.rows) is) (ap (λ (b : Books). b.limit) is) ends)

pub returns-clause-share : goal.returns-clause-share
returns-clause-share g c =
    let s = c.self.inside in
    let x = c.open_session.new.self in
    let n = c.in_ok-number.number in
    let opens = c.in_ok-number.ensures.opened in
    let many : x.sessions ≡ s.spine.sessions + 1 = ap (λ (b : Books). b.sessions) opens.2 in
    let place : n ≡ c.open-share.result.number + 1 = let a = opens.0 in let r = c.open-share.ensures.share.0 in let l = c.self.invariant.tied.as_many in omega (arith, a, many, r, l) in (
      opens.0,
      c.open-share.ensures.name.1 ∙ c.self.invariant.sessions_named,
      place,
      c.open-share.ensures.share.1 ∙ c.of.ensures,
      c.in_ok-number.ensures.begun.1,
      new_absent s.spine x n opens c.entries-entries.ensures.known,
    )
