use Rattle.std.proofs.Common.{◌≡◌, ◌<◌, ◌≤◌, ◌+◌, ◌++◌, ℕ, length, take, set, false, refl, sym, ap, ◌∙◌, arith, subst}
use Rattle.sw_spine.specs.Books.{Books, took, untaken, updates}
use Rattle.sw_spine.specs.Receivable.{AreUpdates}
use Rattle.sw_engine.specs.Desk.{DeskState, LatchState, received_by}
use Rattle.sw_engine.proofs.Backlog.{desk_part, lacks, part_taken, part_took, taken_is}
use Rattle.sw_engine.proofs.Ties.{head_below}
use Rattle.sw_engine.proofs.history.desk.Desk.hand_part.Goals as goal

pub untaken_count-requires : goal.untaken_count-requires
untaken_count-requires g c =
    let s = c.self.inside in
    let m = c.head.inside.share in
    head_below s.spine m.value s.sessions.rows s.heads.rows m.number c.head.inside.number c.self.invariant.tied c.agree.ensures.value c.head.invariant.number_is

pub take_some-requires : goal.take_some-requires
take_some-requires g c =
    let s = c.self.inside in
    let m = c.head.inside.share in
    record { head = head_below s.spine m.value s.sessions.rows s.heads.rows m.number c.head.inside.number c.self.invariant.tied c.agree.ensures.value c.head.invariant.number_is }

pub invariant_of-self-2 : goal.invariant_of-self-2
invariant_of-self-2 g c =
    let j = g.J.Naming in
    let s = c.self.inside in
    let m = c.head.inside.share in
    let alike = c.agree.ensures.same in
    let rows : c.set.new.self.rows ≡ set s.heads.rows m.number (c.of.result.value, false) = c.set.ensures.rows ∙ (λ i. set (alike.0 i).rows (alike.1 i).number (c.of.result.value, false)) in
    desk_part j.sessions j.heads j.columns j.opening j.limit j.most s.spine c.take_some.new.self s.many s.most s.sessions s.heads c.set.new.self m.number c.head.inside.number c.args.most c.of.result.value c.self.invariant
    c.in_ok-take_some.ensures.taken c.take_some.ensures.heads c.head.invariant.number_is (c.set.ensures.name.0 ∙ ap (λ b. b.name) alike.0) rows c.of.ensures

pub invariant_of-head-2 : goal.invariant_of-head-2
invariant_of-head-2 g c =
    let j = g.J.Naming in
    let s = c.self.inside in
    let h = c.head.inside in
    let m = h.share in
    let x = c.take_some.new.self in
    let alike = c.agree.ensures.same in
    let had = received_by j.opening h.head in
    let is : had ++ h.inbox.items ≡ took h.number s.spine = taken_is s.spine m.value s.sessions.rows s.heads.rows m.number h.number (had ++ h.inbox.items) c.self.invariant.tied c.agree.ensures.value c.head.invariant.number_is c.head.invariant.taken in
    let all : had ++ c.take_some.new.inbox.items ≡ took h.number x = part_took s.spine x h.number c.args.most had h.inbox.items c.take_some.new.inbox.items is c.in_ok-take_some.ensures.inbox c.in_ok-take_some.ensures.took in
    let limit : x.limit ≡ j.limit = ap (λ (b : Books). b.limit) c.in_ok-take_some.ensures.taken ∙ c.self.invariant.of.limit_is in record {
      named = c.set.ensures.name.1 ∙ ap (λ b. b.name) alike.1 ∙ c.head.invariant.named;
      number_is = c.set.ensures.number ∙ ap (λ b. b.number) alike.1 ∙ c.head.invariant.number_is;
      taken = all ∙ ap (took h.number) (sym (c.set.ensures.value ∙ c.of.ensures));
      most = c.head.invariant.most;
      may_come = subst (λ (l : ℕ). AreUpdates l (had ++ c.take_some.new.inbox.items)) limit (subst (AreUpdates x.limit) (sym all) c.take_some.ensures.may_come);
      place = c.head.invariant.place;
      attribute = c.head.invariant.attribute;
      few = c.head.invariant.few;
      receipted = tt;
    }

pub returns-then-untaken_count-most-clause-part : goal.returns-then-untaken_count-most-clause-part
returns-then-untaken_count-most-clause-part g c =
    let j = g.J.Naming in
    let s = c.self.inside in
    let h = c.head.inside in
    let m = h.share in
    let had = received_by j.opening h.head ++ h.inbox.items in
    let is : had ≡ took h.number s.spine = taken_is s.spine m.value s.sessions.rows s.heads.rows m.number h.number had c.self.invariant.tied c.agree.ensures.value c.head.invariant.number_is c.head.invariant.taken in
    let all : length (updates s.spine) ≡ length had + length (untaken h.number s.spine) = lacks s.spine h.number had is in
    let many = c.untaken_count.ensures in
    let le = c.if-untaken_count-most.true in
    let few : length (updates s.spine) ≤ length had + c.args.most = omega (arith, all, many, le) in
    subst (λ (d : DeskState). (length (updates d.books) ≤ length c.args.head.now.taken + c.args.most) × (had ≡ c.args.head.now.taken)) c.self.view_is
    (subst (λ (l : LatchState). (length (updates s.spine) ≤ length l.taken + c.args.most) × (had ≡ l.taken)) c.head.view_is (few, refl))

pub returns-clause-part : goal.returns-clause-part
returns-clause-part g c =
    let j = g.J.Naming in
    let s = c.self.inside in
    let h = c.head.inside in
    let m = h.share in
    let had = received_by j.opening h.head in
    let is : had ++ h.inbox.items ≡ took h.number s.spine = taken_is s.spine m.value s.sessions.rows s.heads.rows m.number h.number (had ++ h.inbox.items) c.self.invariant.tied c.agree.ensures.value c.head.invariant.number_is c.head.invariant.taken in
    let all : length (updates s.spine) ≡ length (had ++ h.inbox.items) + length (untaken h.number s.spine) = lacks s.spine h.number (had ++ h.inbox.items) is in
    let many = c.untaken_count.ensures in
    let gt = c.if-untaken_count-most.false in
    let more : length (had ++ h.inbox.items) + c.args.most < length (updates s.spine) = omega (arith, all, many, gt) in
    let new = had ++ c.take_some.new.inbox.items in
    let next : new ≡ take (length (had ++ h.inbox.items) + c.args.most) (updates s.spine) = part_taken s.spine h.number c.args.most had h.inbox.items c.take_some.new.inbox.items is c.in_ok-take_some.ensures.inbox in
    subst (λ (d : DeskState). (length c.args.head.now.taken + c.args.most < length (updates d.books)) × (new ≡ take (length c.args.head.now.taken + c.args.most) (updates d.books))) c.self.view_is
    (subst (λ (l : LatchState). (length l.taken + c.args.most < length (updates s.spine)) × (new ≡ take (length l.taken + c.args.most) (updates s.spine))) c.head.view_is (more, next))
