use Rattle.std.proofs.Common.{rules, ◌≡◌, List, length, subst, sym, ap, ◌∙◌}
use Rattle.sw_set.specs.Shelf.{AreaState}
use Rattle.sw_chunks.specs.Cleared.{AreEach}
use Rattle.sw_chunks.specs.Heads.{HeadState, IsHeadLawful, IsSameButSpare, told_in}
use Rattle.sw_chunks.specs.Places.{owners_kept}
use Rattle.sw_chunks.specs.Routing.{MayFollow, given_by}
use Rattle.sw_chunks.proofs.Coming.{lawful-room, lawful-then, may-go, owners-are, owners-left, owners-rising, places-are, places-within, sent-are}
use Rattle.sw_chunks.proofs.Standing.{whole}
use Rattle.sw_chunks.proofs.head.Head.receive.Goals as goal

pub route_all-done-requires-clause-rise : goal.route_all-done-requires-clause-rise
route_all-done-requires-clause-rise g c κs far =
    let h : HeadState = record { attribute = c.self.inside.attribute; cuts = c.self.inside.cuts.items; updates = told_in c.self.inside.told.rows; areas = c.self.inside.areas.items } in
    let may : MayFollow h.attribute h.updates c.args.updates.now = subst (λ (s : HeadState). MayFollow s.attribute s.updates c.args.updates.now) (sym c.self.view_is) c.requires in
    let owners = c.as_slice-2.ensures.value ∙ owners-are h c.args.updates.now c.as_slice.result.now c.self.inside.owners.items c.add_owners.new.owners.items c.self.invariant.1 c.as_slice.ensures.value c.in_ok-add_owners.ensures.added in
    owners-rising h c.args.updates.now c.as_slice-2.result.now c.self.invariant.0 may owners

pub route_all-done-requires-clause-within : goal.route_all-done-requires-clause-within
route_all-done-requires-clause-within g c κs far =
    let h : HeadState = record { attribute = c.self.inside.attribute; cuts = c.self.inside.cuts.items; updates = told_in c.self.inside.told.rows; areas = c.self.inside.areas.items } in
    let may : MayFollow h.attribute h.updates c.args.updates.now = subst (λ (s : HeadState). MayFollow s.attribute s.updates c.args.updates.now) (sym c.self.view_is) c.requires in
    let owners = c.as_slice-2.ensures.value ∙ owners-are h c.args.updates.now c.as_slice.result.now c.self.inside.owners.items c.add_owners.new.owners.items c.self.invariant.1 c.as_slice.ensures.value c.in_ok-add_owners.ensures.added in
    places-within h c.args.updates.now _ c.as_mut_slice.result.now c.self.invariant.0 may (places-are h c.args.updates.now c.as_slice.result.now c.as_slice-2.result.now c.as_slice.ensures.value owners) c.as_mut_slice.ensures.value

pub route_all-done-requires-clause-may : goal.route_all-done-requires-clause-may
route_all-done-requires-clause-may g c κs far =
    let h : HeadState = record { attribute = c.self.inside.attribute; cuts = c.self.inside.cuts.items; updates = told_in c.self.inside.told.rows; areas = c.self.inside.areas.items } in
    let may : MayFollow h.attribute h.updates c.args.updates.now = subst (λ (s : HeadState). MayFollow s.attribute s.updates c.args.updates.now) (sym c.self.view_is) c.requires in
    let owners = c.as_slice-2.ensures.value ∙ owners-are h c.args.updates.now c.as_slice.result.now c.self.inside.owners.items c.add_owners.new.owners.items c.self.invariant.1 c.as_slice.ensures.value c.in_ok-add_owners.ensures.added in
    may-go h c.args.updates.now _ c.as_mut_slice.result.now c.self.invariant.0 may (places-are h c.args.updates.now c.as_slice.result.now c.as_slice-2.result.now c.as_slice.ensures.value owners) c.as_mut_slice.ensures.value

pub invariant_of-self-in-Ok : goal.invariant_of-self-in-Ok
invariant_of-self-in-Ok g c =
    let h : HeadState = record { attribute = c.self.inside.attribute; cuts = c.self.inside.cuts.items; updates = told_in c.self.inside.told.rows; areas = c.self.inside.areas.items } in
    let may : MayFollow h.attribute h.updates c.args.updates.now = subst (λ (s : HeadState). MayFollow s.attribute s.updates c.args.updates.now) (sym c.self.view_is) c.requires in
    let now = owners-are h c.args.updates.now c.as_slice.result.now c.self.inside.owners.items c.add_owners.new.owners.items c.self.invariant.1 c.as_slice.ensures.value c.in_ok-add_owners.ensures.added in
    let places = places-are h c.args.updates.now c.as_slice.result.now c.as_slice-2.result.now c.as_slice.ensures.value (c.as_slice-2.ensures.value ∙ now) in
    let many : length c.route_all-done.new.areas ≡ length c.self.inside.areas.items = c.route_all-done.ensures.many ∙ ap length c.as_mut_slice.ensures.value in
    let len : c.self.inside.areas.len ≡ length c.self.inside.areas.items = search rules in
    let sent = sent-are h c.args.updates.now _ c.as_mut_slice.result.now c.route_all-done.new.areas places c.as_mut_slice.ensures.value c.in-Ok.ensures.sent in (
      subst (λ (l : List AreaState). IsHeadLawful (record h { updates = told_in c.tell_all.new.told.rows; areas = l })) (sym (whole c.self.inside.areas.len c.route_all-done.new.areas c.self.inside.areas.items len many))
          (lawful-then h c.args.updates.now (told_in c.tell_all.new.told.rows) c.route_all-done.new.areas c.self.invariant.0 may c.tell_all.ensures.fit c.tell_all.ensures.told many sent),
      now ∙ ap (λ l. owners_kept h.attribute h.cuts (given_by l)) (sym c.tell_all.ensures.told),
    )

pub invariant_of-self-in-Err : goal.invariant_of-self-in-Err
invariant_of-self-in-Err g c =
    let h : HeadState = record { attribute = c.self.inside.attribute; cuts = c.self.inside.cuts.items; updates = told_in c.self.inside.told.rows; areas = c.self.inside.areas.items } in
    let each : AreEach IsSameButSpare c.self.inside.areas.items c.route_all-done.new.areas = subst (λ (l : List AreaState). AreEach IsSameButSpare l c.route_all-done.new.areas) c.as_mut_slice.ensures.value c.in-Err.ensures.left in
    let len : c.self.inside.areas.len ≡ length c.self.inside.areas.items = search rules in
    let before : c.len-before.result ≡ length c.self.inside.owners.items = search rules in (
      subst (λ (l : List AreaState). IsHeadLawful (record h { areas = l })) (sym (whole c.self.inside.areas.len c.route_all-done.new.areas c.self.inside.areas.items len each.0))
          (lawful-room h c.route_all-done.new.areas c.self.invariant.0 each),
      owners-left h c.args.updates.now c.as_slice.result.now c.self.inside.owners.items c.add_owners.new.owners.items c.truncate.new.self.items c.len-before.result c.self.invariant.1 c.in_ok-add_owners.ensures.added before c.truncate.ensures.items,
    )
