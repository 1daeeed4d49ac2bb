use Rattle.std.proofs.Common.{rules, ◌≡◌, ◌<◌, ◌∙◌, length, sym, subst, arith}
use Rattle.sw_query.specs.Scan.{AsksBelow}
use Rattle.sw_solo.specs.Called.{SoloState}
use Rattle.sw_solo.specs.Seats.{IsSeated}
use Rattle.sw_solo.proofs.Served.{asks_eight, seat_here, seat_own}
use Rattle.sw_solo.proofs.solo.Solo.ask.Goals as goal

pub of-requires : goal.of-requires
of-requires g c =
    let columns = c.self.inside.spine.columns in
    let asks : AsksBelow (length columns) c.args.query.now = subst (λ (v : SoloState). AsksBelow (length v.history.columns) c.args.query.now) (sym c.self.view_is) c.requires in
    let below : c.place_of-place.result < length columns = c.place_of-place.ensures.below (length columns) c.known.ensures.some asks in
    let lists : length c.self.inside.cuts ≡ length columns = c.self.invariant.2.lists in
    omega (arith, below, lists)

pub index_mut-requires : goal.index_mut-requires
index_mut-requires g c =
    let columns = c.self.inside.spine.columns in
    let asks : AsksBelow (length columns) c.args.query.now = subst (λ (v : SoloState). AsksBelow (length v.history.columns) c.args.query.now) (sym c.self.view_is) c.requires in
    let below : c.place_of-place.result < length columns = c.place_of-place.ensures.below (length columns) c.known.ensures.some asks in
    let many : length c.self.inside.seats.items ≡ length columns = c.self.invariant.1.many in
    let len : c.self.inside.seats.len ≡ length c.self.inside.seats.items = search rules in
    omega (arith, below, many, len)

pub serve-requires-clause-seated : goal.serve-requires-clause-seated
serve-requires-clause-seated g c κs within =
    let columns = c.self.inside.spine.columns in
    let asks : AsksBelow (length columns) c.args.query.now = subst (λ (v : SoloState). AsksBelow (length v.history.columns) c.args.query.now) (sym c.self.view_is) c.requires in
    let below : c.place_of-place.result < length columns = c.place_of-place.ensures.below (length columns) c.known.ensures.some asks in
    let many : length c.self.inside.seats.items ≡ length columns = c.self.invariant.1.many in
    seat_own _ _ _ (seat_here c.self.inside.spine c.self.inside.seats.items c.place_of-place.result c.index_mut.result.now c.self.invariant.1 (omega (arith, below, many)) c.index_mut.ensures.value)

pub serve-requires-clause-asks : goal.serve-requires-clause-asks
serve-requires-clause-asks g c κs within =
    asks_eight (length c.self.inside.spine.columns) c.args.query.now c.known.ensures.sound.few (subst (λ (v : SoloState). AsksBelow (length v.history.columns) c.args.query.now) (sym c.self.view_is) c.requires)

pub serve-requires-clause-head : goal.serve-requires-clause-head
serve-requires-clause-head g c κs within =
    let columns = c.self.inside.spine.columns in
    let asks : AsksBelow (length columns) c.args.query.now = subst (λ (v : SoloState). AsksBelow (length v.history.columns) c.args.query.now) (sym c.self.view_is) c.requires in
    let below : c.place_of-place.result < length columns = c.place_of-place.ensures.below (length columns) c.known.ensures.some asks in
    let many : length c.self.inside.seats.items ≡ length columns = c.self.invariant.1.many in
    let here : IsSeated c.self.inside.spine c.place_of-place.result c.index_mut.result.now = seat_here c.self.inside.spine c.self.inside.seats.items c.place_of-place.result c.index_mut.result.now c.self.invariant.1 (omega (arith, below, many)) c.index_mut.ensures.value in
    sym c.place_of-place.ensures.is ∙ sym here.place_is
