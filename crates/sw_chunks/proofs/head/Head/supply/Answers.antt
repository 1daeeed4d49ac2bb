use Rattle.std.proofs.Common.{◌≡◌, ◌<◌, MatchResult, get_or, length, slice_set, subst, sym, arith, pos}
use Rattle.sw_query.specs.declared.refusal.Refusal.TheVariants.{NoMemory}
use Rattle.sw_set.specs.Shelf.{AreaState}
use Rattle.sw_chunks.specs.Heads.{HeadState, IsSupplied, told_in}
use Rattle.sw_chunks.specs.Shelved.{IsFewest, IsSameButShelf}
use Rattle.sw_chunks.proofs.Asking.{set-many}
use Rattle.sw_chunks.proofs.Cutting.{one_interval}
use Rattle.sw_chunks.proofs.Receipt.{areas-many}
use Rattle.sw_chunks.proofs.Shelves.{lawful-shelf, shelf-set, supplied, supply-shelf}
use Rattle.sw_chunks.proofs.head.Head.supply.Goals as goal

pub fewest-at-requires-after_bounds : goal.fewest-at-requires-after_bounds
fewest-at-requires-after_bounds g c = λ κs far.
    let w = c.self.invariant.0.areas_of in
    let many : length c.self.inside.areas.items ≡ length _ = areas-many _ _ c.self.inside.areas.items w in
    let some = (one_interval c.self.inside.cuts.items (pos 0) w.rising).0 in
    subst (λ l. 0 < length l) (sym c.as_slice.ensures.value) (let e : 0 < length c.self.inside.areas.items = omega (arith, many, some) in e)

pub invariant_of-self : goal.invariant_of-self
invariant_of-self g c =
    let was : HeadState = record { attribute = c.self.inside.attribute; cuts = c.self.inside.cuts.items; updates = told_in c.self.inside.told.rows; areas = c.self.inside.areas.items } in
    let few : IsFewest c.fewest-at.result c.self.inside.areas.items = subst (IsFewest c.fewest-at.result) c.as_slice.ensures.value c.fewest-at.ensures in
    let x : AreaState = c.index_mut.result.now in let v : AreaState = c.supply.new.self in
    let is : x ≡ get_or c.self.inside.areas.items c.fewest-at.result x = c.index_mut.ensures.value in
    let shelf : IsSameButShelf x v = supply-shelf c.supply.result x v (λ r. r.0 ≡ c.args.it) (λ r. r.1 ≡ NoMemory) c.supply.ensures in (
      lawful-shelf was (slice_set was.areas c.fewest-at.result v) (set-many was.areas c.fewest-at.result v)
          (shelf-set c.fewest-at.result was.areas x v few.within (subst (λ (t : AreaState). IsSameButShelf t v) is shelf)) c.self.invariant.0,
      c.self.invariant.1,
    )

pub returns : goal.returns
returns g c =
    let was : HeadState = record { attribute = c.self.inside.attribute; cuts = c.self.inside.cuts.items; updates = told_in c.self.inside.told.rows; areas = c.self.inside.areas.items } in
    let few : IsFewest c.fewest-at.result c.self.inside.areas.items = subst (IsFewest c.fewest-at.result) c.as_slice.ensures.value c.fewest-at.ensures in
    let x : AreaState = c.index_mut.result.now in let v : AreaState = c.supply.new.self in
    let after : HeadState = record was { areas = slice_set was.areas c.fewest-at.result v } in
    subst (λ (h : HeadState). MatchResult c.supply.result (λ _. IsSupplied h after) (λ r. (after ≡ h) × (r.0 ≡ c.args.it) × (r.1 ≡ NoMemory))) c.self.view_is
    (supplied c.supply.result was c.fewest-at.result x v (λ r. r.0 ≡ c.args.it) (λ r. r.1 ≡ NoMemory) few c.index_mut.ensures.value c.supply.ensures)
