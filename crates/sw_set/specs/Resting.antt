-- When an area is ready for a query as it stands, so that it is answered and nothing changes.
use Rattle.std.specs.Prelude.{◌≡◌, true, [], Option, MatchOption}
use Rattle.sw_query.specs.declared.query.Query.{Query}
use Rattle.sw_set.specs.Needs.{needed}
use Rattle.sw_set.specs.Prepared.{StandReady, area_lower, area_upper, stand_both}
use Rattle.sw_set.specs.Shelf.{AreaState}

-- Nothing waits, the bounds of the query stand in ranges of the tape, and each map that it needs stands at the tape's end.
pub record IsAtRest (q : Query) (x : AreaState) : Type 0 where
  pub received : x.inbox ≡ []
  pub ranged : stand_both (area_lower x q) (area_upper x q) x.tape ≡ true
  pub mapped : StandReady (needed x.attribute q) x.tape x.boxes

-- something is told just where this holds
abbrev pub IsToldWhere : {A : Type 0} → Type 0 → Option A → Type 0
IsToldWhere P told = MatchOption told (¬ P) (λ _. P)
