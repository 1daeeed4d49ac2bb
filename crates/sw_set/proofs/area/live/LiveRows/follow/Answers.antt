use Rattle.std.proofs.Common.{◌≡◌, ◌∙◌, ◌++◌, ◌∷◌, [], sym, subst, Ok, Err, List, MatchResult, Result}
use Rattle.sw_table.specs.declared.row.Row.{Row}
use Rattle.sw_table.specs.declared.row.Update.{Update}
use Rattle.sw_table.specs.declared.row.Update.TheVariants.{Insert, Remove}
use Rattle.sw_query.specs.declared.refusal.Refusal.{Refusal}
use Rattle.sw_query.specs.declared.refusal.Refusal.TheVariants.{NoMemory}
use Rattle.sw_set.specs.Live.{IsNextStanding, IsStandingOf, Standing}
use Rattle.sw_set.specs.Shelf.{Rises, came_then, key_of}
use Rattle.sw_set.proofs.Areas.LiveStandings.{next-absent, next-pushed, next-removed, pushed}
use Rattle.sw_set.proofs.area.live.LiveRows.follow.Goals as goal
use Rattle.sw_set.proofs.area.live.LiveRows.follow.Goals.{in-Some, in_default}

-- the row is pushed, or memory was refused
pushed-or-not : {U : Type 0} (r : Result U Refusal) (load : List Row) (s t : Standing) (row : Row) → IsStandingOf load s → Rises key_of ((load ++ s.later) ++ row ∷ []) → MatchResult r (λ _. t ≡ pushed s row) (λ e. (t ≡ s) × (e ≡ NoMemory)) → MatchResult r (λ _. IsNextStanding load (Insert row) s t) (λ e. e ≡ NoMemory)
pushed-or-not (Ok u) load s t row w rise is = subst (IsNextStanding load (Insert row) s) (sym is) (next-pushed load s w row rise)
pushed-or-not (Err e) load s t row w rise is = is.1

pub returns-in-Insert : goal.returns-in-Insert
returns-in-Insert c =
    let s = c.args.self.now in
    let rise : Rises key_of ((c.args.load.now.items ++ s.later) ++ c.in-Insert.row ∷ []) = subst (λ (u : Update). Rises key_of (came_then (c.args.load.now.items ++ s.later) u)) c.in-Insert.is c.requires.rise in
    subst (λ (u : Update). MatchResult c.push.result (λ _. IsNextStanding c.args.load.now.items u s c.push.new.self) (λ e. e ≡ NoMemory)) (sym c.in-Insert.is)
    (pushed-or-not c.push.result c.args.load.now.items s c.push.new.self c.in-Insert.row c.requires.standing rise c.push.ensures)

pub returns-after-find : goal.returns-after-find
returns-after-find c =
    let s = c.args.self.now in
    let none : Row = record { key = 0; cells = [] } in
    subst (λ (u : Update). IsNextStanding c.args.load.now.items u s c.match-find.self) (sym c.in-Remove.is)
    (elim c.match-find.branch [
      | in-Some w ↦ subst (IsNextStanding c.args.load.now.items (Remove c.in-Remove.key) s) (sym (w.self-is ∙ w.remove.ensures)) (next-removed c.args.load.now.items s c.requires.standing c.in-Remove.key w.in-Some.place none w.in-Some.ensures.0 (w.in-Some.ensures.1 none))
      | in_default w ↦ subst (IsNextStanding c.args.load.now.items (Remove c.in-Remove.key) s) (sym w.self-is) (next-absent c.args.load.now.items s c.requires.standing c.in-Remove.key w.in_default.ensures)
    ])
