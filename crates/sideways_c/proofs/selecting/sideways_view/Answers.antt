use Rattle.std.proofs.Common.{rules, ◌≡◌, false}
use Rattle.std.specs.Prelude.{is_some}
use Rattle.sideways_c.specs.Handles.{shown}
use Rattle.sideways_c.proofs.Selected.{closed_view, none_shown}
use Rattle.sideways_c.proofs.selecting.sideways_view.Goals as goal

pub returns-then-not-h : goal.returns-then-not-h
returns-then-not-h c =
    let closed : is_some c.args.h.now.slot.value ≡ false = search rules in
    closed_view c.args.attributes c.args.ranges (shown c.args.h.now.slot.value) c.args.rows.now (none_shown c.args.h.now.slot.value closed)
