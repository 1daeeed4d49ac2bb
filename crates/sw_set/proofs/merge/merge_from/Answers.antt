use Rattle.sw_table.specs.declared.row.Update.{Update}
use Rattle.sw_table.specs.declared.row.Update.TheVariants.{Insert}
use Rattle.std.proofs.Common.{[], get_or}
use Rattle.sw_set.specs.Aligned.{IsStalled}
use Rattle.sw_set.proofs.Areas.Boxes.{get_or_any}
use Rattle.sw_set.proofs.Merging.Stretches.{goes-begun, goes-one, told-logged, told-not}
use Rattle.sw_set.proofs.merge.merge_from.Goals as goal

pub returns-then-branch-clause-ends : goal.returns-then-branch-clause-ends
returns-then-branch-clause-ends g c =
    let us = c.args.updates.now in
    let at = c.args.at in
    let u : Update = get_or us at (Insert (record { key = 0; cells = [] })) in
    goes-one us at u c.args.area.now c.log_one.new.area c.requires.within (get_or_any _ _ _ _ c.requires.within) c.known.ensures.short c.in_ok-log_one.ensures.shell (told-logged u c.args.area.now c.log_one.new.area c.in_ok-log_one.field-0 c.if-branch.true c.in_ok-log_one.ensures)

pub returns-clause-ends : goal.returns-clause-ends
returns-clause-ends g c =
    let us = c.args.updates.now in
    let at = c.args.at in
    let u : Update = get_or us at (Insert (record { key = 0; cells = [] })) in
    let told = told-not u c.args.area.now c.log_one.new.area c.in_ok-log_one.field-0 c.if-branch.false c.in_ok-log_one.ensures in
    goes-begun (IsStalled g.M.CrackerMap.stalls) c.restart_from.result us at u c.args.area.now c.log_one.new.area c.restart_from.new.area c.requires.within (get_or_any _ _ _ _ c.requires.within) c.known.ensures.short told.0 told.1 c.restart_from.ensures.same c.restart_from.ensures.ends
