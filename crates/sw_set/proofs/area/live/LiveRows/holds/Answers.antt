use Rattle.std.proofs.Common.{◌∙◌, ◌++◌, [], sym, false}
use Rattle.sw_table.specs.declared.row.Row.{Row}
use Rattle.sw_table.proofs.LiveLaws.{kept-has, kept-lacks}
use Rattle.sw_set.proofs.area.live.LiveRows.holds.Goals as goal

pub returns-in-Some : goal.returns-in-Some
returns-in-Some c =
    let none : Row = record { key = 0; cells = [] } in
    let xs = c.args.load.now.items ++ c.args.self.now.later in let at = c.in-Some.ensures in
    c.is_live.ensures false ∙ sym (kept-has c.args.key none c.args.self.now.flags xs c.in-Some.place c.requires.many c.requires.rise at.0 (at.1 none))

pub returns-in-None : goal.returns-in-None
returns-in-None c = sym (kept-lacks c.args.key c.args.self.now.flags (c.args.load.now.items ++ c.args.self.now.later) c.in-None.ensures)
