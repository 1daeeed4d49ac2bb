use Rattle.std.proofs.Common.{rules, ◌≤◌, arith, length}
use Rattle.std.proofs.lemmas.List.{nil_from_length}
use Rattle.sw_set.proofs.area.Area.ready_at_rest.Goals as goal

pub returns-clause-rests : goal.returns-clause-rests
returns-clause-rests g c =
    let none : length c.args.self.now.inbox ≤ 0 = search rules in
    record { received = nil_from_length c.args.self.now.inbox (omega (arith, none)); ranged = search rules; mapped = search rules }
