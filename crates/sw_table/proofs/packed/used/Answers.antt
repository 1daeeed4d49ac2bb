use Rattle.std.proofs.Common.{◌≡◌, ◌-◌, ◌≤◌, get_or, length, pos, rules, arith}
use Rattle.sw_table.proofs.Widths.{none-less, within-less}
use Rattle.sw_table.proofs.packed.used.Goals as goal

pub loop-used-preserved : goal.loop-used-preserved
loop-used-preserved c =
    let n = c.loop-used.used in let row = c.args.row.now in
    let long : length row.cells ≡ 8 = search rules in
    let some : 1 ≤ n = omega (arith, c.loop-used-test.true) in
    let none : get_or row.cells (n - 1) (pos 0) ≡ pos 0 = grind (arith, c.if-row-used-eq0.true) in
    (omega (arith, c.loop-used-test.true), omega (arith, c.loop-used.invariant.1), within-less n row some c.loop-used.invariant.1 long none c.loop-used.invariant.2)

pub returns-else-row-used-eq0-clause-least : goal.returns-else-row-used-eq0-clause-least
returns-else-row-used-eq0-clause-least c = λ m some is. none-less c.loop-used.used m c.args.row.now c.loop-used.invariant.0 (λ none. grind (arith, c.if-row-used-eq0.false, none)) is
