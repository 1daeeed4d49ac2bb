use Rattle.std.proofs.Common.{◌≡◌, ◌-◌, ◌<◌, ◌≤◌, ◌^◌, ℕ, List, length, true, nat_lt, arith, sym, ◌∙◌, subst}
use Rattle.std.proofs.lemmas.Bool.Decides.{nat_tests}
use Rattle.sw_table.specs.declared.row.Row.{Row}
use Rattle.sw_tape.specs.declared.entry.Entry.{Entry}
use Rattle.sw_tape.specs.Entries.{step_of}
use Rattle.sw_map.specs.Held.{Held, pairs_in}
use Rattle.test_maps.specs.Steps.{CanReplay}
use Rattle.test_maps.proofs.Fitting.{IsFit, can-insert, can-load, can-range, can-remove}
use Rattle.test_maps.proofs.replaying.can_replay.Goals as goal

less : (a b : ℕ) → nat_lt a b ≡ true → a < b
less a b h = grind (arith, nat_tests)

pub returns-else-len-cells-2 : goal.returns-else-len-cells-2
returns-else-len-cells-2 g c =
    let m : Held = g.M.CrackerMap.held c.args.map.now in
    let early : m.cursor < 4096 = omega (arith, c.cursor.ensures, c.if-cursor-ge-MAX_ENTRIES.false) in
    let room : pairs_in m ≤ m.cells = omega (arith, c.len-len.ensures, c.cells-cells.ensures, c.if-len-cells.false) in
    let fit : IsFit m = record { begun = sym c.is_blank.ensures ∙ c.if-is_blank.false; early = early; room = room } in
    let rows : List Row = c.in-Load.rows.items in
    let first : m.cursor ≡ 0 = omega (arith, c.cursor-in-Load.ensures, c.if-cursor-gt0.false) in
    let fits : length rows ≤ m.cells - pairs_in m = omega (arith, c.len.ensures.many, c.if-len-cells-2.false, c.len-len.ensures, c.cells-cells.ensures) in
    λ t. subst (λ (e : Entry). CanReplay (step_of e) m) (sym c.in-Load.is) (can-load m rows fit first fits (c.keys_fit.ensures t))

pub returns-else-row : goal.returns-else-row
returns-else-row g c =
    let m : Held = g.M.CrackerMap.held c.args.map.now in
    let early : m.cursor < 4096 = omega (arith, c.cursor.ensures, c.if-cursor-ge-MAX_ENTRIES.false) in
    let room : pairs_in m ≤ m.cells = omega (arith, c.len-len.ensures, c.cells-cells.ensures, c.if-len-cells.false) in
    let fit : IsFit m = record { begun = sym c.is_blank.ensures ∙ c.if-is_blank.false; early = early; room = room } in
    λ t. let lt = less c.len-len.result c.cells-cells.result t in
    let more : pairs_in m < m.cells = omega (arith, lt, c.len-len.ensures, c.cells-cells.ensures) in
    let key : c.in-Insert.row.key < 2 ^ 63 = omega (arith, c.if-row.false) in
    subst (λ (e : Entry). CanReplay (step_of e) m) (sym c.in-Insert.is) (can-insert m c.in-Insert.row fit more key)

pub returns-in-Remove : goal.returns-in-Remove
returns-in-Remove g c =
    let m : Held = g.M.CrackerMap.held c.args.map.now in
    let early : m.cursor < 4096 = omega (arith, c.cursor.ensures, c.if-cursor-ge-MAX_ENTRIES.false) in
    let room : pairs_in m ≤ m.cells = omega (arith, c.len-len.ensures, c.cells-cells.ensures, c.if-len-cells.false) in
    let fit : IsFit m = record { begun = sym c.is_blank.ensures ∙ c.if-is_blank.false; early = early; room = room } in
    λ t. let lt = less c.in-Remove.place c.len-in-Remove.result t in
    let within : c.in-Remove.place < pairs_in m = omega (arith, lt, c.len-in-Remove.ensures) in
    subst (λ (e : Entry). CanReplay (step_of e) m) (sym c.in-Remove.is) (can-remove m c.in-Remove.place fit within)

pub returns-in-Range : goal.returns-in-Range
returns-in-Range g c =
    let m : Held = g.M.CrackerMap.held c.args.map.now in
    let early : m.cursor < 4096 = omega (arith, c.cursor.ensures, c.if-cursor-ge-MAX_ENTRIES.false) in
    let room : pairs_in m ≤ m.cells = omega (arith, c.len-len.ensures, c.cells-cells.ensures, c.if-len-cells.false) in
    let fit : IsFit m = record { begun = sym c.is_blank.ensures ∙ c.if-is_blank.false; early = early; room = room } in
    λ t. subst (λ (e : Entry). CanReplay (step_of e) m) (sym c.in-Range.is) (can-range m c.in-Range.field-0 c.in-Range.field-1 fit)
