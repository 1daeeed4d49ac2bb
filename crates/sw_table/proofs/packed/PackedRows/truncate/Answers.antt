use Rattle.std.proofs.Common.{◌≡◌, ◌≤◌, ◌∙◌, ap, sym, List, ℕ, ℤ, length, take, arith}
use Rattle.std.proofs.lemmas.List.{take_all}
use Rattle.std.proofs.lemmas.Nat.{mul-le}
use Rattle.sw_table.specs.declared.row.Row.{Row}
use Rattle.sw_table.specs.Packed.{Packed, rows_in}
use Rattle.sw_table.proofs.Packing.{rows-cut, rows-many}
use Rattle.sw_table.proofs.packed.PackedRows.truncate.Goals as goal

pub returns-then-many-len : goal.returns-then-many-len
returns-then-many-len c =
    let s = c.self.inside in let m = c.args.many in
    let le : m ≤ length s.keys = omega (arith, c.if-many-len.true, c.len.ensures) in
    let rows : rows_in s.width c.truncate.new.self c.truncate-then-many-len.new.self ≡ take m (rows_in s.width s.keys s.cells) =
    ap (λ (ks : List ℕ). rows_in s.width ks c.truncate-then-many-len.new.self) c.truncate.ensures
    ∙ ap (λ (cs : List ℤ). rows_in s.width (take m s.keys) cs) c.truncate-then-many-len.ensures
    ∙ rows-cut s.width m s.keys s.cells c.self.invariant.whole le in
    ap (λ (v : List Row). let p : Packed = record { width = s.width; items = v } in p) rows
    ∙ ap (λ (v : Packed). let p : Packed = record v { items = take m v.items } in p) c.self.view_is

pub returns-else-many-len : goal.returns-else-many-len
returns-else-many-len c =
    let s = c.self.inside in let m = c.args.many in
    let le : length (rows_in s.width s.keys s.cells) ≤ m = omega (arith, c.if-many-len.false, c.len.ensures, rows-many s.width s.keys s.cells) in
    sym c.self.view_is
    ∙ ap (λ (v : List Row). let p : Packed = record { width = s.width; items = v } in p) (sym (take_all m (rows_in s.width s.keys s.cells) le))
    ∙ ap (λ (v : Packed). let p : Packed = record v { items = take m v.items } in p) c.self.view_is

pub overflow_mul-many : goal.overflow_mul-many
overflow_mul-many c =
    let s = c.self.inside in
    let le = mul-le c.args.many s.width (length s.keys) s.width (omega (arith, c.if-many-len.true, c.len.ensures)) (omega arith) in
    omega (arith, le, c.self.invariant.whole, c.len-cells.ensures.many, c.len-cells.ensures.few)
