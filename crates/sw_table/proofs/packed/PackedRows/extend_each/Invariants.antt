use Rattle.std.proofs.Common.{◌≡◌, ◌++◌, drop, take, All}
use Rattle.sw_table.specs.Packed.{IsWithin}
use Rattle.sw_table.proofs.packed.PackedRows.extend_each.Given as goal

abbrev pub invariant-loop-done : goal.invariant-loop-done
invariant-loop-done l = record {
  items : l.self.items ≡ l.initial.self.items ++ take l.done (drop l.start l.rows.items);
  width : All (IsWithin l.initial.self.width) (take l.many (drop l.start l.rows.items)) → l.self.width ≡ l.initial.self.width;
}
