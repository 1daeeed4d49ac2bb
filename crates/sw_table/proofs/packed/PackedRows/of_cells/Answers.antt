use Rattle.std.proofs.Common.{◌∙◌, ◌*◌, List, ℕ, ap, sym, length}
use Rattle.std.proofs.lemmas.List.FromFn.{length-range_with_len}
use Rattle.sw_table.proofs.packed.PackedRows.of_cells.Goals as goal

pub invariant_of-result : goal.invariant_of-result
invariant_of-result c = record {
  some = c.requires.some;
  most = c.requires.most;
  whole = ap length c.of.ensures ∙ c.requires.whole ∙ ap (λ m. m * c.args.width) (sym (ap (λ (v : List ℕ). length v) c.from_one.ensures ∙ length-range_with_len 1 c.args.many));
}
