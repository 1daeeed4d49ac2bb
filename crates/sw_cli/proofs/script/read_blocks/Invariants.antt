use Rattle.std.proofs.Common.{◌≡◌, ◌+◌, [], length}
use Rattle.sw_cli.specs.Script.{AreSound, script_lines, so_far, with_lines}
use Rattle.sw_cli.proofs.script.read_blocks.Given as goal

abbrev pub invariant-loop-line : goal.invariant-loop-line
invariant-loop-line l = record {
  can : (goal.iterator-loop-line).can_next l.line-iterator;
  finite : (goal.iterator-loop-line).is_finite l.line-iterator;
  counted : l.number + length l.line-iterator ≡ length (script_lines l.fn.text);
  sound : AreSound (length l.fn.schema) l.blocks;
  left : with_lines (l.number + 1) l.blocks l.line-iterator ≡ with_lines 1 (so_far l.fn.schema [] []) (script_lines l.fn.text);
}
