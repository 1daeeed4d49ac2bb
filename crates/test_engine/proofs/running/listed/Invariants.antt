use Rattle.std.proofs.Common.{◌≡◌, true, length}
use Rattle.sw_spine.specs.Table.{is_numbered}
use Rattle.test_engine.proofs.running.listed.Given as goal

abbrev pub invariant-loop-it : goal.invariant-loop-it
invariant-loop-it l = record {
  numbered : is_numbered 1 l.rows.items ≡ true;
  many : length l.rows.items ≡ l.it-index;
}
