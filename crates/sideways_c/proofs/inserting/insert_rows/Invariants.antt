use Rattle.std.proofs.Common.{◌≡◌, ◌≤◌, ◌++◌, drop, length}
use Rattle.sideways_c.specs.Inserts.{keys_of, with_inserts}
use Rattle.sideways_c.proofs.inserting.insert_rows.Given as goal

abbrev pub invariant-loop-row : goal.invariant-loop-row
invariant-loop-row l =
    (l.solo ≡ with_inserts l.session l.columns l.row l.initial.solo)
    × (l.keys ≡ keys_of l.session l.columns l.row l.initial.solo ++ drop l.row l.initial.keys)
    × (l.row ≤ length l.initial.keys)
    × (l.solo.sessions ≡ l.initial.solo.sessions)
