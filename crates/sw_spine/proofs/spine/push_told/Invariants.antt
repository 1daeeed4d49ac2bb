use Rattle.std.proofs.Common.{◌≡◌, ◌≤◌, ◌+◌, ◌++◌, length, map, vec_capacity}
use Rattle.std.specs.Prelude.{vec_len}
use Rattle.sw_spine.specs.Books.{told_entry}
use Rattle.sw_spine.proofs.spine.push_told.Given as goal

abbrev pub invariant-loop-one : goal.invariant-loop-one
invariant-loop-one l = record {
  all : l.yielded ++ l.one-iterator.rest.items ≡ l.fn.told.items;
  pushed : l.entries.items ≡ l.fn.entries.items ++ map (told_entry l.fn.session) l.yielded;
  room : vec_len l.entries + length l.one-iterator.rest.items ≤ vec_capacity l.entries;
}
