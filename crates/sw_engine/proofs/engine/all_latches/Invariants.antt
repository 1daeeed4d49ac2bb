use Rattle.std.proofs.Common.{◌≡◌, vec_len}
use Rattle.sw_engine.proofs.engine.all_latches.Given as goal

abbrev pub invariant-loop-place : goal.invariant-loop-place
invariant-loop-place g l = record {
  made : l.desk.heads ≡ l.place;
  books : l.desk.books ≡ l.fn.desk.books;
  given : l.desk.given ≡ l.fn.desk.given;
  latches : vec_len l.latches ≡ l.place;
}
