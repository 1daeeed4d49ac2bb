use Rattle.std.proofs.Common.{◌≡◌, ◌++◌, drop, length}
use Rattle.sw_load.specs.Gone.{ArePlaces, flags_without}
use Rattle.sw_load.proofs.flags.flags_without.Given as goal

-- with the flags of the rest behind them they are all of them
abbrev pub invariant-loop-place : goal.invariant-loop-place
invariant-loop-place l = record {
  places : ArePlaces (length l.flags.items) l.many (drop l.place-index l.gone);
  items : l.flags.items ++ flags_without (length l.flags.items) l.many (drop l.place-index l.gone) ≡ flags_without 0 l.many l.gone;
}
