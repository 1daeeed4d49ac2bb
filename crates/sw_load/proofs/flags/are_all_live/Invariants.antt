use Rattle.std.proofs.Common.{◌≡◌, true, Bool, All}
use Rattle.sw_load.specs.Flags.{AreLive}
use Rattle.sw_load.proofs.flags.are_all_live.Given as goal

abbrev pub invariant-loop-is_live : goal.invariant-loop-is_live
invariant-loop-is_live l = record {
  told : l.all ≡ true → AreLive l.live 0 l.is_live-index;
  there : All (λ (b : Bool). b ≡ true) l.live → l.all ≡ true;
}
