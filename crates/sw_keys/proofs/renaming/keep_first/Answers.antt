use Rattle.std.proofs.Common.{◌≡◌, ◌+◌, ℕ, Some, below_more, arith}
use Rattle.std.specs.List.{slice_get}
use Rattle.sw_keys.proofs.renaming.keep_first.Goals as goal

pub loop-place-init : goal.loop-place-init
loop-place-init c = λ k lk. absurd (omega arith)

pub loop-place-preserved : goal.loop-place-preserved
loop-place-preserved c = λ k lk. below_more (λ (k : ℕ). slice_get c.args.names.now k ≡ Some (k + 1)) c.loop-place.place (λ k lk. c.loop-place.invariant k lk) (c.is_own-own.ensures c.if-not-own.false) k lk
