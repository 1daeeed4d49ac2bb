use Rattle.std.proofs.Common.{arith, inl, inr}
use Rattle.sw_set.specs.Aligned.{IsStalled}
use Rattle.sw_set.proofs.Merging.Merges.{keys-missing, keys-ready, keys-small, keys-stalled}
use Rattle.sw_set.proofs.merge.aligned_keys.Goals as goal

pub returns-then-cells_at-peak-clause-found : goal.returns-then-cells_at-peak-clause-found
returns-then-cells_at-peak-clause-found g c =
    inl (keys-small c.args.area.now c.in-Some.at c.known.ensures.apart c.in-Some.ensures.0 c.in-Some.ensures.1
    (λ d. let e = c.cells_at.ensures d in let p = c.peak.ensures.peak in let lt = c.if-cells_at-peak.true in omega (arith, e, p, lt)))

pub returns-in-Err-clause-found : goal.returns-in-Err-clause-found
returns-in-Err-clause-found g c =
    inr (keys-stalled (IsStalled g.M.CrackerMap.stalls) c.args.area.now c.in-Some.at c.in-Some.ensures.0 c.in-Some.ensures.1
    (λ d. let e = c.cells_at.ensures d in let p = c.peak.ensures.peak in let le = c.if-cells_at-peak.false in omega (arith, e, p, le)) c.in-Err.ensures.ends c.in-Err.ensures.stalled)

pub returns-clause-found : goal.returns-clause-found
returns-clause-found g c = keys-ready c.args.area.now c.align_at.new.self c.in-Some.at c.align_at.ensures.same c.align_at.ensures.maps c.in-Some.ensures.0 c.in-Some.ensures.1 c.in_default-align_at.ensures.ends

pub returns-in_default-clause-found : goal.returns-in_default-clause-found
returns-in_default-clause-found g c = inl (keys-missing c.args.area.now c.in_default.ensures)
