use Rattle.std.proofs.Common.{◌≡◌, ◌≤◌, ◌<◌, ◌+◌, ◌-◌, ◌/◌, ℕ, get_or, length, subst, arith}
use Rattle.sw_load.proofs.Places.{before-at, places-apart}
use Rattle.sw_load.proofs.gone.count_before.Goals as goal

pub loop-low-preserved-then-gone-mid : goal.loop-low-preserved-then-gone-mid
loop-low-preserved-then-gone-mid c =
    let low = c.loop-low.low in let high = c.loop-low.high in let gs = c.args.gone.now in let p = c.args.place in
    let mid : ℕ = low + (high - low) / 2 in
    let under : mid < high = omega (arith, c.loop-low-test.true) in
    let at : get_or gs mid 0 ≤ p + mid = c.if-gone-mid.true in
    record {
      order = omega (arith, under);
      within = c.loop-low.invariant.within;
      before = λ j lt.
          let h = places-apart 0 c.requires.places.0 gs j mid c.requires.places.1 (omega (arith, lt)) (omega (arith, under, c.loop-low.invariant.within)) in
          omega (arith, h, at, lt);
      after = c.loop-low.invariant.after;
    }

pub returns-clause-before : goal.returns-clause-before
returns-clause-before c =
    let same : c.loop-low.high ≡ c.loop-low.low = omega (arith, c.loop-low-test.false, c.loop-low.invariant.order) in
    let gs = c.args.gone.now in let p = c.args.place in
    before-at p gs c.loop-low.low (omega (arith, c.loop-low.invariant.within, c.loop-low.invariant.order)) c.loop-low.invariant.before
    (subst (λ (k : ℕ). k < length gs → p + k < get_or gs k 0) same c.loop-low.invariant.after)
