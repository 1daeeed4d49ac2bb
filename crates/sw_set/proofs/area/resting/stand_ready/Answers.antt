use Rattle.std.proofs.Common.{rules, ◌≡◌, true, false, true≢false, sym, refl, is_some}
use Rattle.sw_set.proofs.Areas.AtRest.{found-none, found-some, stand-all, stand-next, stand-not}
use Rattle.sw_set.proofs.area.resting.stand_ready.Goals as goal

pub returns-then-is_none : goal.returns-then-is_none
returns-then-is_none g c =
    let none : is_some c.at_end.result ≡ false = search rules in
    let x = c.args.area.now in (
      λ f. absurd (true≢false (sym f)),
      λ ready. absurd (stand-not x.tape x.boxes c.args.tails.now c.loop-at.at _ c.loop-at-test.true
          (found-none _ x.boxes c.at_end.result c.at_end.ensures none) ready),
    )

pub loop-at-preserved : goal.loop-at-preserved
loop-at-preserved g c =
    let some : is_some c.at_end.result ≡ true = search rules in
    let x = c.args.area.now in
    stand-next x.tape x.boxes c.args.tails.now c.loop-at.at _ c.loop-at.invariant c.loop-at-test.true
    (found-some _ x.boxes c.at_end.result c.at_end.ensures some)

pub returns : goal.returns
returns g c =
    let x = c.args.area.now in
    (λ _. stand-all x.tape x.boxes c.args.tails.now c.loop-at.at c.loop-at.invariant c.loop-at-test.false, λ _. refl)
