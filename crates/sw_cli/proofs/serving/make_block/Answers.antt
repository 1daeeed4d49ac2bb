use Rattle.std.proofs.Common.{◌≡◌, ◌∙◌, ◌<◌, length, sym, ap, arith}
use Rattle.sw_cli.specs.Served.{Making}
use Rattle.sw_cli.proofs.Together.{turn_more}
use Rattle.sw_cli.proofs.serving.make_block.Goals as goal

pub loop-turn-preserved : goal.loop-turn-preserved
loop-turn-preserved g c =
    let i = c.loop-turn.invariant in
    let same = c.make_next.ensures.same in
    let calls : c.job.inside.calls.now ≡ c.loop-turn.job.calls = ap (λ (m : Making). m.calls) c.job.view_is ∙ sym i.same.1 in
    let less : c.loop-turn._turn < length c.loop-turn.job.calls = let e = ap length calls in let t = c.loop-turn-test.true in omega (arith, e, t) in
    record {
      same = (same.0 ∙ i.same.0, same.1 ∙ i.same.1);
      more = turn_more c.loop-turn._turn c.loop-turn.job c.make_next.new.self i.more less c.make_next.ensures.more;
    }
