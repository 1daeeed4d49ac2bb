use Rattle.std.proofs.Common.{◌≡◌, ◌<◌, List, ℕ, arith, length, subst, sym, true}
use Rattle.std.specs.List.{list_all}
use Rattle.sw_headers.specs.Steps.{stays}
use Rattle.sw_headers.proofs.Runs.{takes_run}
use Rattle.sw_headers.proofs.rewriting.Rewriter.take_run.Goals as goal

pub returns-clause-takes : goal.returns-clause-takes
returns-clause-takes c =
    let s = c.split_at.ensures in
    let some : 0 < length c.split_at.result.0.now = omega (arith, s.front_len, c.requires.some) in
    let all = subst (λ (run : List ℕ). list_all (stays c.args.self.now.place.spot) run ≡ true) (sym s.front) c.requires.stays in
    takes_run c.args.self.now c.copy_run.new.self c.args.text.now c.split_at.result.0.now c.split_at.result.1.now s.by_index.0 some c.requires.marked all c.in_ok-copy_run.ensures.goes
