use Rattle.std.proofs.Common.{take, drop, subst, sym, List, ℕ}
use Rattle.std.proofs.lemmas.List.{take-append-drop}
use Rattle.sw_lang.proofs.Progress.{Progress, go_on}
use Rattle.sw_lang.proofs.printing.sinks.write_all.Goals as goal

pub loop-rest-preserved : goal.loop-rest-preserved
loop-rest-preserved g c =
    let s = g.W.Sink in
    let rest = c.loop-rest.rest.now in
    let parted = subst (λ (w : List ℕ). Progress (s.taken c.args.out.now) (s.taken c.loop-rest.out) (s.failed c.args.out.now) (s.failed c.loop-rest.out) c.args.bytes.now w) (sym (take-append-drop c.in-Ok.n rest)) c.loop-rest.invariant in
    rw c.split_at.ensures.back (go_on (take c.in-Ok.n rest) (drop c.in-Ok.n rest) parted c.in-Ok.ensures.bytes c.in-Ok.ensures.went)
