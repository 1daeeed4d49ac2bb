use Rattle.std.proofs.Common.{◌≡◌, ◌≢◌, ◌<◌, ◌+◌, ◌-◌, ℕ, true, drop, length, ◌∙◌, subst, arith}
use Rattle.sw_spine.specs.History.{is_absent}
use Rattle.sw_engine.proofs.Placed.{absent_back}
use Rattle.sw_engine.proofs.history.desk.last_of.Goals as goal

pub loop-behind-preserved : goal.loop-behind-preserved
loop-behind-preserved c =
    let es = c.args.entries.now in
    let s = c.args.session in
    let k = c.loop-behind.behind in
    let x = c.index-entries-place.result in
    let less : k < length es = c.loop-behind-test.true in
    let apart : x.session ≢ s = λ e. c.if-session.false (c.session.ensures ∙ e) in
    let had : is_absent s (drop (length es - 1 - k + 1) es) ≡ true = subst (λ (m : ℕ). is_absent s (drop m es) ≡ true) (let e : length es - k ≡ length es - 1 - k + 1 = omega (arith, less) in e) c.loop-behind.invariant in
    subst (λ (m : ℕ). is_absent s (drop m es) ≡ true) (let e : length es - 1 - k ≡ length es - (k + 1) = omega (arith, less) in e)
    (absent_back s es (length es - 1 - k) x (let inside : length es - 1 - k < length es = omega (arith, less) in inside) c.index-entries-place.is apart had)
