use Rattle.std.proofs.Common.{◌≡◌, ◌∙◌, sym, subst, ◌<◌, ℕ, length}
use Rattle.sw_shell.proofs.opening.load.Goals as goal

pub invariant_of-result : goal.invariant_of-result
invariant_of-result g c =
    let sound = c.requires.sound in
    let same : length c.in-Ok.columns ≡ length c.args.opened.schema = c.in-Ok.ensures.many ∙ c.len.ensures.value in
    record {
      few = sound.few;
      numbered = sound.numbered;
      lists = sound.lists ∙ sym same;
      lawful = λ a below. sound.cuts a (subst (λ (n : ℕ). a < n) same below);
      wide = sym same;
      one = subst (λ (n : ℕ). 0 < n) (sym same) sound.some;
    }
