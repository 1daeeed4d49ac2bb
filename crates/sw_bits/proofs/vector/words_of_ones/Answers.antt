use Rattle.std.proofs.Common.{◌∙◌, ap, ◌++◌, ◌∷◌, [], ◌-◌, ◌^◌, ◌%◌, List, ℕ}
use Rattle.sw_bits.proofs.Words.{ones-whole, ones-and-rest}
use Rattle.sw_bits.proofs.vector.words_of_ones.Goals as goal
use Rattle.sw_bits.proofs.vector.words_of_ones.Goals.{then-rest-gt0+in_ok-push_ones, else-rest-gt0}

pub returns : goal.returns
returns c =
    elim c.if-rest-gt0.branch [
      | then-rest-gt0+in_ok-push_ones w ↦ ones-and-rest _ c.args.len c.ranges.len.fits (ap (λ v. v.items) w.words-is ∙ w.in_ok-push_ones.ensures ∙ ap (λ (v : List ℕ). v ++ (2 ^ (c.args.len % 64) - 1) ∷ []) c.in_ok-words.ensures) w.if-rest-gt0.true
      | else-rest-gt0 w ↦ ones-whole _ c.args.len c.ranges.len.fits (ap (λ v. v.items) w.words-is ∙ c.in_ok-words.ensures) w.if-rest-gt0.false
    ]
