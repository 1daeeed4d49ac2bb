use Rattle.std.proofs.Common.{rules, ap, ◌∙◌}
use Rattle.sw_kernel.specs.Tapes.{is_marked}
use Rattle.sw_tape.specs.Bounds.{IsNearestAbove, IsNearestBelow, is_among}
use Rattle.sw_tape.proofs.Around.{above-same, below-same}
use Rattle.sw_tape.proofs.tape.Tape.around.Goals as goal

pub returns-clause-lower : goal.returns-clause-lower
returns-clause-lower c =
    let found : IsNearestBelow (λ b. is_among b c.self.inside.bounds.items) c.args.value c.around.result.0 = search rules in
    below-same (λ b. is_among b c.self.inside.bounds.items) (λ b. is_marked b c.args.self.now) c.args.value c.around.result.0 (λ b. c.self.invariant.marked b ∙ ap (is_marked b) c.self.view_is) found

pub returns-clause-upper : goal.returns-clause-upper
returns-clause-upper c =
    let found : IsNearestAbove (λ b. is_among b c.self.inside.bounds.items) c.args.value c.around.result.1 = search rules in
    above-same (λ b. is_among b c.self.inside.bounds.items) (λ b. is_marked b c.args.self.now) c.args.value c.around.result.1 (λ b. c.self.invariant.marked b ∙ ap (is_marked b) c.self.view_is) found
