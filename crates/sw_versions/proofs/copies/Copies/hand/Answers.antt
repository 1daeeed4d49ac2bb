use Rattle.std.proofs.Common.{[], ◌∷◌, ◌++◌, ◌∙◌, ap, arith, length, length-append}
use Rattle.sw_versions.specs.Copied.{updates_of}
use Rattle.sw_versions.specs.Known.{Written}
use Rattle.sw_versions.specs.Pending.{all_of}
use Rattle.sw_versions.specs.Rules.{updates_in}
use Rattle.sw_versions.proofs.Writing.{one_more}
use Rattle.sw_versions.proofs.copies.Copies.hand.Goals as goal

pub invariant_of-self-2 : goal.invariant_of-self-2
invariant_of-self-2 g c =
    let s = c.self.inside in
    let all = updates_in s.published ++ updates_of s.pair.ops in
    let more = one_more (updates_in s.published) s.pair.ops c.add.new.self.ops c.args.update c.if-not-add.ensures.ops in
    (c.add.ensures.shown ∙ c.self.invariant.0, omega (arith, c.self.invariant.1, ap length more, length-append all (c.args.update ∷ [])))

pub returns-clause-all : goal.returns-clause-all
returns-clause-all g c =
    let s = c.self.inside in
    one_more (updates_in s.published) s.pair.ops c.add.new.self.ops c.args.update c.if-not-add.ensures.ops
    ∙ ap (λ (w : Written). all_of w ++ c.args.update ∷ []) c.self.view_is
