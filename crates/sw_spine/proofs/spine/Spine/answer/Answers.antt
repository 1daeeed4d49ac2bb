use Rattle.std.proofs.Common.{◌<◌, ℕ, subst}
use Rattle.std.specs.List.{slice_index}
use Rattle.sw_query.specs.declared.query.Call.TheVariants.{Select}
use Rattle.sw_spine.specs.Books.{Books, IsCount}
use Rattle.sw_spine.proofs.Spines.{answered_mine, answered_others, answered_rest, answered_took, told_updates}
use Rattle.sw_spine.proofs.spine.Spine.answer.Goals as goal

pub returns-in-Ok-clause-rest : goal.returns-in-Ok-clause-rest
returns-in-Ok-clause-rest c = rw c.in-Ok.ensures.answered (answered_rest c.args.session (Select c.args.query) c.args.self.now c.requires.rest)

pub returns-in-Ok-clause-mine : goal.returns-in-Ok-clause-mine
returns-in-Ok-clause-mine c = rw (c.in-Ok.ensures.answered, c.requires.reply) (answered_mine c.args.session (Select c.args.query) c.args.self.now)

pub returns-in-Ok-clause-others : goal.returns-in-Ok-clause-others
returns-in-Ok-clause-others c = rw c.in-Ok.ensures.answered (answered_others c.args.session (Select c.args.query) c.args.self.now)

pub returns-in-Ok-clause-updates : goal.returns-in-Ok-clause-updates
returns-in-Ok-clause-updates c = rw c.in-Ok.ensures.answered (told_updates c.args.session c.args.query c.args.self.now)

pub returns-in-Ok-clause-taken : goal.returns-in-Ok-clause-taken
returns-in-Ok-clause-taken c =
    let counts = subst (λ (b : Books). (head : ℕ) → head < 8 → IsCount b (slice_index b.taken head)) c.self.view_is c.self.invariant.taken in
    rw c.in-Ok.ensures.answered (answered_took c.args.session (Select c.args.query) c.args.self.now counts)
