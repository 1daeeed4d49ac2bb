use Rattle.sw_spine.proofs.Together.{all_told_mine, all_told_others, all_told_rest, all_told_took, all_told_updates}
use Rattle.sw_spine.proofs.spine.Spine.answer_all.Goals as goal

pub returns-in-Ok-clause-rest : goal.returns-in-Ok-clause-rest
returns-in-Ok-clause-rest c = rw c.in-Ok.ensures.answered (all_told_rest c.args.session c.args.told.items c.args.self.now c.requires.replies c.requires.rest)

pub returns-in-Ok-clause-mine : goal.returns-in-Ok-clause-mine
returns-in-Ok-clause-mine c = rw c.in-Ok.ensures.answered (all_told_mine c.args.session c.args.told.items c.args.self.now c.requires.replies)

pub returns-in-Ok-clause-others : goal.returns-in-Ok-clause-others
returns-in-Ok-clause-others c = rw c.in-Ok.ensures.answered (all_told_others c.args.session c.args.told.items c.args.self.now c.requires.replies)

pub returns-in-Ok-clause-updates : goal.returns-in-Ok-clause-updates
returns-in-Ok-clause-updates c = rw c.in-Ok.ensures.answered (all_told_updates c.args.session c.args.told.items c.args.self.now c.requires.replies)

pub returns-in-Ok-clause-taken : goal.returns-in-Ok-clause-taken
returns-in-Ok-clause-taken c = rw c.in-Ok.ensures.answered (all_told_took c.args.session c.args.told.items c.args.self.now c.requires.replies)
