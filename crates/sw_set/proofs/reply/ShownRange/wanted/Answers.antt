use Rattle.std.proofs.Common.{◌∙◌, ap, sym, subst}
use Rattle.sw_query.specs.declared.query.Want.{Want}
use Rattle.sw_query.specs.declared.reply.Reply.TheVariants as reply
use Rattle.sw_set.specs.Choice.{chosen, count_chosen, range_rows}
use Rattle.sw_set.specs.Collected.{IsReplyOver}
use Rattle.sw_set.proofs.Replying.Told.{chosen-count}
use Rattle.sw_set.proofs.reply.ShownRange.wanted.Goals as goal

pub returns-in-Count-clause-told : goal.returns-in-Count-clause-told
returns-in-Count-clause-told g c =
    let range = range_rows c.args.self.now in
    let count = c.count.ensures ∙ ap (count_chosen c.args.choice.now.bits) c.len.ensures ∙ chosen-count c.args.choice.now.bits range c.requires.fitting in
    subst (λ (w : Want). IsReplyOver (chosen c.args.choice.now.bits range) w (reply.Count c.count.result)) (sym c.in-Count.is) (ap reply.Count count)
