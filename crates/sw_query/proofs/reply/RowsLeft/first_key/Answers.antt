use Rattle.std.proofs.Common.{◌∙◌, ap}
use Rattle.sw_query.specs.Replies.{first_key}
use Rattle.sw_query.proofs.ReplyLemmas.{first-shown}
use Rattle.sw_query.proofs.reply.RowsLeft.first_key.Goals as goal

pub returns : goal.returns
returns c = let s = c.self.inside in c.first_key.ensures ∙ first-shown s.labels s.cells.now ∙ ap first_key c.self.view_is
