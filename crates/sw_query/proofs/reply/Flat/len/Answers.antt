use Rattle.std.proofs.Common.{◌∙◌, ap, sym, length}
use Rattle.sw_query.proofs.ReplyLemmas.{rows-many}
use Rattle.sw_query.proofs.reply.Flat.len.Goals as goal

pub returns : goal.returns
returns c = let s = c.self.inside in c.len.ensures ∙ sym (rows-many s.labels s.cells.items) ∙ ap length c.self.view_is
