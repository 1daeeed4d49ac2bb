use Rattle.sw_headers.proofs.Marks.{under_of}
use Rattle.sw_headers.proofs.source.text_under.Goals as goal

pub returns-clause-under : goal.returns-clause-under
returns-clause-under c = under_of c.args.header.record.items c.args.header.keeps.items c.args.text.now c.rewritten.result c.rewritten.ensures
