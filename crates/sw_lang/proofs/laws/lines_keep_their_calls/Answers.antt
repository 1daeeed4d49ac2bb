use Rattle.sw_lang.proofs.Known.Lines.{read_still}
use Rattle.sw_lang.proofs.laws.lines_keep_their_calls.Goals as goal

pub returns : goal.returns
returns c = read_still
