use Rattle.std.proofs.Common.{◌∙◌, ap, sym}
use Rattle.sw_rows.specs.Texts.{code_of}
use Rattle.sw_rows.proofs.schema.recent.Recent.code.Goals as goal

pub returns-in-Some : goal.returns-in-Some
returns-in-Some c ts are = ap (code_of ts) (sym c.in_ok-wanted.ensures.0) ∙ c.in-Some.ensures ts are
