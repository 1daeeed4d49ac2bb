use Rattle.std.proofs.Common.{◌∙◌, sym, arith}
use Rattle.sw_import.proofs.MadeLemmas.{longest_hit}
use Rattle.sw_import.proofs.making.longest_text.Goals as goal

pub returns-then-is_text : goal.returns-then-is_text
returns-then-is_text c =
    c.split_at.ensures.front
    ∙ sym (longest_hit _ c.args.cell.now (omega arith) (rw (← c.split_at.ensures.front) (sym c.is_text.ensures ∙ c.if-is_text.true)))
    ∙ c.loop-cut.invariant
