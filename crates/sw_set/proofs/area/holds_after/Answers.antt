use Rattle.std.proofs.Common.{◌==◌, ◌&&◌, not, Bool, ap, sym, ◌∙◌}
use Rattle.sw_table.specs.declared.row.Update.{Update}
use Rattle.sw_table.specs.Updates.{has_key, rows_then}
use Rattle.sw_set.proofs.Areas.Receiving.{has-without}
use Rattle.sw_set.proofs.area.holds_after.Goals as goal

pub returns-then-held-2 : goal.returns-then-held-2
returns-then-held-2 c = λ rows is.
    let k = c.args.key in
    let gone = c.in-Remove.gone in
    sym (ap (λ (u : Update). has_key k (rows_then rows u)) c.in-Remove.is ∙ has-without k gone rows ∙ ap (λ (b : Bool). b && not (gone == k)) (sym is ∙ c.if-held-2.true))

pub returns-else-held-2 : goal.returns-else-held-2
returns-else-held-2 c = λ rows is.
    let k = c.args.key in
    let gone = c.in-Remove.gone in
    c.if-held-2.false ∙ sym (ap (λ (u : Update). has_key k (rows_then rows u)) c.in-Remove.is ∙ has-without k gone rows ∙ ap (λ (b : Bool). b && not (gone == k)) (sym is ∙ c.if-held-2.false))
