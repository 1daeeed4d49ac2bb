use Rattle.std.proofs.Common.{◌≡◌, ◌∙◌, ◌∷◌, [], ap, rules, FitsSigned, Some, ℤ, of_z, to_z, w64}
use Rattle.std.proofs.lemmas.Int.{to_z-of_z}
use Rattle.sw_query.specs.declared.reply.Reply.TheVariants as reply
use Rattle.sw_lang.specs.Replies.{cell_text, kind_at, reply_lines}
use Rattle.sw_outputs.proofs.cells.quoted_text.Goals as goal

pub returns : goal.returns
returns c =
    let columns = c.args.schema.now in
    let k = kind_at columns c.args.attr in
    let z : ℤ = c.args.cell in
    let fits : FitsSigned w64 z = search rules in
    let kept : to_z w64 (of_z w64 z) ≡ z = to_z-of_z w64 z fits in
    c.in_ok-text.ensures (cell_text k z)
    (ap (λ q. reply_lines columns q (reply.Least (Some (to_z w64 (of_z w64 z))))) c.least_of-call.ensures ∙ ap (λ (y : ℤ). cell_text k y ∷ []) kept)
