use Rattle.std.proofs.Common.{◌∙◌, ◌++◌, ◌∷◌, ◌+◌, [], ap, sym, refl, List, ℕ, ℤ, length}
use Rattle.std.proofs.lemmas.List.{length-append}
use Rattle.sw_query.specs.declared.reply.ReplyRow.{ReplyRow}
use Rattle.sw_query.specs.Replies.{reply_row, rows_in}
use Rattle.sw_query.proofs.ReplyLemmas.{rows-pushed, shown-pushed}
use Rattle.sw_query.proofs.reply.Flat.push.Goals as goal

pub invariant_of-self-in-Ok : goal.invariant_of-self-in-Ok
invariant_of-self-in-Ok c =
    let s = c.self.inside in let xs = c.args.cells.now in
    rw (c.in-Ok.ensures.ok, c.in_ok-extend_from_slice.ensures.items)
    (shown-pushed s.labels c.args.key (length xs) ∙ ap (λ (n : ℕ). n + length xs) c.self.invariant ∙ sym (length-append s.cells.items xs))

pub returns-in-Ok-clause-ok : goal.returns-in-Ok-clause-ok
returns-in-Ok-clause-ok c =
    let s = c.self.inside in let xs = c.args.cells.now in
    ap (λ (ls : List (ℕ × ℕ)). rows_in ls c.extend_from_slice.new.self.items) c.in-Ok.ensures.ok
    ∙ ap (λ (cs : List ℤ). rows_in (s.labels ++ (c.args.key, length xs) ∷ []) cs) c.in_ok-extend_from_slice.ensures.items
    ∙ rows-pushed s.labels s.cells.items xs c.args.key (length xs) c.self.invariant refl
    ∙ ap (λ (rs : List ReplyRow). rs ++ reply_row c.args.key xs ∷ []) c.self.view_is
