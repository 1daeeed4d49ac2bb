use Rattle.std.proofs.Common.{◌≡◌, ℕ, ℤ, ◌+◌, ◌≤◌, ◌<◌, ◌^◌, ◌++◌, ◌∷◌, [], All, ap, arith, get_or, length, List, min, subst, sym, take, ◌∙◌}
use Rattle.std.proofs.lemmas.List.{take_min}
use Rattle.sw_table.specs.declared.row.Row.{Row}
use Rattle.sw_set.specs.Shelf.{Rises, key_of}
use Rattle.test_areas.specs.Opening.{numbered, row_of}
use Rattle.test_areas.proofs.Numbering.{numbered-fit, numbered-more, numbered-rise}
use Rattle.test_areas.proofs.opening.numbered.Goals as goal

-- all up to the last number are the first so many
whole : (most : ℕ) (cells : List (List ℤ)) (i end : ℕ) → end ≡ min (length cells) most → i ≤ end → end ≤ i → take i cells ≡ take most cells
whole most cells i end e le ge =
    let f : i ≡ min most (length cells) = omega (arith, e) in
    ap (λ k. take k cells) f ∙ take_min most cells

pub loop-i-preserved : goal.loop-i-preserved
loop-i-preserved c = c.in_ok-push_row.ensures ∙ (ap (λ rows. rows ++ row_of (c.loop-i.i + 1, get_or c.args.cells.now c.loop-i.i []) ∷ []) c.loop-i.invariant ∙ sym (numbered-more c.args.cells.now c.loop-i.i [] (omega arith)))

pub returns-clause-rows : goal.returns-clause-rows
returns-clause-rows c = c.loop-i.invariant ∙ ap numbered (whole 1048576 c.args.cells.now c.loop-i.i _ c.min-i-end.ensures c.loop-i.auto.i-end c.loop-i-test.false)

pub returns-clause-rise : goal.returns-clause-rise
returns-clause-rise c = subst (λ (rows : List Row). Rises key_of rows) (sym c.loop-i.invariant) (numbered-rise _)

pub returns-clause-fit : goal.returns-clause-fit
returns-clause-fit c =
    subst (λ (rows : List Row). All (λ (r : Row). r.key < 2 ^ 63) rows) (sym (c.loop-i.invariant ∙ ap numbered (whole 1048576 c.args.cells.now c.loop-i.i _ c.min-i-end.ensures c.loop-i.auto.i-end c.loop-i-test.false)))
    (numbered-fit c.args.cells.now)
