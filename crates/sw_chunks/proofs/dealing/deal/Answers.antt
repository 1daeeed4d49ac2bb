use Rattle.std.proofs.Common.{rules, ◌≡◌, ◌<◌, ◌≤◌, ◌+◌, ◌++◌, ◌∷◌, [], ℕ, List, sym, ap, ◌∙◌, subst, arith, length, get_or, length-set}
use Rattle.std.proofs.lemmas.List.{take_all}
use Rattle.sw_table.specs.declared.row.Row.{Row}
use Rattle.sw_table.specs.Packed.{Packed}
use Rattle.sw_query.specs.Scan.{cell_of}
use Rattle.sw_chunks.specs.Cuts.{intervals, place_in}
use Rattle.sw_chunks.specs.Heads.{part_of}
use Rattle.sw_chunks.proofs.Dealt.{dealt-more, place-below}
use Rattle.sw_chunks.proofs.dealing.deal.Goals as goal

pub index_mut-requires : goal.index_mut-requires
index_mut-requires c =
    let below : c.place_in-place.result < length c.args.by.now.cuts.now + 1 = subst (λ (n : ℕ). n < length c.args.by.now.cuts.now + 1) (sym c.place_in-place.ensures) (place-below c.args.by.now.cuts.now _ c.requires.rising) in
    let many = c.loop-at.invariant.0 in
    let same = c.from-in-loop-at.ensures in
    let within : c.from-in-loop-at.result < length c.loop-at.parts.items = omega (arith, below, many, same) in
    search (rules, within)

pub loop-at-preserved : goal.loop-at-preserved
loop-at-preserved c =
    let z : Row = record { key = 0; cells = [] } in
    let xs = c.args.rows.now.items in let n = c.loop-at.at in
    let row = c.get-row.ensures z in
    let lt : n < length xs = omega (arith, c.loop-at-test.true, c.len-at-end.ensures.many) in
    let there : c.from-in-loop-at.result ≡ place_in c.args.by.now.cuts.now (cell_of c.args.by.now.attribute c.get-row.result) = search rules in
    let at = there ∙ ap (λ (r : Row). place_in c.args.by.now.cuts.now (cell_of c.args.by.now.attribute r)) row in (
      length-set c.loop-at.parts.items c.from-in-loop-at.result c.push_row.new.part ∙ c.loop-at.invariant.0,
      dealt-more (λ (v : Packed). v.items) c.args.by.now.attribute c.args.by.now.cuts.now xs n z c.loop-at.parts.items c.from-in-loop-at.result c.push_row.new.part c.index_mut.result.now
          c.requires.rising lt c.loop-at.invariant.0 at
          (c.in_ok-push_row.ensures.pushed ∙ ap (λ (v : Packed). v.items ++ c.get-row.result ∷ []) c.index_mut.ensures.value
          ∙ ap (λ (r : Row). (get_or c.loop-at.parts.items c.from-in-loop-at.result c.index_mut.result.now).items ++ r ∷ []) row) c.loop-at.invariant.1,
    )

pub returns-clause-parts : goal.returns-clause-parts
returns-clause-parts c k d i le =
    let long : length c.args.rows.now.items ≤ c.loop-at.at = omega (arith, c.loop-at-test.false, c.len-at-end.ensures.many) in
    c.loop-at.invariant.1 k d i le ∙ ap (λ (l : List Row). part_of c.args.by.now.attribute l (get_or (intervals c.args.by.now.cuts.now) k i)) (take_all c.loop-at.at c.args.rows.now.items long)
