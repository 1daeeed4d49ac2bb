use Rattle.std.proofs.Common.{rules, ◌≡◌, ◌<◌, ◌++◌, ◌∷◌, [], ◌||◌, List, length, map, arith, sym, subst, ◌∙◌, ap}
use Rattle.std.proofs.lemmas.List.{map-append, length-map}
use Rattle.sw_query.specs.declared.bound.Bound.{Bound}
use Rattle.sw_table.specs.declared.row.Row.{Row}
use Rattle.sw_kernel.specs.Replay.{Step}
use Rattle.sw_kernel.specs.Tapes.{MayFollow, count_from, ranges_at}
use Rattle.sw_tape.specs.Bounds.{is_among}
use Rattle.sw_tape.specs.Entries.{IsKept, step_of}
use Rattle.sw_tape.proofs.Kept.{kept-push}
use Rattle.sw_tape.proofs.tape.Tape.push.Goals as goal

pub invariant_of-self-2 : goal.invariant_of-self-2
invariant_of-self-2 c =
    let items = c.self.inside.entries.items in let e = c.args.entry in
    let old : List (Step Row) = map step_of items in
    let n' = c.pairs_after-pairs.result in let p' = c.max-self-inside.result in
    let pushed : c.push_reserved.new.self.items ≡ items ++ e ∷ [] = search rules in
    let steps : map step_of c.push_reserved.new.self.items ≡ old ++ step_of e ∷ [] = ap (map step_of) pushed ∙ map-append step_of items (e ∷ []) in
    let follows : MayFollow (count_from 0 old) (step_of e) = search rules in
    let many : length old ≡ length items = length-map items step_of in
    let counted : c.len.result ≡ length old = search rules in
    let short : length old < 4096 = omega (arith, counted) in
    let among : (b : Bound) → is_among b c.add_bounds.new.bounds.items ≡ ranges_at b (step_of e) || is_among b c.self.inside.bounds.items = search rules in
    subst (λ (l : List (Step Row)). IsKept l c.add_bounds.new.bounds.items n' p') (sym steps)
    (kept-push old (step_of e) c.self.inside.bounds.items c.add_bounds.new.bounds.items c.self.inside.pairs n' c.self.inside.peak p' c.self.invariant follows short c.add_bounds.ensures.rising among c.pairs_after-pairs.ensures.pairs c.pairs_after-pairs.ensures.most c.max-self-inside.ensures)
