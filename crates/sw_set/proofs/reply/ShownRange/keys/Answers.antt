use Rattle.std.proofs.Common.{◌≡◌, ◌∙◌, ap, sym, arith, length, map, pos, slice_range}
use Rattle.sw_table.specs.declared.row.Row.{Row}
use Rattle.sw_map.specs.declared.tail.Tail.TheVariants.{Key}
use Rattle.sw_map.specs.Held.{pairs_in, tail_value, tails_in}
use Rattle.sw_set.specs.Choice.{RangeState, range_rows, shown_rows}
use Rattle.sw_set.specs.declared.reply.window.Side.TheVariants.{Tail}
use Rattle.sw_set.proofs.Replying.Stock.{tail-column, column-range, column-long}
use Rattle.sw_set.proofs.reply.ShownRange.keys.Goals as goal

pub new-requires-clause-within : goal.new-requires-clause-within
new-requires-clause-within g c =
    let s = c.self.inside in
    let rows = shown_rows s.head s.tape.now in
    let is = tail-column g.M.CrackerMap.held s.boxes.now s.head s.tape.now Key c.find_ready-at.result c.self.invariant.stocked c.find_ready-at.ensures.inside c.find_ready-at.ensures.ready in
    let long : pairs_in (g.M.CrackerMap.held c.index-self-at.result) ≡ length rows = column-long g.M.CrackerMap.held s.boxes.now (record { at = c.find_ready-at.result; side = Tail }) c.index-self-at.result (tail_value Key) rows is c.index-self-at.is in
    let same = ap (λ m. pairs_in (g.M.CrackerMap.held m)) c.index-self-at.is in
    let within = c.self.invariant.within in
    omega (arith, long, same, within)

pub returns : goal.returns
returns g c =
    let s = c.self.inside in
    let rows = shown_rows s.head s.tape.now in
    let is = tail-column g.M.CrackerMap.held s.boxes.now s.head s.tape.now Key c.find_ready-at.result c.self.invariant.stocked c.find_ready-at.ensures.inside c.find_ready-at.ensures.ready in
    c.new.ensures
    ∙ ap (λ m. slice_range (tails_in (g.M.CrackerMap.held m)) s.from s.upto) (sym c.index-self-at.is)
    ∙ column-range g.M.CrackerMap.held s.boxes.now (record { at = c.find_ready-at.result; side = Tail }) c.index-self-at.result (tail_value Key) rows s.from s.upto is c.index-self-at.is
    ∙ ap (λ (v : RangeState). map (λ (r : Row). pos r.key) (range_rows v)) c.self.view_is
