use Rattle.std.proofs.Common.{arith, ◌≡◌, ◌∙◌, ◌+◌, ◌-◌, ◌≤◌, ℤ, List, ap, sym, length, slice_range}
use Rattle.sw_map.specs.Held.{pairs_in}
use Rattle.sw_set.specs.Choice.{side_in}
use Rattle.sw_set.proofs.Replying.Blocks.{part-of}
use Rattle.sw_set.proofs.Replying.Stock.{side-long}
use Rattle.sw_set.proofs.Replying.Told.{range-long}
use Rattle.sw_set.proofs.reply.window.Window.read.Goals as goal

pub returns : goal.returns
returns g c =
    let w = c.self.inside in
    let xs : List ℤ = side_in w.side (g.M.CrackerMap.held w.map.now) in
    let m = length c.args.part.now in
    let many : length xs ≡ pairs_in (g.M.CrackerMap.held w.map.now) = side-long w.side (g.M.CrackerMap.held w.map.now) in
    let inside = c.self.invariant.0 in
    let long : length (slice_range xs w.from (w.from + w.len)) ≡ w.from + w.len - w.from = range-long xs w.from (w.from + w.len) (omega arith) (omega (arith, many, inside)) in
    let same : length (slice_range xs w.from (w.from + w.len)) ≡ length c.args.self.now = ap length c.self.view_is in
    let within : c.args.place + m ≤ w.len = omega (arith, long, same, c.requires) in
    c.read_column.ensures ∙ sym (part-of xs w.from w.len c.args.place m within) ∙ ap (λ (v : List ℤ). slice_range v c.args.place (c.args.place + m)) c.self.view_is
