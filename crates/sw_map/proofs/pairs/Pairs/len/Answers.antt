use Rattle.std.proofs.Common.{rules, ◌≡◌, length, arith, sym, ap, ◌∙◌}
use Rattle.sw_kernel.specs.Arrangement.{joined}
use Rattle.sw_map.specs.Pieces.{Table}
use Rattle.sw_map.proofs.Tables.{table-length}
use Rattle.sw_map.proofs.pairs.Pairs.len.Goals as goal

pub returns : goal.returns
returns c =
    let s = c.self.inside in let i = c.self.invariant in
    let hs = s.lists.head.items in let ts = s.lists.tail.items in
    let ln : length hs ≡ s.lists.head.len = search rules in
    let lt : length ts ≡ s.lists.tail.len = search rules in
    let same : length hs ≡ length ts = omega (arith, i.lengths) in
    let r : c.len.result ≡ length hs = search rules in
    r ∙ sym (table-length hs ts s.marks.items same) ∙ ap (λ (t : Table). length (joined t.pieces)) c.self.view_is
