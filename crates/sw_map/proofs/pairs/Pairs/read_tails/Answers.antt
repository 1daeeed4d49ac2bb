use Rattle.std.proofs.Common.{rules, ◌≡◌, ◌+◌, ℤ, List, length, map, slice_range, arith, sym, ap, ◌∙◌}
use Rattle.sw_kernel.specs.Arrangement.{joined}
use Rattle.sw_map.specs.Pieces.{Table}
use Rattle.sw_map.proofs.Tables.{table-length}
use Rattle.sw_map.proofs.Parts.{table-tails}
use Rattle.sw_map.proofs.pairs.Pairs.read_tails.Goals as goal

pub copy_part-requires : goal.copy_part-requires
copy_part-requires c =
    let s = c.self.inside in let i = c.self.invariant in
    let hs = s.lists.head.items in let ts = s.lists.tail.items in
    let ln : length hs ≡ s.lists.head.len = search rules in
    let lt : length ts ≡ s.lists.tail.len = search rules in
    let same : length hs ≡ length ts = omega (arith, i.lengths) in
    let long = ap (λ (t : Table). length (joined t.pieces)) (sym c.self.view_is) ∙ table-length hs ts s.marks.items same in
    let all : length c.deref.result.now ≡ length ts = search rules in
    let within = c.requires in
    omega (arith, long, within, same, all)

pub returns : goal.returns
returns c =
    let s = c.self.inside in let i = c.self.invariant in
    let hs = s.lists.head.items in let ts = s.lists.tail.items in
    let ln : length hs ≡ s.lists.head.len = search rules in
    let lt : length ts ≡ s.lists.tail.len = search rules in
    let same : length hs ≡ length ts = omega (arith, i.lengths) in
    let is : c.deref.result.now ≡ ts = search rules in
    let part = λ (l : List ℤ). slice_range l c.args.place (c.args.place + length c.args.tails.now) in
    c.copy_part.ensures ∙ ap part (is ∙ sym (table-tails hs ts s.marks.items same) ∙ ap (λ (t : Table). map (λ (p : ℤ × ℤ). p.1) (joined t.pieces)) c.self.view_is)
