use Rattle.std.proofs.Common.{rules, ◌≡◌, ◌<◌, length, ℤ, pos, get_or, arith, sym, ap, ◌∙◌}
use mir.Syntax.{w64}
use mir.Val.{SFits}
use Rattle.std.proofs.lemmas.Int.{to_z-of_z}
use Rattle.sw_kernel.specs.Arrangement.{joined}
use Rattle.sw_map.specs.Pieces.{Table}
use Rattle.sw_map.proofs.Tables.{table-at, table-length}
use Rattle.sw_map.proofs.pairs.Pairs.tail_at.Goals as goal

pub value_at-requires : goal.value_at-requires
value_at-requires c =
    let s = c.self.inside in let i = c.self.invariant in
    let hs = s.lists.head.items in let ts = s.lists.tail.items in
    let ln : length hs ≡ s.lists.head.len = search rules in
    let lt : length ts ≡ s.lists.tail.len = search rules in
    let same : length hs ≡ length ts = omega (arith, i.lengths) in
    let long = ap (λ (t : Table). length (joined t.pieces)) (sym c.self.view_is) ∙ table-length hs ts s.marks.items same in
    let within = c.requires in
    omega (arith, long, within, same)

pub returns : goal.returns
returns c =
    let s = c.self.inside in let i = c.self.invariant in
    let hs = s.lists.head.items in let ts = s.lists.tail.items in
    let ln : length hs ≡ s.lists.head.len = search rules in
    let lt : length ts ≡ s.lists.tail.len = search rules in
    let same : length hs ≡ length ts = omega (arith, i.lengths) in
    let long = ap (λ (t : Table). length (joined t.pieces)) (sym c.self.view_is) ∙ table-length hs ts s.marks.items same in
    let within = c.requires in
    let lt' : c.args.place < length hs = omega (arith, long, within) in
    let r : c.value_at.result ≡ get_or ts c.args.place (pos 0) = search rules in
    let fits : SFits w64 c.value_at.result = search rules in
    to_z-of_z w64 c.value_at.result fits ∙ r ∙ sym (ap (λ (p : ℤ × ℤ). p.1) (table-at hs ts s.marks.items c.args.place same lt')) ∙ ap (λ (t : Table). (get_or (joined t.pieces) c.args.place (pos 0, pos 0)).1) c.self.view_is
