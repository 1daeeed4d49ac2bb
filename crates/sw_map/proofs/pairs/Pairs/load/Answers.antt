use Rattle.std.proofs.Common.{rules, ◌≡◌, ℕ, ℤ, List, length, map, zip, arith, sym, ap, ap₂, ◌∙◌, subst}
use Rattle.sw_kernel.specs.Arrangement.{Arrangement, joined}
use Rattle.sw_kernel.specs.Replay.{loaded}
use Rattle.sw_kernel.specs.Flat.{InOrder}
use Rattle.sw_map.specs.Held.{pair_in}
use Rattle.sw_map.specs.Pieces.{Table, pieces_between, stepped}
use Rattle.sw_map.proofs.Layouts.{order-longer}
use Rattle.sw_map.proofs.Tables.{table-length, table-loaded}
use Rattle.sw_map.proofs.pairs.Pairs.load.Goals as goal

pub append_pairs-requires-clause-heads : goal.append_pairs-requires-clause-heads
append_pairs-requires-clause-heads c =
    let s = c.self.inside in let i = c.self.invariant in
    let hs = s.lists.head.items in let ts = s.lists.tail.items in
    let ln : length hs ≡ s.lists.head.len = search rules in
    let lt : length ts ≡ s.lists.tail.len = search rules in
    let same : length hs ≡ length ts = omega (arith, i.lengths) in
    let long = table-length hs ts s.marks.items same in
    let long' = ap (λ (t : Table). length (joined t.pieces)) (sym c.self.view_is) in
    let room' = ap (λ (t : Table). t.room) (sym c.self.view_is) in
    omega (arith, long, long', room', c.requires.room, i.heads)

pub append_pairs-requires-clause-tails : goal.append_pairs-requires-clause-tails
append_pairs-requires-clause-tails c =
    let s = c.self.inside in let i = c.self.invariant in
    let hs = s.lists.head.items in let ts = s.lists.tail.items in
    let ln : length hs ≡ s.lists.head.len = search rules in
    let lt : length ts ≡ s.lists.tail.len = search rules in
    let same : length hs ≡ length ts = omega (arith, i.lengths) in
    let long = table-length hs ts s.marks.items same in
    let long' = ap (λ (t : Table). length (joined t.pieces)) (sym c.self.view_is) in
    let room' = ap (λ (t : Table). t.room) (sym c.self.view_is) in
    omega (arith, long, long', room', c.requires.room, i.lengths, i.tails)

pub invariant_of-self : goal.invariant_of-self
invariant_of-self c =
    let s = c.self.inside in let i = c.self.invariant in
    let made = c.append_pairs.ensures in
    record {
      lengths = omega (arith, i.lengths, made.more_heads, made.more_tails);
      order = order-longer 0 s.lists.head.len c.append_pairs.new.heads.len s.marks.items (omega (arith, made.more_heads)) i.order;
      rising = i.rising;
      heads = omega (arith, i.heads, made.room.0);
      tails = omega (arith, i.tails, made.room.1);
    }

pub returns : goal.returns
returns c =
    let s = c.self.inside in let i = c.self.invariant in
    let hs = s.lists.head.items in let ts = s.lists.tail.items in let ms = s.marks.items in
    let ln : length hs ≡ s.lists.head.len = search rules in
    let lt : length ts ≡ s.lists.tail.len = search rules in
    let same : length hs ≡ length ts = omega (arith, i.lengths) in
    let o : InOrder 0 (length hs) ms = subst (λ (j : ℕ). InOrder 0 j ms) (sym ln) i.order in
    let rows = c.args.rows.now.items in
    ap₂ (λ (x y : List ℤ). record { pieces = pieces_between 0 (zip x y) ms; room = s.room }) c.append_pairs.ensures.heads c.append_pairs.ensures.tails
    ∙ ap (λ (b : Arrangement (ℤ × ℤ)). record { pieces = b; room = s.room }) (table-loaded hs ts ms c.args.head c.args.tail rows same o)
    ∙ ap (λ (t : Table). stepped (loaded (map (pair_in c.args.head c.args.tail) rows)) t) c.self.view_is
