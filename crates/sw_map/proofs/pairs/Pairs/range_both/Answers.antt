use Rattle.std.proofs.Common.{rules, ◌≡◌, ℕ, length, sym, ap, ◌∙◌, arith, subst}
use Rattle.sw_kernel.specs.Flat.{InOrder}
use Rattle.sw_kernel.specs.Partition.{head_of}
use Rattle.sw_kernel.specs.Replay.{shown}
use Rattle.sw_map.specs.Pieces.{Table}
use Rattle.sw_map.proofs.Layouts.{zip-long}
use Rattle.sw_map.proofs.Together.{twins-are}
use Rattle.sw_map.proofs.pairs.Pairs.range_both.Goals as goal

pub crack_twins-requires-clause-same : goal.crack_twins-requires-clause-same
crack_twins-requires-clause-same c =
    let s = c.self.inside in let i = c.self.invariant in
    let t = c.twin.inside in let j = c.twin.invariant in
    let hs = s.lists.head.items in let ts = s.lists.tail.items in let gs = t.lists.head.items in let us = t.lists.tail.items in
    let lh : length hs ≡ s.lists.head.len = search rules in
    let lt : length ts ≡ s.lists.tail.len = search rules in
    let lg : length gs ≡ t.lists.head.len = search rules in
    let lu : length us ≡ t.lists.tail.len = search rules in
    let o : InOrder 0 (length hs) s.marks.items = subst (λ (n : ℕ). InOrder 0 n s.marks.items) (sym lh) i.order in
    let p : InOrder 0 (length gs) t.marks.items = subst (λ (n : ℕ). InOrder 0 n t.marks.items) (sym lg) j.order in
    let heads = ap (λ (x : Table). shown head_of x.pieces) c.self.view_is ∙ c.requires ∙ sym (ap (λ (x : Table). shown head_of x.pieces) c.twin.view_is) in
    let twins = twins-are hs ts gs us s.marks.items t.marks.items (omega (arith, lh, lt, i.lengths)) (omega (arith, lg, lu, j.lengths)) o p heads in
    let ms : c.reserve.new.self.items ≡ s.marks.items = search rules in
    let ns : c.reserve-else-is_err.new.self.items ≡ t.marks.items = search rules in
    record { same_heads = twins.0; same_marks = ns ∙ twins.1 ∙ sym ms }

pub crack_twins-requires-2-clause-both : goal.crack_twins-requires-2-clause-both
crack_twins-requires-2-clause-both c =
    let i = c.self.invariant in let j = c.twin.invariant in
    let n = c.crack_twins.new.lists in let m = c.crack_twins.new.twin in
    let one = c.crack_twins.ensures.cut in let two = c.crack_twins.ensures.twin_cut in
    let lh : length n.head.items ≡ n.head.len = search rules in
    let lt : length n.tail.items ≡ n.tail.len = search rules in
    let lg : length m.head.items ≡ m.head.len = search rules in
    let lu : length m.tail.items ≡ m.tail.len = search rules in
    let e : n.head.len ≡ n.tail.len = omega (arith, i.lengths, one.size.heads, one.size.tails) in
    let f : m.head.len ≡ m.tail.len = omega (arith, j.lengths, two.size.heads, two.size.tails) in
    let ln = zip-long n.head.items n.tail.items (lh ∙ e ∙ sym lt) ∙ lh in
    let lm = zip-long m.head.items m.tail.items (lg ∙ f ∙ sym lu) ∙ lg in (
      record { lengths = e; order = subst (λ (k : ℕ). InOrder 0 k c.crack_twins.new.marks.items) ln one.cut.order; rising = one.cut.rising },
      record { lengths = f; order = subst (λ (k : ℕ). InOrder 0 k c.crack_twins.new.twin_marks.items) lm two.cut.order; rising = two.cut.rising },
    )

pub invariant_of-self-2 : goal.invariant_of-self-2
invariant_of-self-2 c =
    let i = c.self.invariant in let n = c.crack_twins-2.new.lists in
    let one = c.crack_twins.ensures.cut.size in let two = c.crack_twins-2.ensures.cut in
    let lh : length n.head.items ≡ n.head.len = search rules in
    let lt : length n.tail.items ≡ n.tail.len = search rules in
    let e : n.head.len ≡ n.tail.len = omega (arith, i.lengths, one.heads, one.tails, two.size.heads, two.size.tails) in
    let ln = zip-long n.head.items n.tail.items (lh ∙ e ∙ sym lt) ∙ lh in
    record {
      lengths = e;
      order = subst (λ (k : ℕ). InOrder 0 k c.crack_twins-2.new.marks.items) ln two.cut.order;
      rising = two.cut.rising;
      heads = omega (arith, i.heads, one.head_room, two.size.head_room);
      tails = omega (arith, i.tails, one.tail_room, two.size.tail_room);
    }

pub invariant_of-twin-2 : goal.invariant_of-twin-2
invariant_of-twin-2 c =
    let i = c.twin.invariant in let n = c.crack_twins-2.new.twin in
    let one = c.crack_twins.ensures.twin_cut.size in let two = c.crack_twins-2.ensures.twin_cut in
    let lh : length n.head.items ≡ n.head.len = search rules in
    let lt : length n.tail.items ≡ n.tail.len = search rules in
    let e : n.head.len ≡ n.tail.len = omega (arith, i.lengths, one.heads, one.tails, two.size.heads, two.size.tails) in
    let ln = zip-long n.head.items n.tail.items (lh ∙ e ∙ sym lt) ∙ lh in
    record {
      lengths = e;
      order = subst (λ (k : ℕ). InOrder 0 k c.crack_twins-2.new.twin_marks.items) ln two.cut.order;
      rising = two.cut.rising;
      heads = omega (arith, i.heads, one.head_room, two.size.head_room);
      tails = omega (arith, i.tails, one.tail_room, two.size.tail_room);
    }
