use Rattle.std.proofs.Common.{rules, ◌≡◌, ◌≤◌, ◌<◌, ◌-◌, ℕ, ℤ, List, length, take, drop, arith, ◌∙◌, ap₂, zip}
use Rattle.sw_kernel.specs.Ripple.{closed_up, origin}
use Rattle.sw_kernel.proofs.Ripples.{written}
use Rattle.sw_kernel.proofs.Removals.{removal-flat, reaches}
use Rattle.sw_kernel.proofs.Marks.{order-mono, order-all}
use Rattle.sw_kernel.proofs.removal.ripple_out.Goals as goal

pub close_up-requires-clause-range : goal.close_up-requires-clause-range
close_up-requires-clause-range c = order-all c.args.head.now.len _ c.args.marks.now c.requires.order (omega arith)

pub close_up-requires-clause-reach : goal.close_up-requires-clause-reach
close_up-requires-clause-reach c = reaches c.args.marks.now c.args.place c.holder_of-from.result c.holder_of-from.ensures.piece (λ j k d le lt. order-mono 0 c.args.head.now.len c.args.marks.now j k d c.requires.order le lt)

pub pull-requires-clause-reach : goal.pull-requires-clause-reach
pull-requires-clause-reach c = reaches c.args.marks.now c.args.place c.holder_of-from.result c.holder_of-from.ensures.piece (λ j k d le lt. order-mono 0 c.args.head.now.len c.args.marks.now j k d c.requires.order le lt)

pub returns-clause-rippled : goal.returns-clause-rippled
returns-clause-rippled c =
    let r = c.close_up in let a = c.args in
    let hs = a.head.now.items in let ts = a.tail.now.items in
    let ms = a.marks.now in let from = c.holder_of-from.result in
    let n = length hs in
    let lh : length hs ≤ a.head.now.len = omega arith in
    let lt : length ts ≤ a.tail.now.len = omega arith in
    let sh : length r.new.head ≡ length hs = omega arith in
    let st : length r.new.tail ≡ length ts = omega arith in
    let e : c.len-n.result ≡ n = omega arith in
    let eh : c.truncate.new.self.items ≡ take (n - 1) r.new.head = c.truncate.ensures.items ∙ ap₂ (λ (k : ℕ) (l : List ℤ). take (k - 1) l) e (written a.head.now.len hs r.new.head sh lh) in
    let et : c.truncate-2.new.self.items ≡ take (n - 1) r.new.tail = c.truncate-2.ensures.items ∙ ap₂ (λ (k : ℕ) (l : List ℤ). take (k - 1) l) e (written a.tail.now.len ts r.new.tail st lt) in
    let vh : c.deref_mut.result.now ≡ hs = search rules in
    let vt : c.deref_mut-2.result.now ≡ ts = search rules in
    let same : length hs ≡ length ts = omega arith in
    let within : a.place < length hs = omega arith in
    let ez : zip r.new.head r.new.tail ≡ closed_up origin (drop from ms) n a.place (zip hs ts) =
    r.ensures ∙ ap₂ (λ (xs ys : List ℤ). closed_up origin (drop from ms) (length xs) a.place (zip xs ys)) vh vt in
    λ b flat. rw (eh, et) (removal-flat a.place b hs ts r.new.head r.new.tail ms c.pull.new.marks from flat c.holder_of-from.ensures.piece within same ez c.pull.ensures)
