use Rattle.std.proofs.Common.{◌≡◌, ◌++◌, length}
use Rattle.sw_headers.specs.Steps.{going_on, place_after}
use Rattle.sw_headers.proofs.rewriting.Rewriter.feed.Given as goal

abbrev pub invariant-loop-left : goal.invariant-loop-left
invariant-loop-left l =
    let h = l.fn.self.header.record.items in
    let k = l.fn.self.header.keeps.items in
    (l.self.header ≡ l.fn.self.header)
    × (place_after h k l.self.place l.left ≡ place_after h k l.fn.self.place l.text)
    × (l.self.out.items ++ going_on h k l.self.place l.left ≡ l.fn.self.out.items ++ going_on h k l.fn.self.place l.text)
    × (l.self.handed ≡ l.fn.self.handed)

abbrev pub decreases-loop-left : goal.decreases-loop-left
decreases-loop-left l = length l.left
