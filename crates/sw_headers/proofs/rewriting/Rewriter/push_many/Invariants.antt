use Rattle.std.proofs.Common.{◌≡◌, ◌++◌, replicate}
use Rattle.sw_headers.proofs.rewriting.Rewriter.push_many.Given as goal

abbrev pub invariant-loop-left : goal.invariant-loop-left
invariant-loop-left l = (l.self.header ≡ l.fn.self.header) × (l.self.place ≡ l.fn.self.place)
    × (l.self.out.items ++ replicate l.left l.byte ≡ l.fn.self.out.items ++ replicate l.count l.byte)
    × (l.self.handed ≡ l.fn.self.handed)

abbrev pub decreases-loop-left : goal.decreases-loop-left
decreases-loop-left l = l.left
