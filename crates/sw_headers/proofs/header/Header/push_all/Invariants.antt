use Rattle.std.proofs.Common.{◌≡◌, false, ◌++◌, drop, map}
use Rattle.sw_headers.specs.Steps.{joined_after}
use Rattle.sw_headers.specs.Under.{is_named}
use Rattle.sw_headers.proofs.header.Header.push_all.Given as goal

abbrev pub invariant-loop-word : goal.invariant-loop-word
invariant-loop-word l =
    (l.self.keeps.items ++ map is_named (map (λ w. w.now) (drop l.word-index l.words)) ≡ l.initial.self.keeps.items ++ map is_named (map (λ w. w.now) l.words))
    × (joined_after l.has_kept l.self.record.items (map (λ w. w.now) (drop l.word-index l.words)) ≡ joined_after false l.initial.self.record.items (map (λ w. w.now) l.words))
