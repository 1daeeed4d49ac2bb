use Rattle.std.proofs.Common.{rules, ◌≡◌, ◌-◌, ◌≤◌, ◌++◌, length, zip, take, ap, ap₂, ◌∙◌}
use Rattle.sw_kernel.specs.Partition.{goes_left, head_of}
use Rattle.sw_map.proofs.Cracking.{zip-written, count-part, drop-rest}
use Rattle.sw_map.proofs.crack.part.Goals as goal

pub returns-clause-pairs : goal.returns-clause-pairs
returns-clause-pairs c =
    let hs = c.args.head.now in let ts = c.args.tail.now in
    let s = c.args.start in let e = c.args.end in
    let hm = c.split.new.head in let tm = c.split.new.tail in
    let le : s ≤ e = c.requires.range.0 in
    let lh : length hm ≡ e - s = search rules in
    let lt : length tm ≡ e - s = search rules in
    ap₂ zip (ap (λ l. take s hs ++ (hm ++ l)) (drop-rest s e hs le)) (ap (λ l. take s ts ++ (tm ++ l)) (drop-rest s e ts le)) ∙
    zip-written (goes_left head_of c.args.bound) s e hs ts hm tm c.requires.lengths le c.requires.range.1 lh lt c.split.ensures.pairs

pub returns-clause-left : goal.returns-clause-left
returns-clause-left c = c.split.ensures.left ∙ count-part c.args.bound c.args.start c.args.end c.args.head.now c.args.tail.now c.requires.lengths
