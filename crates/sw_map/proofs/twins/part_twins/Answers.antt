use Rattle.std.proofs.Common.{rules, ◌≡◌, ◌+◌, ◌-◌, ◌≤◌, ℕ, ℤ, List, length, zip, take, drop, count_by, ap, ap₂, ◌∙◌, sym, arith}
use Rattle.sw_query.specs.Bounds.{is_left}
use Rattle.sw_kernel.specs.Partition.{goes_left, head_of}
use Rattle.sw_map.specs.Pieces.{count_between, parted}
use Rattle.sw_map.proofs.Cracking.{count-part}
use Rattle.sw_kernel.proofs.Ripples.{written}
use Rattle.sw_map.proofs.Together.{part-long, parted-written}
use Rattle.sw_map.proofs.twins.part_twins.Goals as goal

pub returns-clause-parted : goal.returns-clause-parted
returns-clause-parted c =
    let hs = c.deref_mut.result.now in let ts = c.deref_mut-2.result.now in
    let b = c.args.bound in let s = c.args.start in let e = c.args.end in
    let hm = c.split_twins.new.head in let tm = c.split_twins.new.tail in
    let vh : hs ≡ c.args.lists.now.head.items = search rules in
    let vt : ts ≡ c.args.lists.now.tail.items = search rules in
    let same : length hs ≡ length ts = search rules in
    let within : e ≤ length hs = search rules in
    let lh : length hm ≡ e - s = search rules in
    let lt : length tm ≡ e - s = search rules in
    let now = c.args.lists.now in let le = c.requires.range.0 in
    let within_t : e ≤ length ts = omega (arith, within, same) in
    let fits_h : length now.head.items ≤ now.head.len = search rules in
    let fits_t : length now.tail.items ≤ now.tail.len = search rules in
    record {
      pairs = ap₂ zip (written now.head.len now.head.items _ (part-long s e hs hm le within lh ∙ ap length vh) fits_h) (written now.tail.len now.tail.items _ (part-long s e ts tm le within_t lt ∙ ap length vt) fits_t) ∙ parted-written b s e hs ts hm tm same le within lh lt c.split_twins.ensures.pairs ∙ ap₂ (λ (x y : List ℤ). parted (goes_left head_of b) s e (zip x y)) vh vt;
      begins = ap (λ (n : ℕ). s + n) (c.split_twins.ensures.left ∙ count-part b s e hs ts same ∙ ap₂ (λ (x y : List ℤ). count_between (goes_left head_of b) s e (zip x y)) vh vt);
    }

pub returns-clause-twin_parted : goal.returns-clause-twin_parted
returns-clause-twin_parted c =
    let hs = c.deref_mut.result.now in
    let gs = c.deref_mut-3.result.now in let us = c.deref_mut-4.result.now in
    let b = c.args.bound in let s = c.args.start in let e = c.args.end in
    let gm = c.split_twins.new.twin_head in let um = c.split_twins.new.twin_tail in
    let vh : hs ≡ c.args.lists.now.head.items = search rules in
    let vg : gs ≡ c.args.twin.now.head.items = search rules in
    let vu : us ≡ c.args.twin.now.tail.items = search rules in
    let heads : hs ≡ gs = vh ∙ sym c.requires.same ∙ sym vg in
    let same : length gs ≡ length us = search rules in
    let within' : e ≤ length hs = search rules in
    let long = ap length heads in
    let within : e ≤ length gs = omega (arith, within', long) in
    let lg : length gm ≡ e - s = search rules in
    let lu : length um ≡ e - s = search rules in
    let now = c.args.twin.now in let le = c.requires.range.0 in
    let within_u : e ≤ length us = omega (arith, within, same) in
    let fits_g : length now.head.items ≤ now.head.len = search rules in
    let fits_u : length now.tail.items ≤ now.tail.len = search rules in
    record {
      pairs = ap₂ zip (written now.head.len now.head.items _ (part-long s e gs gm le within lg ∙ ap length vg) fits_g) (written now.tail.len now.tail.items _ (part-long s e us um le within_u lu ∙ ap length vu) fits_u) ∙ parted-written b s e gs us gm um same le within lg lu c.split_twins.ensures.twins ∙ ap₂ (λ (x y : List ℤ). parted (goes_left head_of b) s e (zip x y)) vg vu;
      begins = ap (λ (n : ℕ). s + n) (c.split_twins.ensures.left ∙ ap (λ (l : List ℤ). count_by (is_left b) (take (e - s) (drop s l))) heads ∙ count-part b s e gs us same ∙ ap₂ (λ (x y : List ℤ). count_between (goes_left head_of b) s e (zip x y)) vg vu);
    }
