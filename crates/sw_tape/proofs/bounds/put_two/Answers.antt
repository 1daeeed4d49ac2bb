use Rattle.std.proofs.Common.{rules, ◌≡◌, ◌≤◌, ◌+◌, ◌-◌, ℕ, List, suc, insert, length, ap, ap₂, ◌∙◌, arith}
use Rattle.std.proofs.lemmas.List.{take_at}
use Rattle.std.proofs.lemmas.List.Edits.{length-insert}
use borrow.Rule.Slice.PartMut.{mid_of, put_mid}
use Rattle.sw_query.specs.declared.bound.Bound.{Bound}
use Rattle.sw_tape.proofs.Moved.{moved, turned}
use Rattle.sw_tape.proofs.bounds.put_two.Goals as goal

pub returns-clause-items : goal.returns-clause-items
returns-clause-items c =
    let xs = c.args.bounds.now.items in let low = c.args.low in let high = c.args.high in let n = high + 1 - low in
    let vs = insert xs high c.args.upper in
    let all = c.deref_mut.result.now in
    let within : high ≤ length xs = search rules in
    let long = length-insert xs high c.args.upper within in
    let longer = length-insert vs low c.args.lower (omega (arith, long, within, c.requires.within.0)) in
    let many : n ≡ suc (high - low) = omega (arith, c.requires.within.0) in
    let is : put_mid low n all c.rotate_right.new.self ≡ insert vs low c.args.lower =
    ap (put_mid low n all) c.rotate_right.ensures.after ∙
    ap₂ (λ (m : ℕ) (l : List Bound). put_mid low m l (turned (mid_of low m l))) many (c.deref_mut.ensures.value ∙ c.put_both.ensures.items) ∙
    moved c.args.lower vs low (high - low) high (omega (arith, c.requires.within.0)) (omega (arith, long, within)) in
    let same : length (put_mid low n all c.rotate_right.new.self) ≡ c.put_both.new.bounds.len =
    ap (λ (l : List Bound). length l) is ∙ (omega (arith, long, longer, c.put_both.ensures.len)) in
    take_at (put_mid low n all c.rotate_right.new.self) _ c.put_both.new.bounds.len same ∙ is
