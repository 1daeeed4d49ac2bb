use Rattle.std.proofs.Common.{◌≡◌, ◌∙◌, ◌++◌, ◌*◌, ◌≤◌, length, ap, sym, take, drop, arith, []}
use Rattle.std.proofs.lemmas.Nat.{mul-le}
use Rattle.std.proofs.lemmas.List.{append-nil, drop_all}
use Rattle.sw_table.specs.Kept.{kept_parts}
use Rattle.sw_table.proofs.InPlace.{live_from_first, run-length, run-moved, kept-passed}
use Rattle.sw_table.proofs.keeping.keep_parts.Goals as goal

pub loop-place-preserved : goal.loop-place-preserved
loop-place-preserved g c =
    let p = c.loop-place.place in let lt = c.loop-place-test.true in (
      omega (arith, c.loop-place.invariant.0),
      omega (arith, lt),
      c.loop-place.invariant.2,
      ap (λ v. take (c.loop-place.many * c.args.width) c.loop-place.items.items ++ v)
          (kept-passed c.args.width c.args.live.now p c.loop-place.items.items lt c.if-live-place.false) ∙ c.loop-place.invariant.3,
    )

pub loop-place-preserved-then-live-place : goal.loop-place-preserved-then-live-place
loop-place-preserved-then-live-place g c =
    let n = c.args.width in let bs = c.args.live.now in let p = c.loop-place.place in let m = c.loop-place.many in let e = c.end_of_live-end.result in
    let xs = c.loop-place.items.items in let ys = c.copy_within.new.self.items in
    let le = c.loop-place.invariant.0 in
    let long = c.loop-place.invariant.2 in
    let after = c.end_of_live-end.ensures.after in
    let within = c.end_of_live-end.ensures.within in
    let on : p ≤ e = omega (arith, after) in
    let is = c.copy_within.ensures.items in (
      omega (arith, le, after),
      within,
      run-length n bs xs ys m p e le on within long is ∙ long,
      run-moved n bs xs ys m p e le on within long is (live_from_first bs p e c.if-live-place.true c.end_of_live-end.ensures.live) ∙ c.loop-place.invariant.3,
    )

pub overflow_mul-many : goal.overflow_mul-many
overflow_mul-many g c =
    let h = c.loop-place.items.small in let k = c.loop-place.items.ok in
    let le = mul-le c.loop-place.many c.args.width (length c.args.live.now) c.args.width (omega (arith, c.loop-place.invariant.0, c.loop-place.invariant.1)) (omega arith) in
    omega (arith, h, k.0, k.1, le, c.loop-place.invariant.2)

pub copy_within-requires : goal.copy_within-requires
copy_within-requires g c =
    let n = c.args.width in
    let low = mul-le c.loop-place.many n c.loop-place.place n c.loop-place.invariant.0 (omega arith) in
    let on = mul-le c.loop-place.place n c.end_of_live-end.result n (omega (arith, c.end_of_live-end.ensures.after)) (omega arith) in
    let end = mul-le c.end_of_live-end.result n (length c.args.live.now) n c.end_of_live-end.ensures.within (omega arith) in
    let k = c.loop-place.items.ok in
    record {
      start_le_end = on;
      in_bounds = omega (arith, end, k.0, c.loop-place.invariant.2);
      dest_in_bounds = omega (arith, low, on, end, k.0, c.loop-place.invariant.2);
      not_exhausted = tt;
    }

pub returns : goal.returns
returns g c =
    let none : drop c.loop-place.place c.args.live.now ≡ [] = drop_all c.loop-place.place c.args.live.now (omega (arith, c.loop-place-test.false)) in
    c.truncate.ensures.items ∙ sym (append-nil (take (c.loop-place.many * c.args.width) c.loop-place.items.items))
    ∙ ap (λ bs. take (c.loop-place.many * c.args.width) c.loop-place.items.items ++ kept_parts c.args.width bs (drop (c.loop-place.place * c.args.width) c.loop-place.items.items)) (sym none)
    ∙ c.loop-place.invariant.3
