use Rattle.std.proofs.Common.{◌≡◌, ◌-◌, ◌<◌, [], ◌∷◌, ◌++◌, length, Some, None, refl, ap, ◌∙◌, arith}
use Rattle.json.specs.Json.{parse_map, after_end_array, items, value}
use Rattle.serde_json.specs.Read.{of_items, converted}
use Rattle.serde_json.specs.View.{items_view, view}
use Rattle.sw_histories.proofs.Found.ValueReading.{item_read, item_refused, items_over, items_before, items_before-no_items, one_more_item, none_before}
use Rattle.sw_histories.proofs.Found.OutlineLemmas.{count_kept, count_more, list_long}
use Rattle.sw_histories.proofs.reading.outline.count_items.Goals as goal

pub items-init : goal.items-init
items-init c =
    let all = converted of_items (items (value c.args.depth) (length c.args.reader.now) c.args.reader.now) in
    (length c.args.reader.now, [], omega arith, none_before all, omega arith, (λ h. refl, λ h. omega arith))

pub returns-in_err-item-clause-err : goal.returns-in_err-item-clause-err
returns-in_err-item-clause-err c refused =
    let p = value c.args.depth in
    let l = c.items in
    let n = l.invariant.0 in
    let going : (after_end_array l.reader ≡ None) × (c.take_end_array.new.self ≡ l.reader) = grind arith in
    l.invariant.3 ∙ ap (parse_map (items_before l.invariant.1)) (item_refused p n l.reader going.0 (rw (← going.1) (c.read.ensures.err (grind arith))))

pub items-preserved-then-count-le-MOST_ENTRIES : goal.items-preserved-then-count-le-MOST_ENTRIES
items-preserved-then-count-le-MOST_ENTRIES c =
    let p = value c.args.depth in
    let l = c.items in
    let n = l.invariant.0 in
    let vs = l.invariant.1 in
    let going : (after_end_array l.reader ≡ None) × (c.take_end_array.new.self ≡ l.reader) = grind arith in
    let done = c.in_ok-item.ensures in
    let v = c.in_ok-item.item in
    let r = c.read.new.reader in
    let less : length r < length l.reader = rw (← going.1) done.shorter in
    let turn = item_read p n l.reader r (view v) (omega (arith, l.invariant.2)) going.0 (rw (← going.1) done.ok) in (
      n - 1,
      vs ++ v ∷ [],
      omega (arith, l.invariant.2, less),
      l.invariant.3 ∙ ap (parse_map (items_before vs)) turn ∙ one_more_item vs v _,
      omega (arith, l.invariant.4, less),
      count_more l.count vs v l.invariant.5 (omega arith),
    )

pub items-preserved : goal.items-preserved
items-preserved c =
    let p = value c.args.depth in
    let l = c.items in
    let n = l.invariant.0 in
    let vs = l.invariant.1 in
    let going : (after_end_array l.reader ≡ None) × (c.take_end_array.new.self ≡ l.reader) = grind arith in
    let done = c.in_ok-item.ensures in
    let v = c.in_ok-item.item in
    let r = c.read.new.reader in
    let less : length r < length l.reader = rw (← going.1) done.shorter in
    let turn = item_read p n l.reader r (view v) (omega (arith, l.invariant.2)) going.0 (rw (← going.1) done.ok) in (
      n - 1,
      vs ++ v ∷ [],
      omega (arith, l.invariant.2, less),
      l.invariant.3 ∙ ap (parse_map (items_before vs)) turn ∙ one_more_item vs v _,
      omega (arith, l.invariant.4, less),
      count_kept l.count vs v l.invariant.5 (omega arith),
    )

pub returns-clause-ok : goal.returns-clause-ok
returns-clause-ok c =
    let p = value c.args.depth in
    let l = c.items in
    let n = l.invariant.0 in
    let vs = l.invariant.1 in
    let r = c.take_end_array.new.self in (
      items_view vs,
      l.invariant.3 ∙ ap (parse_map (items_before vs)) (items_over p n l.reader r l.invariant.2 (grind arith)) ∙ ap (λ ds. Some (ds, r)) (items_before-no_items vs),
      rw (list_long vs) l.invariant.5,
    )
