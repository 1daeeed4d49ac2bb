use Rattle.std.proofs.Common.{arith, ◌≡◌, ◌∙◌, ◌+◌, ◌-◌, ◌≤ℤ◌, ap, sym, subst, ℕ, ℤ, pos, List, All, length, map, slice_range, get_or, IsPermutation}
use Rattle.std.proofs.lemmas.Int.{ints}
use Rattle.std.proofs.lemmas.List.{length-map}
use Rattle.std.proofs.lemmas.List.Elements.{All-map}
use Rattle.sw_query.specs.declared.reply.ReplyRow.{ReplyRow}
use Rattle.sw_table.specs.declared.row.Row.{Row}
use Rattle.sw_query.specs.declared.refusal.Refusal.{Refusal}
use Rattle.sw_query.specs.declared.refusal.Refusal.TheVariants.{NoMemory}
use Rattle.sw_query.specs.Scan.{cell_of, projected}
use Rattle.sw_query.specs.Outcomes.{MemoryAside}
use Rattle.sw_set.specs.Choice.{RangeState, chosen, column_at, placed, range_rows, row_in, shown_rows}
use Rattle.sw_set.specs.Collected.{AreInKeyOrder, chosen_rows}
use Rattle.sw_set.proofs.Replying.Rowed.{column-inside, found-below, in-key-order}
use Rattle.sw_set.proofs.Replying.Told.{range-long, weaker}
use Rattle.sw_set.proofs.reply.ShownRange.select.Goals as goal

pub found_keys-requires-clause-whole : goal.found_keys-requires-clause-whole
found_keys-requires-clause-whole g c κs within =
    subst (λ (v : List ℤ). All (λ (k : ℤ). pos 0 ≤ℤ k) v) (sym c.keys-keys.ensures)
    (All-map (λ (k : ℤ). pos 0 ≤ℤ k) (λ (r : Row). pos r.key) (range_rows c.args.self.now) (λ k d lt. omega (arith, ints)))

pub rows_at-requires-clause-inside : goal.rows_at-requires-clause-inside
rows_at-requires-clause-inside g c κs within =
    let s = c.self.inside in
    let rows = shown_rows s.head s.tape.now in
    let ms = map g.M.CrackerMap.held s.boxes.now in
    let long : length (range_rows c.args.self.now) ≡ s.upto - s.from = ap (λ (v : RangeState). length (range_rows v)) (sym c.self.view_is) ∙ range-long rows s.from s.upto c.self.invariant.ordered c.self.invariant.within in
    let many : length c.keys-keys.result ≡ s.upto - s.from = ap length c.keys-keys.ensures ∙ length-map (range_rows c.args.self.now) (λ (r : Row). pos r.key) ∙ long in
    let moved = subst (λ (v : List (ℕ × ℕ)). IsPermutation c.in_ok-found.found.items v) (sym c.deref.ensures.value) c.sort_by_key.ensures.moved in
    λ k d l j a m.
    (let below = found-below c.args.choice.now.bits s.from c.keys-keys.result c.in_ok-found.found.items c.deref.result.now k d c.in_ok-found.ensures moved l in
    column-inside ms (column_at c.columns_of-columns.result (get_or c.args.names.now j a)) (cell_of (get_or c.args.names.now j a)) rows ((get_or c.deref.result.now k d).1 + 1) (c.columns_of-columns.ensures j a m) (omega (arith, below, many)))

pub returns : goal.returns
returns g c =
    let s = c.self.inside in
    let rows = shown_rows s.head s.tape.now in
    let o = c.args.choice.now.bits in
    let ms = map g.M.CrackerMap.held s.boxes.now in
    let cs = c.columns_of-columns.result in
    let names = c.args.names.now in
    let sorted = c.sort_by_key.new.found.items in
    let keys = c.keys-keys.ensures ∙ ap (λ (v : RangeState). map (λ (r : Row). pos r.key) (range_rows v)) (sym c.self.view_is) in
    let found = c.in_ok-found.ensures ∙ ap (λ (v : List ℤ). chosen o (placed s.from v)) keys in
    subst (λ (v : RangeState). MemoryAside c.rows_at.result (λ (ys : List ReplyRow). AreInKeyOrder (map (projected names) (chosen_rows v o)) ys)) c.self.view_is
    (weaker (λ (v : List ReplyRow). v ≡ map (row_in ms cs names) c.deref.result.now) (λ (v : List ReplyRow). AreInKeyOrder (map (projected names) (chosen o (slice_range rows s.from s.upto))) v) (λ (e : Refusal). e ≡ NoMemory) c.rows_at.result
    (λ v e. in-key-order ms cs names rows o s.from s.upto c.in_ok-found.found.items sorted v c.columns_of-columns.ensures c.self.invariant.ordered c.self.invariant.within found c.sort_by_key.ensures.moved c.sort_by_key.ensures.sorted (e ∙ ap (map (row_in ms cs names)) c.deref.ensures.value))
    c.rows_at.ensures)
