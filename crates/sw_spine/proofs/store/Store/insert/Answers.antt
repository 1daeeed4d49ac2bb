use Rattle.std.proofs.Common.{◌≡◌, ◌≢◌, ◌<◌, ◌+◌, ◌++◌, ◌∷◌, ◌∙◌, [], length, append_assoc, arith, rules}
use Rattle.sw_table.specs.declared.row.Row.{Row}
use Rattle.sw_table.specs.declared.row.Update.TheVariants.{Insert}
use Rattle.sw_spine.specs.Table.{opened, row}
use Rattle.sw_spine.proofs.ListedLemmas.{listed_insert}
use Rattle.sw_spine.proofs.StoreLemmas.{slots_insert}
use Rattle.sw_spine.proofs.store.Store.insert.Goals as goal

pub invariant_of-self-2 : goal.invariant_of-self-2
invariant_of-self-2 c =
    let s = c.self.inside in
    let many : c.len-given.result ≡ length s.live.items = search rules in
    let r : Row = row (c.len-given.result + 1) c.args.cells in
    let key : r.key ≡ length s.live.items + 1 = omega (arith, many) in
    let apart : length s.live.items ≢ s.limit = λ e. c.if-given-self.false (many ∙ e) in
    let room : length s.live.items < s.limit = omega (arith, apart, c.self.invariant.0.within) in
    let below : length (s.rows.items ++ s.came.items) < 1048576 = omega (arith, room, c.self.invariant.0.most, c.self.invariant.0.many) in
    rw (c.push_reserved.ensures.items, c.in_ok-reserve.ensures.items, c.push_reserved-2.ensures.items, c.in_ok-make_room.ensures.items, c.in_ok-add.ensures.ok, c.make_room_for_all.ensures, ← append_assoc (opened s.rows.items) s.later.items (Insert r ∷ []), ← append_assoc s.rows.items s.came.items (r ∷ [])) (
      slots_insert s.limit (opened s.rows.items ++ s.later.items) (s.rows.items ++ s.came.items) s.live.items r c.self.invariant.0 key room,
      listed_insert (s.rows.items ++ s.came.items) s.live.items s.listing.some.items s.listing.from r below c.self.invariant.1,
    )
