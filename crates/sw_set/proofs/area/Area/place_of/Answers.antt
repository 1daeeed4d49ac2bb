use Rattle.std.proofs.Common.{◌≡◌, ◌<◌, false, ◌++◌, ℕ, true, length, get_or, ap, sym, ◌∙◌, subst, rules, w64}
use Rattle.std.proofs.lemmas.Int.{to_z-of_z}
use Rattle.sw_table.specs.declared.row.Row.{Row}
use Rattle.sw_table.specs.Rows.{cell_of}
use Rattle.sw_table.specs.Updates.{has_key}
use Rattle.sw_kernel.specs.Arrangement.{joined}
use Rattle.sw_map.specs.declared.tail.Tail.TheVariants.{Key}
use Rattle.sw_map.specs.Held.{Held, blank}
use Rattle.sw_map.specs.Lawful.{rows_by}
use Rattle.sw_set.specs.Shelf.{AreaState, logged_rows}
use Rattle.sw_set.specs.Boxed.{HasAt}
use Rattle.sw_set.proofs.Areas.Aligning.{box-aligned, box-head}
use Rattle.sw_set.proofs.Areas.Ties.{tied-lacks, tied-row}
use Rattle.sw_set.proofs.area.Area.place_of.Goals as goal

inside : (g : _) (c : goal.After-at g) → c.args.at < length c.self.inside.boxes
inside g c = subst (λ (v : AreaState). c.args.at < length v.boxes) (sym c.self.view_is) c.requires.within

begun : (g : _) (c : goal.After-at g) → HasAt c.self.inside.boxes c.args.at (λ (b : Held). b.is_blank ≡ false)
begun g c = subst (λ (v : AreaState). HasAt v.boxes c.args.at (λ (b : Held). b.is_blank ≡ false)) (sym c.self.view_is) (λ d. (c.requires.ready d).begun)

pub unreachable-requires : goal.unreachable-requires
unreachable-requires g c =
    let s = c.self.inside in
    tied-lacks s.attribute s.tape s.live _ c.args.key c.load_of-load.ensures c.self.invariant.1 c.in_default.ensures (subst (λ (v : AreaState). has_key c.args.key (logged_rows v.attribute v.tape) ≡ true) (sym c.self.view_is) c.requires.live)

pub place_of_row-requires-clause-aligned : goal.place_of_row-requires-clause-aligned
place_of_row-requires-clause-aligned g c κs within = box-aligned _ _ _ _ _ (inside g c) c.at.ensures (begun g c) c.self.invariant.0.boxes

pub place_of_row-requires-clause-ended : goal.place_of_row-requires-clause-ended
place_of_row-requires-clause-ended g c κs within =
    let s = c.self.inside in
    let at_end : HasAt s.boxes c.args.at (λ (b : Held). b.cursor ≡ length s.tape) = subst (λ (v : AreaState). HasAt v.boxes c.args.at (λ (b : Held). b.cursor ≡ length v.tape)) (sym c.self.view_is) (λ d. (c.requires.ready d).at_end) in
    ap (λ (b : Held). b.cursor) (c.at.ensures blank) ∙ at_end blank

pub place_of_row-requires-clause-tail : goal.place_of_row-requires-clause-tail
place_of_row-requires-clause-tail g c κs within =
    let tail : HasAt c.self.inside.boxes c.args.at (λ (b : Held). b.tail ≡ Key) = subst (λ (v : AreaState). HasAt v.boxes c.args.at (λ (b : Held). b.tail ≡ Key)) (sym c.self.view_is) (λ d. (c.requires.ready d).tail_is) in
    ap (λ (b : Held). b.tail) (c.at.ensures blank) ∙ tail blank

pub place_of_row-requires-clause-live : goal.place_of_row-requires-clause-live
place_of_row-requires-clause-live g c κs within =
    let s = c.self.inside in
    let head = box-head _ _ _ _ _ (inside g c) c.at.ensures (begun g c) c.self.invariant.0.boxes in
    let cell : (d : Row) → c.cell-value.result ≡ cell_of s.attribute (get_or (c.load_of-load.result.now.items ++ s.live.later) c.in-Some.row d) = λ d. c.cell-value.ensures d ∙ ap (λ (n : ℕ). cell_of n (get_or (c.load_of-load.result.now.items ++ s.live.later) c.in-Some.row d)) c.from.ensures in
    rw head (tied-row s.attribute s.tape s.live _ c.args.key c.in-Some.row _ c.load_of-load.ensures c.self.invariant.0.brought_rise c.self.invariant.1 (subst (λ (v : AreaState). has_key c.args.key (logged_rows v.attribute v.tape) ≡ true) (sym c.self.view_is) c.requires.live) c.in-Some.ensures.0 c.in-Some.ensures.1 (λ d. to_z-of_z w64 _ (search rules) ∙ cell d))

pub returns-clause-within : goal.returns-clause-within
returns-clause-within g c =
    let s = c.self.inside in
    let lt : c.args.at < length s.boxes = subst (λ (v : AreaState). c.args.at < length v.boxes) (sym c.self.view_is) c.requires.within in
    let begins : HasAt s.boxes c.args.at (λ (m : Held). m.is_blank ≡ false) = subst (λ (v : AreaState). HasAt v.boxes c.args.at (λ (m : Held). m.is_blank ≡ false)) (sym c.self.view_is) (λ d. (c.requires.ready d).begun) in
    let head = box-head _ _ _ _ _ lt c.at.ensures begins c.self.invariant.0.boxes in
    subst (λ (v : AreaState). c.place_of_row.result < length (joined (rows_by v.attribute v.tape))) c.self.view_is (subst (λ (n : ℕ). c.place_of_row.result < length (joined (rows_by n s.tape))) head c.place_of_row.ensures.within)

pub returns-clause-own : goal.returns-clause-own
returns-clause-own g c =
    let s = c.self.inside in
    let lt : c.args.at < length s.boxes = subst (λ (v : AreaState). c.args.at < length v.boxes) (sym c.self.view_is) c.requires.within in
    let begins : HasAt s.boxes c.args.at (λ (m : Held). m.is_blank ≡ false) = subst (λ (v : AreaState). HasAt v.boxes c.args.at (λ (m : Held). m.is_blank ≡ false)) (sym c.self.view_is) (λ d. (c.requires.ready d).begun) in
    let head = box-head _ _ _ _ _ lt c.at.ensures begins c.self.invariant.0.boxes in
    subst (λ (v : AreaState). (d : Row) → (get_or (joined (rows_by v.attribute v.tape)) c.place_of_row.result d).key ≡ c.args.key) c.self.view_is (subst (λ (n : ℕ). (d : Row) → (get_or (joined (rows_by n s.tape)) c.place_of_row.result d).key ≡ c.args.key) head c.place_of_row.ensures.key)
