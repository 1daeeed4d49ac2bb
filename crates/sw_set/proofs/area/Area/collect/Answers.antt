use Rattle.std.proofs.Common.{◌≡◌, ◌<◌, ap, sym, ◌∙◌, subst, arith, List, [], IfOk}
use Rattle.sw_table.specs.declared.row.Row.{Row}
use Rattle.sw_query.specs.Scan.{answer, answer_over}
use Rattle.sw_kernel.specs.Tapes.{HoldsOnce}
use Rattle.sw_map.specs.declared.tail.Tail.TheVariants.{Key}
use Rattle.sw_map.specs.Held.{Held}
use Rattle.sw_set.specs.Choice.{AreStocked, IsRun, RangeState, meets_first, shown_rows}
use Rattle.sw_set.specs.Collected.{IsReplyOver}
use Rattle.sw_set.specs.Needs.{needed}
use Rattle.sw_set.specs.Prepared.{StandReady}
use Rattle.sw_set.specs.Shelf.{AreaState, key_of, logged_rows, rows_in}
use Rattle.sw_set.proofs.Preparing.Needing.{key-needed}
use Rattle.sw_set.proofs.Preparing.Ranges.{held-once, prepared-maps, prepared-runs, rows-received, shown-runs}
use Rattle.sw_set.proofs.Replying.Answered.{none-matching, told-answer, told-nothing}
use Rattle.sw_set.proofs.area.Area.collect.Goals as goal

pub returns-then-ready-clause-answered : goal.returns-then-ready-clause-answered
returns-then-ready-clause-answered g c =
    let s = c.self.inside in
    let q = c.args.query.now in
    let items = shown_rows s.attribute s.tape in
    let live = logged_rows s.attribute s.tape in
    let rows : live ≡ rows_in c.args.self.now = ap (λ (v : AreaState). logged_rows v.attribute v.tape) c.self.view_is ∙ sym (rows-received c.args.self.now c.requires.received) in
    let run = shown-runs _ _ _ _ _ c.self.view_is c.known.ensures c.requires.head c.requires.ready in
    let none = none-matching q.conds items c.args.ready.now.from c.args.ready.now.upto run c.if-ready.true in
    let told = subst (λ (v : List Row). IsReplyOver v q.want (answer_over [] q.want)) (sym none) (told-nothing q.want) in
    c.nothing.ensures ∙ told-answer q.conds q.want items live (answer_over [] q.want) (held-once _ c.self.invariant.0) c.self.invariant.0.rows_rise told ∙ ap (λ (rs : List Row). answer rs q) rows

pub new-range-requires-clause-stocked : goal.new-range-requires-clause-stocked
new-range-requires-clause-stocked g c κs within =
    let s = c.self.inside in
    let run = prepared-runs _ _ _ _ c.known.ensures c.requires.head c.requires.ready in
    let some : c.args.ready.now.from < c.args.ready.now.upto = (let le = run.ordered in let d = c.if-ready.false in omega arith) in
    subst (λ (ms : List Held). AreStocked s.attribute s.tape ms) (sym c.as_slice.ensures)
    (subst (λ (v : AreaState). AreStocked v.attribute v.tape v.boxes) (sym c.self.view_is) (record {
      lawful = c.known.ensures.boxes;
      keys = prepared-maps _ _ _ _ c.requires.ready some Key (key-needed c.args.self.now.attribute c.args.query.now);
    }))

pub new-range-requires-clause-ordered : goal.new-range-requires-clause-ordered
new-range-requires-clause-ordered g c κs within = (prepared-runs _ _ _ _ c.known.ensures c.requires.head c.requires.ready).ordered

pub new-range-requires-clause-within : goal.new-range-requires-clause-within
new-range-requires-clause-within g c κs within =
    (shown-runs _ _ _ _ _ c.self.view_is c.known.ensures c.requires.head c.requires.ready).within

pub collect-requires-clause-maps : goal.collect-requires-clause-maps
collect-requires-clause-maps g c κs within =
    let s = c.self.inside in
    let q = c.args.query.now in
    let run = prepared-runs _ _ _ _ c.known.ensures c.requires.head c.requires.ready in
    let some : c.args.ready.now.from < c.args.ready.now.upto = (let le = run.ordered in let d = c.if-ready.false in omega arith) in
    subst (λ (r : RangeState). StandReady (needed r.head q) r.tape r.maps) (sym c.new-range.ensures)
    (subst (λ (ms : List Held). StandReady (needed s.attribute q) s.tape ms) (sym c.as_slice.ensures)
    (subst (λ (v : AreaState). StandReady (needed v.attribute q) v.tape v.boxes) (sym c.self.view_is) (prepared-maps _ _ _ _ c.requires.ready some)))

pub collect-requires-clause-run : goal.collect-requires-clause-run
collect-requires-clause-run g c κs within =
    let q = c.args.query.now in
    subst (λ (r : RangeState). IsRun (meets_first q.conds) (shown_rows r.head r.tape) r.from r.upto) (sym c.new-range.ensures)
    (shown-runs _ _ _ _ _ c.self.view_is c.known.ensures c.requires.head c.requires.ready)

pub returns-clause-answered : goal.returns-clause-answered
returns-clause-answered g c =
    let s = c.self.inside in
    let live = logged_rows s.attribute s.tape in
    let rows : live ≡ rows_in c.args.self.now = ap (λ (v : AreaState). logged_rows v.attribute v.tape) c.self.view_is ∙ sym (rows-received c.args.self.now c.requires.received) in
    let once = subst (λ (r : RangeState). HoldsOnce key_of (shown_rows r.head r.tape) live) (sym c.new-range.ensures) (held-once _ c.self.invariant.0) in
    subst (λ (rs : List Row). IfOk c.collect.result (λ reply. reply ≡ answer rs c.args.query.now)) rows (c.collect.ensures.answered live once c.self.invariant.0.rows_rise)
