use Rattle.std.proofs.Common.{◌≡◌, ◌<◌, ◌+◌, ◌^◌, ◌∙◌, [], ap, sym, List, Bool, true, false, length, length-set, get_or, slice_set, arith, rules}
use Rattle.std.proofs.lemmas.List.{get_or_read}
use Rattle.sw_table.specs.declared.row.Row.{Row}
use Rattle.sw_table.specs.Updates.{has_key, without}
use Rattle.sw_table.specs.Kept.{kept}
use Rattle.sw_table.specs.Live.{Living, live_rows}
use Rattle.sw_table.proofs.LiveFlags.{false-few, false-removed, set-same}
use Rattle.sw_table.proofs.LiveLaws.{kept-has, kept-lacks, kept-removed, without-lacks}
use Rattle.sw_table.proofs.Standing.{standing-removed}
use Rattle.sw_table.proofs.live.LiveTable.remove.Goals as goal

pub returns-in-None-clause-found : goal.returns-in-None-clause-found
returns-in-None-clause-found c = let s = c.self.inside in sym (kept-lacks c.args.key s.live.items s.came.items c.in-None.ensures) ∙ ap (λ (v : Living). has_key c.args.key (live_rows v)) c.self.view_is

pub returns-in-None-clause-rows : goal.returns-in-None-clause-rows
returns-in-None-clause-rows c =
    let s = c.self.inside in
    ap (λ (v : Living). live_rows v) (sym c.self.view_is)
    ∙ sym (without-lacks c.args.key s.live.items s.came.items c.in-None.ensures)
    ∙ ap (λ (v : Living). without c.args.key (live_rows v)) c.self.view_is

pub returns-then-not-index-clause-found : goal.returns-then-not-index-clause-found
returns-then-not-index-clause-found c =
    let none : Row = record { key = 0; cells = [] } in
    let s = c.self.inside in let fs = s.live.items in let at = c.in-Some.ensures in
    sym c.if-not-index.true ∙ get_or_read fs c.in-Some.place _ (omega (arith, at.0, c.self.invariant.many)) c.index.ensures false
    ∙ sym (kept-has c.args.key none fs s.came.items c.in-Some.place c.self.invariant.many c.self.invariant.rise at.0 (at.1 none))
    ∙ ap (λ (v : Living). has_key c.args.key (live_rows v)) c.self.view_is

pub returns-then-not-index-clause-rows : goal.returns-then-not-index-clause-rows
returns-then-not-index-clause-rows c =
    let none : Row = record { key = 0; cells = [] } in
    let s = c.self.inside in let fs = s.live.items in let at = c.in-Some.ensures in let p = c.in-Some.place in
    let off : get_or fs p true ≡ false = sym (get_or_read fs p _ (omega (arith, at.0, c.self.invariant.many)) c.index.ensures true) ∙ c.if-not-index.true in
    let gone : kept fs s.came.items ≡ without c.args.key (kept fs s.came.items) =
    ap (λ (v : List Bool). kept v s.came.items) (sym (set-same fs p false off)) ∙ kept-removed c.args.key none fs s.came.items p c.self.invariant.many c.self.invariant.rise at.0 (at.1 none) in
    ap (λ (v : Living). live_rows v) (sym c.self.view_is) ∙ gone ∙ ap (λ (v : Living). without c.args.key (live_rows v)) c.self.view_is

pub overflow_add-self : goal.overflow_add-self
overflow_add-self c =
    let s = c.self.inside in let fs = s.live.items in let at = c.in-Some.ensures in let p = c.in-Some.place in
    let on : get_or fs p false ≡ true = sym (get_or_read fs p _ (omega (arith, at.0, c.self.invariant.many)) c.index.ensures false) ∙ c.if-not-index.false in
    let more = false-removed fs p on in
    let few = false-few (slice_set fs p false) in
    let long = length-set fs p false in
    let fits : length fs < 2 ^ 64 = search rules in
    let h : s.dead + 1 < 2 ^ 64 = omega (arith, c.self.invariant.gone, more, few, long, fits) in
    search (rules, h)

pub invariant_of-self : goal.invariant_of-self
invariant_of-self c =
    let s = c.self.inside in let fs = s.live.items in let at = c.in-Some.ensures in let p = c.in-Some.place in
    let on : get_or fs p false ≡ true = sym (get_or_read fs p _ (omega (arith, at.0, c.self.invariant.many)) c.index.ensures false) ∙ c.if-not-index.false in
    standing-removed s.top s.came.items fs s.dead p c.self.invariant on

pub returns-else-not-index-clause-found : goal.returns-else-not-index-clause-found
returns-else-not-index-clause-found c =
    let none : Row = record { key = 0; cells = [] } in
    let s = c.self.inside in let fs = s.live.items in let at = c.in-Some.ensures in
    sym c.if-not-index.false ∙ get_or_read fs c.in-Some.place _ (omega (arith, at.0, c.self.invariant.many)) c.index.ensures false
    ∙ sym (kept-has c.args.key none fs s.came.items c.in-Some.place c.self.invariant.many c.self.invariant.rise at.0 (at.1 none))
    ∙ ap (λ (v : Living). has_key c.args.key (live_rows v)) c.self.view_is

pub returns-else-not-index-clause-rows : goal.returns-else-not-index-clause-rows
returns-else-not-index-clause-rows c =
    let none : Row = record { key = 0; cells = [] } in
    let s = c.self.inside in let fs = s.live.items in let at = c.in-Some.ensures in let p = c.in-Some.place in
    kept-removed c.args.key none fs s.came.items p c.self.invariant.many c.self.invariant.rise at.0 (at.1 none)
    ∙ ap (λ (v : Living). without c.args.key (live_rows v)) c.self.view_is

pub returns-else-not-index-clause-came : goal.returns-else-not-index-clause-came
returns-else-not-index-clause-came c = ap (λ (v : Living). let t : Living = record v { live = slice_set c.self.inside.live.items c.in-Some.place false } in t) c.self.view_is
