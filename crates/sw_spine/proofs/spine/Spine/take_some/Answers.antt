use Rattle.std.proofs.Common.{◌≡◌, ◌<◌, ◌≤◌, ◌+◌, ◌++◌, Fits, List, length, take, drop, sym, ap, ◌∙◌, arith, subst, rules}
use Rattle.std.specs.Prelude.{slice_set}
use mir.Syntax.{w64}
use Rattle.std.proofs.lemmas.List.{take_min}
use Rattle.std.specs.List.{slice_index}
use Rattle.sw_table.specs.declared.row.Update.{Update}
use Rattle.sw_spine.specs.Receivable.{AreUpdates}
use Rattle.sw_spine.specs.Books.{Books, books_of, history_of, next_for, took, updates}
use Rattle.sw_spine.specs.Table.{all_updates}
use Rattle.sw_spine.proofs.Receivables.{may_come_taken, updates_may_come}
use Rattle.sw_spine.proofs.Spines.{some_few, some_took}
use Rattle.sw_spine.proofs.spine.Spine.take_some.Goals as goal

pub overflow_add-self : goal.overflow_add-self
overflow_add-self c =
    let s = c.self.inside in
    let us = all_updates s.store in
    let t = slice_index s.taken c.args.head in
    let high : t ≤ length us = subst (λ (l : List Update). t ≤ length l) c.self.invariant.updates_are (c.self.invariant.taken c.args.head c.requires.head).high in
    let few : t + length (take c.min.result (drop t us)) ≤ length us = some_few t c.min.result us high in
    let next : length (take c.min.result c.since-lacked.result.now) ≡ length (take c.min.result (drop t us)) = ap (λ (l : List Update). length (take c.min.result l)) c.since-lacked.ensures in
    let many : c.count-all.result ≡ length us = c.count-all.ensures in
    let fits : Fits w64 c.count-all.result = search rules in
    omega (arith, few, next, many, fits)

pub returns-then-is_err-clause-may_come : goal.returns-then-is_err-clause-may_come
returns-then-is_err-clause-may_come c =
    let s = c.self.inside in
    let b : Books = books_of s.schema s.store s.entries.items s.taken s.sessions s.published in
    subst (λ (o : Books). AreUpdates o.limit (took c.args.head o)) c.self.view_is (may_come_taken b.limit (slice_index b.taken c.args.head) (updates b) (updates_may_come (history_of b) c.self.invariant.sound.numbered c.self.invariant.sound.few))

pub returns-clause-took : goal.returns-clause-took
returns-clause-took c =
    let s = c.self.inside in
    let b : Books = books_of s.schema s.store s.entries.items s.taken s.sessions s.published in
    let t = slice_index s.taken c.args.head in
    let less : c.args.head < length s.taken = let heads = c.self.invariant.heads in omega (arith, heads, c.requires.head) in
    let is : c.since-lacked.result.now ≡ drop t (updates b) = c.since-lacked.ensures ∙ ap (λ (l : List Update). drop t l) (sym c.self.invariant.updates_are) in
    let next : take c.min.result c.since-lacked.result.now ≡ next_for c.args.head c.args.most b =
    ap (λ n. take n c.since-lacked.result.now) c.min.ensures ∙ (take_min c.args.most c.since-lacked.result.now ∙ ap (λ (l : List Update). take c.args.most l) is) in
    ap (λ (l : List Update). take (slice_index (slice_set s.taken c.args.head (t + length l)) c.args.head) (updates b)) next
    ∙ (some_took c.args.head c.args.most b less (c.self.invariant.taken c.args.head c.requires.head).high ∙ ap (λ (o : Books). took c.args.head o ++ next_for c.args.head c.args.most o) c.self.view_is)

pub returns-clause-may_come : goal.returns-clause-may_come
returns-clause-may_come c =
    let s = c.self.inside in
    let b : Books = books_of s.schema s.store s.entries.items s.taken s.sessions s.published in
    may_come_taken b.limit _ (updates b) (updates_may_come (history_of b) c.self.invariant.sound.numbered c.self.invariant.sound.few)
