use Rattle.std.proofs.Common.{◌≡◌, ◌∙◌, ◌++◌, ap, sym, subst, Bool, List}
use Rattle.sw_table.specs.Updates.{has_key, rows_of}
use Rattle.sw_table.specs.declared.row.Update.{Update}
use Rattle.sw_spine.specs.Table.{Stored, all_updates, is_live, opened}
use Rattle.sw_spine.proofs.StoreLemmas.{slots_live}
use Rattle.sw_spine.proofs.store.Store.has.Goals as goal

pub returns : goal.returns
returns c =
    let s = c.self.inside in
    let us : List Update = opened s.rows.items ++ s.later.items in
    subst (λ (v : Stored). c.is_live.result ≡ has_key c.args.key (rows_of (all_updates v))) c.self.view_is
    (c.is_live.ensures ∙ ap (λ (l : List Bool). is_live l c.args.key) c.as_slice.ensures.value ∙ sym (slots_live s.limit us (s.rows.items ++ s.came.items) s.live.items c.args.key c.self.invariant.0))
