use Rattle.std.proofs.Common.{◌≡◌, ◌≤◌, ◌+◌, ◌++◌, true, length, map, sym, ◌∙◌, ap, subst, All, List}
use Rattle.std.specs.Prelude.{None}
use Rattle.sw_query.specs.declared.query.Call.TheVariants.{Select}
use Rattle.sw_table.specs.declared.row.Update.{Update}
use Rattle.sw_spine.specs.Table.{all_updates, reply_to}
use Rattle.sw_spine.specs.History.{CallsBelow}
use Rattle.sw_spine.specs.Books.{Books, books_of, is_opened, reply_now, told_entry, waits_for}
use Rattle.sw_spine.proofs.Together.{kept_all_told}
use Rattle.sw_spine.proofs.spine.Spine.add_all_answered.Goals as goal

pub invariant_of-self-2 : goal.invariant_of-self-2
invariant_of-self-2 c =
    let s = c.self.inside in
    let told = c.args.told.items in
    let b : Books = books_of s.schema s.store s.entries.items s.taken s.sessions s.published in
    let opened : is_opened c.args.session b ≡ true = ap (is_opened c.args.session) c.self.view_is ∙ c.requires.opened in
    let rest : waits_for c.args.session b ≡ None = ap (waits_for c.args.session) c.self.view_is ∙ c.requires.rest in
    let asks : All (λ t. CallsBelow (length s.schema) (Select t.0)) told = subst (λ (o : Books). All (λ t. CallsBelow (length o.columns) (Select t.0)) told) (sym c.self.view_is) c.requires.asks in
    let short : length s.entries.items + length told ≤ 1048576 = subst (λ (o : Books). length o.entries + length told ≤ 1048576) (sym c.self.view_is) c.requires.room in
    let known : All (λ t. t.1 ≡ reply_now (Select t.0) b) told = subst (λ (o : Books). All (λ t. t.1 ≡ reply_now (Select t.0) o) told) (sym c.self.view_is) c.requires.replies in
    let replies : All (λ t. t.1 ≡ reply_to s.store.limit (all_updates s.store) (Select t.0)) told = subst (λ (us : List Update). All (λ t. t.1 ≡ reply_to s.store.limit us (Select t.0)) told) c.self.invariant.updates_are known in
    let grown : c.push_told.new.entries.items ≡ s.entries.items ++ map (told_entry c.args.session) told = c.push_told.ensures ∙ ap (λ es. es ++ map (told_entry c.args.session) told) c.in_ok-make_room.ensures.items in
    rw grown (kept_all_told s.schema s.store s.taken s.sessions s.published s.places.items c.args.session told s.entries.items c.self.invariant opened rest asks replies short)
