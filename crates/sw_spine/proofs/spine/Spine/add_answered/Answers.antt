use Rattle.std.proofs.Common.{◌≡◌, ◌<◌, ◌∷◌, [], ◌++◌, true, length, sym, ◌∙◌, ap, subst}
use Rattle.std.specs.Prelude.{None}
use Rattle.sw_query.specs.declared.query.Call.TheVariants.{Select}
use Rattle.sw_spine.specs.Table.{all_updates, reply_to}
use Rattle.sw_spine.specs.History.{CallsBelow, entry}
use Rattle.sw_spine.specs.Books.{Books, books_of, is_opened, reply_now, waits_for}
use Rattle.sw_spine.specs.declared.history.State.TheVariants.{Answered}
use Rattle.sw_spine.proofs.Spines.{kept_told, pushed_entry}
use Rattle.sw_spine.proofs.spine.Spine.add_answered.Goals as goal

pub invariant_of-self-2 : goal.invariant_of-self-2
invariant_of-self-2 c =
    let s = c.self.inside in
    let b : Books = books_of s.schema s.store s.entries.items s.taken s.sessions s.published in
    let opened : is_opened c.args.session b ≡ true = ap (is_opened c.args.session) c.self.view_is ∙ c.requires.opened in
    let rest : waits_for c.args.session b ≡ None = ap (waits_for c.args.session) c.self.view_is ∙ c.requires.rest in
    let asks : CallsBelow (length s.schema) (Select c.args.query) = subst (λ (o : Books). CallsBelow (length o.columns) (Select c.args.query)) (sym c.self.view_is) c.requires.asks in
    let short : length s.entries.items < 1048576 = subst (λ (o : Books). length o.entries < 1048576) (sym c.self.view_is) c.requires.room in
    let known : c.args.reply ≡ reply_now (Select c.args.query) b = c.requires.reply ∙ ap (reply_now (Select c.args.query)) (sym c.self.view_is) in
    let reply : c.args.reply ≡ reply_to s.store.limit (all_updates s.store) (Select c.args.query) = known ∙ ap (λ us. reply_to s.store.limit us (Select c.args.query)) c.self.invariant.updates_are in
    let grown : c.push_reserved.new.self.items ≡ s.entries.items ++ entry c.args.session (Select c.args.query) (Answered (reply_to s.store.limit (all_updates s.store) (Select c.args.query))) ∷ [] =
    pushed_entry _ _ _ _ _ _ _ _ _ c.push_reserved.ensures.items c.in_ok-make_room.ensures.items c.answered-entry.ensures c.into_call.ensures (ap Answered reply) in
    rw grown (kept_told s.schema s.store s.entries.items s.taken s.sessions s.published s.places.items c.args.session c.args.query c.self.invariant opened rest asks short)
