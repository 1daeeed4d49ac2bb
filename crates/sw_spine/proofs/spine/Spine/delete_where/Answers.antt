use Rattle.std.proofs.Common.{◌≡◌, ◌<◌, ◌∷◌, [], ◌++◌, true, length, sym, ◌∙◌, ap, subst, List}
use Rattle.std.specs.Prelude.{None}
use Rattle.sw_query.specs.declared.query.Call.TheVariants.{DeleteWhere}
use Rattle.sw_query.specs.declared.query.Cond.{Cond}
use Rattle.sw_spine.specs.Table.{all_updates, reply_to}
use Rattle.sw_spine.specs.History.{CallsBelow, entry}
use Rattle.sw_spine.specs.Books.{Books, books_of, is_opened, waits_for}
use Rattle.sw_spine.specs.declared.history.State.TheVariants.{Answered}
use Rattle.sw_spine.proofs.Spines.{kept_answered, pushed_entry}
use Rattle.sw_spine.proofs.spine.Spine.delete_where.Goals as goal

pub invariant_of-self-2 : goal.invariant_of-self-2
invariant_of-self-2 c =
    let s = c.self.inside in
    let conds : List Cond = c.args.conds in
    let b : Books = books_of s.schema s.store s.entries.items s.taken s.sessions s.published in
    let opened : is_opened c.args.session b ≡ true = ap (is_opened c.args.session) c.self.view_is ∙ c.requires.opened in
    let rest : waits_for c.args.session b ≡ None = ap (waits_for c.args.session) c.self.view_is ∙ c.requires.rest in
    let below : CallsBelow (length s.schema) (DeleteWhere conds) = subst (λ (o : Books). CallsBelow (length o.columns) (DeleteWhere conds)) (sym c.self.view_is) c.requires.below in
    let short : length s.entries.items < 1048576 = subst (λ (o : Books). length o.entries < 1048576) (sym c.self.view_is) c.requires.room in
    let same : c.in-DeleteWhere.conds ≡ conds = cc (sym c.in-DeleteWhere.is ∙ (c.get.ensures ∙ c.in_ok-call.ensures)) in
    let asked = c.as_slice.ensures ∙ same in
    let done = rw asked at c.in_ok-many-in-DeleteWhere.ensures in
    let grown : c.push_reserved.new.self.items ≡ s.entries.items ++ entry c.args.session (DeleteWhere conds) (Answered (reply_to s.store.limit (all_updates s.store) (DeleteWhere conds))) ∷ [] =
    pushed_entry _ _ _ _ _ _ _ _ _ c.push_reserved.ensures.items c.in_ok-make_room.ensures.items c.answered-entry.ensures c.in_ok-call.ensures (ap Answered done.0) in
    rw (grown, done.1) (kept_answered s.schema s.store s.entries.items s.taken s.sessions s.published s.places.items c.args.session (DeleteWhere conds) c.self.invariant opened rest below short)
