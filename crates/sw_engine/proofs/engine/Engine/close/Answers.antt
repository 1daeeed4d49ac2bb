use Rattle.std.proofs.Common.{rules, arith, ◌≡◌, ℕ, List, length, map, All, get_or, sym, ap, ◌∙◌, subst, ⊎_elim, inl, inr}
use Rattle.std.proofs.lemmas.List.{length-map}
use Rattle.sw_query.specs.declared.query.Call.{Call}
use Rattle.sw_query.specs.declared.reply.Reply.{Reply}
use Rattle.sw_spine.specs.History.{History, IsLegal, all_given, is_absent, mine}
use Rattle.sw_spine.specs.Books.{Books, waits_for}
use Rattle.sw_spine.specs.Rest.{none_open}
use Rattle.sw_spine.specs.declared.history.Entry.{Entry}
use Rattle.sw_engine.specs.Desk.{DeskState, IsMade}
use Rattle.sw_engine.specs.Headline.{IsHistoryOfOneThread}
use Rattle.sw_engine.specs.Locked.{LockState}
use Rattle.sw_engine.specs.Own.{IsEnded}
use Rattle.sw_engine.specs.Published.{Shown, answered_to}
use Rattle.sw_engine.proofs.Closing.{never_out}
use Rattle.sw_engine.proofs.Ties.{absent_or_named, all_mapped, all_named, given_length, opened_rests}
use Rattle.sw_engine.proofs.engine.Engine.close.Goals as goal

pub returns-clause-headline : goal.returns-clause-headline
returns-clause-headline g c =
    let d = c.end-desk.result in
    let all = c.all_back.new.tickets.items in
    let came = c.all_back.ensures in
    let ts = map answered_to all in
    let b = c.into_spine.result in
    let is = c.into_record.ensures.record_is in
    let spine = c.into_spine.ensures.spine in
    let of = c.into_spine.ensures.of in
    let same : b ≡ d.books = spine ∙ c.give_all.ensures.books in
    let kept : c.into_record.result.entries ≡ d.books.entries = ap (λ (h : History). h.entries) is ∙ ap (λ (x : Books). x.entries) same in
    let counted : length c.into_inner-desk.result.desk.given ≡ length c.args.tickets.items = search rules in
    let as_many : length d.given ≡ length all = ap (λ (x : DeskState). length x.given) c.end-desk.ensures ∙ (ap (λ (l : LockState). length l.desk.given) came.same ∙ (counted ∙ sym (ap length came.tickets))) in
    let mapped : length ts ≡ length all = length-map all answered_to in
    let made : length d.given ≡ b.sessions = sym (given_length all d.given c.give_all.new.self.given c.give_all.ensures.given) ∙ (c.into_spine.ensures.sessions ∙ ap (λ (x : Books). x.sessions) (sym spine)) in
    let j = g.J.Naming in
    subst (λ (l : List Shown). IsHistoryOfOneThread j.columns j.opening j.limit (map answered_to l) c.into_record.result) came.tickets record {
      columns_are = ap (λ (h : History). h.columns) is ∙ (ap (λ (x : Books). x.columns) spine ∙ of.columns_are);
      rows_are = ap (λ (h : History). h.rows) is ∙ (ap (λ (x : Books). x.rows) spine ∙ of.rows_are);
      limit_is = ap (λ (h : History). h.limit) is ∙ (ap (λ (x : Books). x.limit) spine ∙ of.limit_is);
      legal = subst IsLegal (sym is) c.into_record.ensures.legal;
      given = ap (λ (h : History). all_given h.entries) is ∙ c.into_record.ensures.given;
      answered = subst (λ (es : List Entry). All (λ (t : ℕ × List (Call × Reply)). mine t.0 es ≡ t.1) ts) (sym kept) (all_mapped (λ (t : ℕ × List (Call × Reply)). mine t.0 d.books.entries ≡ t.1) answered_to all c.give_all.ensures.mine);
      numbered = λ k lt. all_named all d.given c.give_all.new.self.given k c.give_all.ensures.given as_many (omega (arith, as_many, mapped, lt));
      others = λ s. ⊎_elim
          (λ gone. inl (ap (λ (h : History). is_absent s h.entries) is ∙ gone))
          (λ named. inr named)
          (absent_or_named all d.given c.give_all.new.self.given b c.give_all.ensures.given as_many made c.into_record.ensures.known s);
      closed = ap (λ (h : History). none_open h.entries) is
          ∙ c.into_record.ensures.closed (opened_rests all d.given c.give_all.new.self.given b c.give_all.ensures.given as_many made (λ i x lt. ap (waits_for (get_or all i x).0) same ∙ c.give_all.ensures.rest i x lt));
    }

pub returns-clause-ended : goal.returns-clause-ended
returns-clause-ended g c =
    let same : c.into_spine.result ≡ c.end-desk.result.books = c.into_spine.ensures.spine ∙ c.give_all.ensures.books in
    let kept : c.into_record.result.entries ≡ c.end-desk.result.books.entries = ap (λ (h : History). h.entries) c.into_record.ensures.record_is ∙ ap (λ (x : Books). x.entries) same in
    subst (λ (l : List Shown). All (IsEnded c.into_record.result.entries) l) c.all_back.ensures.tickets (subst (λ (es : List Entry). All (IsEnded es) c.all_back.new.tickets.items) (sym kept) c.give_all.ensures.ended)

pub returns-clause-made : goal.returns-clause-made
returns-clause-made g c =
    let counted : length c.into_inner-desk.result.desk.given ≡ length c.args.tickets.items = search rules in
    subst (λ n. All (IsMade n) c.args.tickets.items) counted c.all_back.ensures.made

pub returns-in-Err-clause-all : goal.returns-in-Err-clause-all
returns-in-Err-clause-all g c = λ are.
    let e = c.all_back.ensures in
    absurd (never_out g.J.Naming.most (length c.into_inner-desk.result.desk.given) c.args.tickets.items c.in-Err.refusal e.made e.few c.in-Err.ensures.out are)

pub returns-in-Err-clause-refused : goal.returns-in-Err-clause-refused
returns-in-Err-clause-refused g c =
    let e = c.all_back.ensures in
    (e.tickets, length c.into_inner-desk.result.desk.given, c.in-Err.ensures.out, e.few, e.made)
