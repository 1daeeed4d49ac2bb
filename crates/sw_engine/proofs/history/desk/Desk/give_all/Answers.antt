use Rattle.std.proofs.Common.{None, ◌≡◌, [], ◌∷◌, ◌++◌, sym, ap, ◌∙◌, append_assoc, subst}
use Rattle.std.proofs.lemmas.List.Elements.{All-push}
use Rattle.sw_spine.specs.History.{mine}
use Rattle.sw_spine.specs.Books.{Books, waits_for}
use Rattle.sw_engine.specs.Desk.{AreGiven}
use Rattle.sw_engine.specs.Own.{IsEnded}
use Rattle.sw_engine.specs.Published.{Shown}
use Rattle.sw_engine.proofs.Ties.{given_push}
use Rattle.sw_engine.proofs.history.desk.Desk.give_all.Goals as goal

pub loop-ticket-preserved : goal.loop-ticket-preserved
loop-ticket-preserved g c =
    let i = c.loop-ticket.invariant in
    let t = c.in-Some.ticket in
    let b = c.loop-ticket.self.books in
    let seen = c.ticket.view_is in
    let ts = c.loop-ticket.yielded in record {
      books = c.give.ensures.books ∙ i.books;
      mine = All-push (λ u. mine u.0 c.args.self.now.books.entries ≡ u.1) ts t i.mine (ap (λ (b : Books). mine t.0 b.entries) (sym i.books) ∙ subst (λ (v : Shown). mine v.0 b.entries ≡ v.1) seen c.give.ensures.mine);
      ended = All-push (IsEnded c.args.self.now.books.entries) ts t i.ended (subst (λ (b : Books). IsEnded b.entries t) i.books (subst (IsEnded b.entries) seen c.give.ensures.ended));
      rest = All-push (λ u. waits_for u.0 c.args.self.now.books ≡ None) ts t i.rest (ap (λ (b : Books). waits_for t.0 b) (sym i.books) ∙ subst (λ (v : Shown). waits_for v.0 b ≡ None) seen c.give.ensures.rest);
      given = given_push ts t c.args.self.now.given c.loop-ticket.self.given c.give.new.self.given i.given (subst (λ (v : Shown). AreGiven (v ∷ []) c.loop-ticket.self.given c.give.new.self.given) seen c.give.ensures.given);
      all = append_assoc ts (t ∷ []) c.next.new.self.rest.items ∙ (ap (λ xs. ts ++ xs) (sym c.in-Some.ensures.steps.0) ∙ i.all);
    }
