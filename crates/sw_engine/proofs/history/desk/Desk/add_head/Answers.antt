use Rattle.std.proofs.Common.{rules, ◌≡◌, ◌<◌, List, ◌++◌, sym, ap, ◌∙◌, subst, arith}
use Rattle.std.proofs.lemmas.List.{append-nil}
use Rattle.sw_table.specs.declared.row.Update.{Update}
use Rattle.sw_spine.specs.Table.{opened}
use Rattle.sw_spine.specs.Books.{new_books, took}
use Rattle.sw_spine.specs.Receivable.{AreUpdates}
use Rattle.sw_engine.specs.Desk.{DeskState}
use Rattle.sw_engine.proofs.Ties.{opening_updates, took_new}
use Rattle.sw_engine.proofs.history.desk.Desk.add_head.Goals as goal

pub invariant_of-result : goal.invariant_of-result
invariant_of-result g c =
    let j = g.J.Naming in
    let number = c.args.number in
    let none : opened j.opening ++ c.new.result.items ≡ opened j.opening = ap (λ (us : List Update). opened j.opening ++ us) (search rules) ∙ append-nil (opened j.opening) in
    let is : c.open-share.result.value ≡ new_books j.columns j.opening j.limit = c.open-share.ensures.share.1 ∙ (c.of.ensures ∙ (ap (λ (d : DeskState). d.books) c.self.view_is ∙ c.requires.begun)) in
    let less : number < 8 = omega (arith, c.requires.place, c.heads-heads.ensures.many, c.heads-heads.ensures.few) in record {
      named = c.open-share.ensures.name.1 ∙ c.self.invariant.heads_named;
      number_is = c.open-share.ensures.share.0 ∙ (ap (λ (d : DeskState). d.heads) c.self.view_is ∙ sym c.requires.number);
      taken = none ∙ sym (ap (took number) is ∙ took_new j.columns j.opening j.limit number less);
      most = c.heads-heads.ensures.most;
      may_come = subst (AreUpdates j.limit) (sym none) (opening_updates j.columns j.opening j.limit c.heads-heads.ensures.numbered c.heads-heads.ensures.within);
      place = c.requires.place;
      attribute = tt;
      few = less;
      receipted = tt;
    }
