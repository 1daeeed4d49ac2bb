use Rattle.std.proofs.Common.{◌≡◌, ◌∙◌, ap, sym, arith, length}
use Rattle.sw_spine.specs.Books.{Books, new_books}
use Rattle.sw_engine.proofs.Ties.{get_below}
use Rattle.sw_engine.proofs.Whole.{ends_new}
use Rattle.sw_engine.proofs.history.desk.Desk.open.Goals as goal

pub invariant_of-desk : goal.invariant_of-desk
invariant_of-desk g c =
    let j = g.J.Naming in
    let ground = c.args.ground in
    let is : c.in_ok-spine.spine ≡ new_books j.columns j.opening j.limit = c.in_ok-spine.ensures.1 ∙ (λ i. new_books (ground.columns i) (ground.rows_are i) (ground.limit_is i)) in
    let none = ap length c.requires.none.0 in
    record {
      sessions_named = c.requires.books.0;
      heads_named = c.requires.books.1;
      many_are = sym none;
      of = record { columns_are = ap (λ (b : Books). b.columns) is; rows_are = ap (λ (b : Books). b.rows) is; limit_is = ap (λ (b : Books). b.limit) is };
      tied = record {
        shown = λ k r e. absurd (omega (arith, get_below c.args.sessions.rows k r e, none));
        taken = λ k r e. absurd (omega (arith, get_below c.args.heads.rows k r e, ap length c.requires.none.1));
        as_many = none ∙ sym (ap (λ (b : Books). b.sessions) is);
        few = omega (arith, ap length c.requires.none.1);
      };
      behind = λ k r e. absurd (omega (arith, get_below c.args.sessions.rows k r e, none));
      ends = ends_new j.columns j.opening j.limit c.in_ok-spine.spine is;
      most_is = c.requires.may.0;
      few = let may = c.requires.may in omega (arith, may.0, may.1);
      within = let many : c.in_ok-spine.spine.sessions ≡ 0 = ap (λ (b : Books). b.sessions) is in omega (arith, many);
    }
