use Rattle.std.proofs.Common.{◌≡◌, ◌∙◌, ◌-◌, ◌++◌, ap, drop, subst, sym, take, List, arith}
use Rattle.sw_table.specs.declared.row.Row.{Row}
use Rattle.sw_table.specs.Rows.{cell_of}
use Rattle.sw_table.specs.Packed.{Packed}
use Rattle.sw_load.specs.Appended.{Fit, cell_or_key}
use Rattle.sw_load.proofs.Appended.{fit-behind}
use Rattle.sw_load.proofs.Halves.{appended-both, part-both}
use Rattle.sw_load.proofs.two_lists.TwoLists.append_part.Goals as goal

pub append_part-requires-2-clause-fit : goal.append_part-requires-2-clause-fit
append_part-requires-2-clause-fit c =
    let s = c.self.inside in let p = c.args.part in let t = c.min-start.result in let k = c.min-many.result in
    let halves : take p.many (drop p.start c.args.self.now.items) ≡ take k (drop t s.rows.items) ++ take (p.many - k) (drop (p.start - t) s.more.items) =
    ap (λ (v : Packed). take p.many (drop p.start v.items)) (sym c.self.view_is)
    ∙ part-both s.rows.items s.more.items p.start p.many t k (omega (arith, c.min-start.ensures, c.len-all.ensures.many)) (omega (arith, c.min-many.ensures, c.len-all.ensures.many)) in
    fit-behind c.args.columns.tail (take k (drop t s.rows.items)) (take (p.many - k) (drop (p.start - t) s.more.items)) (subst (λ (v : List Row). Fit c.args.columns.tail v) halves c.requires.fit)

pub returns-clause-heads : goal.returns-clause-heads
returns-clause-heads c =
    let s = c.self.inside in let p = c.args.part in let t = c.min-start.result in let k = c.min-many.result in
    let halves : take p.many (drop p.start c.args.self.now.items) ≡ take k (drop t s.rows.items) ++ take (p.many - k) (drop (p.start - t) s.more.items) =
    ap (λ (v : Packed). take p.many (drop p.start v.items)) (sym c.self.view_is)
    ∙ part-both s.rows.items s.more.items p.start p.many t k (omega (arith, c.min-start.ensures, c.len-all.ensures.many)) (omega (arith, c.min-many.ensures, c.len-all.ensures.many)) in
    appended-both (cell_of c.args.columns.head) _ _ _ _ _ _ halves c.append_part.ensures.heads c.append_part-2.ensures.heads

pub returns-clause-tails : goal.returns-clause-tails
returns-clause-tails c =
    let s = c.self.inside in let p = c.args.part in let t = c.min-start.result in let k = c.min-many.result in
    let halves : take p.many (drop p.start c.args.self.now.items) ≡ take k (drop t s.rows.items) ++ take (p.many - k) (drop (p.start - t) s.more.items) =
    ap (λ (v : Packed). take p.many (drop p.start v.items)) (sym c.self.view_is)
    ∙ part-both s.rows.items s.more.items p.start p.many t k (omega (arith, c.min-start.ensures, c.len-all.ensures.many)) (omega (arith, c.min-many.ensures, c.len-all.ensures.many)) in
    appended-both (cell_or_key c.args.columns.tail) _ _ _ _ _ _ halves c.append_part.ensures.tails c.append_part-2.ensures.tails
