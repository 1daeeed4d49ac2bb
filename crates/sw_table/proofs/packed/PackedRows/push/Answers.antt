use Rattle.std.proofs.Common.{◌≡◌, ◌∙◌, ◌++◌, ◌∷◌, [], ap, sym, subst, List, ℕ, ℤ, length, take, arith, rules}
use Rattle.std.proofs.lemmas.List.{length-take-le}
use Rattle.sw_table.specs.declared.row.Row.{Row}
use Rattle.sw_table.specs.Packed.{IsWithin, Packed, rows_in}
use Rattle.sw_table.proofs.Packing.{pushed-whole, row-within, rows-push}
use Rattle.sw_table.proofs.packed.PackedRows.push.Goals as goal

pub invariant_of-self-in-Ok : goal.invariant_of-self-in-Ok
invariant_of-self-in-Ok c =
    let s = c.self.inside in let row = c.args.row.now in
    let all : length row.cells ≡ 8 = search rules in
    let long : length (take s.width row.cells) ≡ s.width = length-take-le s.width row.cells (omega (arith, all, c.self.invariant.most)) in
    rw (c.in-Ok.ensures.ok, c.in_ok-extend_from_slice.ensures.ok) (pushed-whole s.width s.keys s.cells row.key (take s.width row.cells) c.self.invariant long)

pub returns-in-Ok-clause-ok : goal.returns-in-Ok-clause-ok
returns-in-Ok-clause-ok c =
    let s = c.self.inside in let row = c.args.row.now in
    let fits : IsWithin s.width row = subst (λ (v : Packed). IsWithin v.width row) (sym c.self.view_is) c.requires in
    let rows : rows_in s.width c.push.new.self c.extend_from_slice.new.self ≡ rows_in s.width s.keys s.cells ++ row ∷ [] =
    ap (λ (ks : List ℕ). rows_in s.width ks c.extend_from_slice.new.self) c.in-Ok.ensures.ok
    ∙ ap (λ (cs : List ℤ). rows_in s.width (s.keys ++ row.key ∷ []) cs) c.in_ok-extend_from_slice.ensures.ok
    ∙ rows-push s.width s.keys s.cells row.key (take s.width row.cells) c.self.invariant.whole
    ∙ ap (λ (r : Row). rows_in s.width s.keys s.cells ++ r ∷ []) (row-within s.width row fits) in
    ap (λ (rs : List Row). let p : Packed = record { width = s.width; items = rs } in p) rows
    ∙ ap (λ (v : Packed). let p : Packed = record v { items = v.items ++ row ∷ [] } in p) c.self.view_is
