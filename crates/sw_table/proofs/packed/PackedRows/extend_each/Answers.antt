use Rattle.std.proofs.Common.{◌≡◌, ◌∙◌, ◌++◌, ◌∷◌, ◌<◌, [], ap, sym, drop, length, length-drop, take, List, get_or, subst, arith}
use Rattle.std.proofs.lemmas.List.{append_assoc, get_or-drop, get_or-take, length-take-le, take_more}
use Rattle.sw_table.specs.declared.row.Row.{Row}
use Rattle.sw_table.specs.Packed.{IsWithin}
use Rattle.sw_table.proofs.packed.PackedRows.extend_each.Goals as goal

pub loop-done-preserved : goal.loop-done-preserved
loop-done-preserved c =
    let none : Row = record { key = 0; cells = [] } in
    let i = c.loop-done.done in let s = c.args.start in let rs = c.args.rows.now.items in let xs = c.args.self.now.items in
    let lt : i < length (drop s rs) = omega (arith, c.loop-done-test.true, c.requires, length-drop s rs) in
    let here : c.get.result ≡ get_or (take c.args.many (drop s rs)) i none =
    c.get.ensures none ∙ sym (get_or-drop s rs i none) ∙ sym (get_or-take c.args.many (drop s rs) i none c.loop-done-test.true) in
    let inside : i < length (take c.args.many (drop s rs)) = omega (arith, c.loop-done-test.true, length-take-le c.args.many (drop s rs) (omega (arith, c.requires, length-drop s rs))) in
    record {
      items =
          c.in_default.ensures.ok
          ∙ ap (λ (v : List Row). v ++ c.get.result ∷ []) c.loop-done.invariant.items
          ∙ append_assoc xs (take i (drop s rs)) (c.get.result ∷ [])
          ∙ ap (λ (r : Row). xs ++ (take i (drop s rs) ++ r ∷ [])) (c.get.ensures none ∙ sym (get_or-drop s rs i none))
          ∙ ap (λ (v : List Row). xs ++ v) (sym (take_more (drop s rs) i none lt));
      width = λ all.
          let same = c.loop-done.invariant.width all in
          let fits : IsWithin c.args.self.now.width c.get.result = subst (IsWithin c.args.self.now.width) (sym here) (all i none inside) in
          c.in_default.ensures.width (subst (λ n. IsWithin n c.get.result) (sym same) fits) ∙ same;
    }
