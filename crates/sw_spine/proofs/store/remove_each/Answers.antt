use Rattle.std.proofs.Common.{◌∙◌, ◌++◌, ◌∷◌, ◌<◌, [], ap, sym, length, map, take, get_or, ℕ, List, append_assoc, arith}
use Rattle.std.proofs.lemmas.List.{map_push, take_more}
use Rattle.sw_table.specs.declared.row.Update.{Update}
use Rattle.sw_table.specs.declared.row.Update.TheVariants.{Remove}
use Rattle.sw_spine.proofs.store.remove_each.Goals as goal

pub loop-key-preserved : goal.loop-key-preserved
loop-key-preserved c =
    let i = c.loop-key.key-index in
    let ks = c.args.keys.now in
    let was : List Update = c.args.later.now.items in
    let lt : i < length ks = omega (arith, c.loop-key-test.true) in
    let one : ℕ → Update = λ (k : ℕ). Remove k in
    record {
      items =
          c.remove.ensures.later
          ∙ ap (λ (l : List Update). l ++ Remove (get_or ks i 0) ∷ []) c.loop-key.invariant.items
          ∙ append_assoc was (map one (take i ks)) (Remove (get_or ks i 0) ∷ [])
          ∙ ap (λ (l : List Update). was ++ l) (sym (ap (map one) (take_more ks i 0 lt) ∙ map_push one (take i ks) (get_or ks i 0)));
      listed = λ given some from num l. c.remove.ensures.listed given some from num (c.loop-key.invariant.listed given some from num l);
      slots = λ limit us given s. c.remove.ensures.slots limit us given (c.loop-key.invariant.slots limit us given s);
      room = omega (arith, lt, c.remove.ensures.len, c.remove.ensures.room, c.loop-key.invariant.room);
    }
