use Rattle.std.proofs.Common.{rules, ◌≡◌, ◌∙◌, ◌++◌, ◌∷◌, [], sym, ap, append_assoc}
use Rattle.sw_cli.proofs.Lists.{map_push}
use Rattle.sw_cli.proofs.serving.parted.Goals as goal

pub loop-one-preserved : goal.loop-one-preserved
loop-one-preserved g c =
    let i = c.loop-one.invariant in
    let t = c.in-Some.one in
    let ts = c.loop-one.yielded in
    let ended : c.push.new.self.items ≡ c.loop-one.tickets.items ++ t.ticket ∷ [] = search rules in
    let told : c.push-in-loop-one.new.self.items ≡ c.loop-one.all_told.items ++ t.told ∷ [] = search rules in
    record {
      tickets = ended ∙ (ap (λ l. l ++ t.ticket ∷ []) i.tickets ∙ sym (map_push (λ d. d.ticket) ts t));
      told = told ∙ (ap (λ l. l ++ t.told ∷ []) i.told ∙ sym (map_push (λ d. d.told) ts t));
      all = append_assoc ts (t ∷ []) c.next.new.self.rest.items ∙ (ap (λ xs. ts ++ xs) (sym c.in-Some.ensures.steps.0) ∙ i.all);
    }
