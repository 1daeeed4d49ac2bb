use Rattle.std.proofs.Common.{◌∙◌, ◌%◌, ◌++◌, ◌∷◌, [], All, subst, sym}
use Rattle.std.proofs.lemmas.Bool.{cond-false, cond-true}
use Rattle.std.proofs.lemmas.List.Elements.{All-push, All-set}
use Rattle.sw_rows.specs.Slots.{IsTrueOf}
use Rattle.sw_rows.proofs.schema.recent.Recent.put.Goals as goal

pub returns-then-many-ge-MOST_SLOTS : goal.returns-then-many-ge-MOST_SLOTS
returns-then-many-ge-MOST_SLOTS c ts noted were =
    let P = IsTrueOf ts in
    subst (All P) (sym c.set.ensures) (All-set P c.args.self.now.slots (c.args.code % 65535) c.args.slot noted were)

pub returns-then-not-push : goal.returns-then-not-push
returns-then-not-push c ts noted were =
    let slots = c.args.self.now.slots in
    subst (All (IsTrueOf ts)) (sym (c.push.ensures ∙ cond-false c.push.result (slots ++ c.args.slot ∷ []) slots c.if-not-push.true)) were

pub returns : goal.returns
returns c ts noted were =
    let P = IsTrueOf ts in
    let slots = c.args.self.now.slots in
    subst (All P) (sym (c.push.ensures ∙ cond-true c.push.result (slots ++ c.args.slot ∷ []) slots c.if-not-push.false)) (All-push P slots c.args.slot were noted)
