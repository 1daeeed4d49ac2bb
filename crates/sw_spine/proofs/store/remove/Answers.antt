use Rattle.std.proofs.Common.{◌≡◌, ◌++◌, ◌∷◌, ◌∙◌, [], sym, ap, subst, Bool, List, append_assoc}
use Rattle.sw_table.specs.declared.row.Update.{Update}
use Rattle.sw_table.specs.declared.row.Update.TheVariants.{Remove}
use Rattle.sw_spine.specs.Listed.{IsListed}
use Rattle.sw_spine.specs.Table.{HasSlots, is_live}
use Rattle.sw_spine.proofs.ListedLemmas.{listed_remove}
use Rattle.sw_spine.proofs.StoreLemmas.{live_place, slots_absent, slots_remove}
use Rattle.sw_spine.proofs.store.remove.Goals as goal
use Rattle.sw_spine.proofs.store.remove.Goals.{then-is_live, else-is_live}

pub returns-clause-slots : goal.returns-clause-slots
returns-clause-slots c limit us given s =
    let was = c.args.live.now.items in
    let key = c.args.key in
    let more : List Update = (us ++ c.args.later.now.items) ++ Remove key ∷ [] in
    let same : us ++ c.push_reserved.new.self.items ≡ more = ap (λ (l : List Update). us ++ l) c.push_reserved.ensures.items ∙ sym (append_assoc us c.args.later.now.items (Remove key ∷ [])) in
    let told : c.is_live.result ≡ is_live was key = c.is_live.ensures ∙ ap (λ (l : List Bool). is_live l key) c.as_slice.ensures.value in
    let kept : HasSlots limit more given c.if-is_live.live.items =
    elim c.if-is_live.branch [
      | then-is_live w ↦ subst (λ (l : List Bool). HasSlots limit more given l) (sym (ap (λ (v : _). v.items) w.live-is)) (slots_remove limit (us ++ c.args.later.now.items) given was key s (sym told ∙ w.if-is_live.true))
      | else-is_live w ↦ subst (λ (l : List Bool). HasSlots limit more given l) (sym (ap (λ (v : _). v.items) w.live-is)) (slots_absent limit (us ++ c.args.later.now.items) given was key s (sym told ∙ w.if-is_live.false))
    ] in
    subst (λ (l : List Update). HasSlots limit l given c.if-is_live.live.items) (sym same) kept

pub returns-clause-listed : goal.returns-clause-listed
returns-clause-listed c given some from num l =
    let was = c.args.live.now.items in
    let key = c.args.key in
    let told : c.is_live.result ≡ is_live was key = c.is_live.ensures ∙ ap (λ (l : List Bool). is_live l key) c.as_slice.ensures.value in
    elim c.if-is_live.branch [
      | then-is_live w ↦ let at = live_place was key (sym told ∙ w.if-is_live.true) in subst (λ (fs : List Bool). IsListed given fs some from) (sym (ap (λ (v : _). v.items) w.live-is)) (listed_remove given was some from key at.0 at.1 num l)
      | else-is_live w ↦ subst (λ (fs : List Bool). IsListed given fs some from) (sym (ap (λ (v : _). v.items) w.live-is)) l
    ]
