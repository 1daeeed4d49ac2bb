use Rattle.std.proofs.Common.{◌∙◌, ◌≤◌, ◌<◌, ◌++◌, ◌∷◌, [], ap, sym, ℕ, Bool, List, cond, get_or, length, take, arith}
use Rattle.std.proofs.lemmas.List.{append-nil, length-map, take_all}
use Rattle.sw_table.specs.Kept.{kept}
use Rattle.sw_table.proofs.LiveLaws.{kept-nil, kept-step}
use Rattle.sw_spine.specs.Listed.{flags_at}
use Rattle.sw_spine.proofs.given.Given.live_places.Goals as goal
use Rattle.sw_spine.proofs.given.Given.live_places.Goals.{then-is_live+in_ok-push, else-is_live}

pub loop-number-init : goal.loop-number-init
loop-number-init c = c.new-found.ensures.items ∙ sym (kept-nil (flags_at c.args.self.now.places c.args.self.now.live))

pub loop-number-preserved : goal.loop-number-preserved
loop-number-preserved c =
    let places = c.args.self.now.places in
    let flags = flags_at places c.args.self.now.live in
    let i = c.loop-number.number in
    let lt : i < length places = omega (arith, c.loop-number-test.true, c.places-number-end.ensures, length-map places (λ p. get_or c.args.self.now.rows p (record { key = 0; cells = [] }))) in
    let more = kept-step flags places i 0 lt in
    elim c.if-is_live.branch [
      | then-is_live+in_ok-push w ↦
          ap (λ (v : _). v.items) w.found-is
          ∙ w.in_ok-push.ensures.items
          ∙ ap (λ (l : List ℕ). l ++ w.place.result ∷ []) c.loop-number.invariant
          ∙ ap (λ (p : ℕ). kept flags (take i places) ++ p ∷ []) w.place.ensures.place
          ∙ ap (λ (b : Bool). kept flags (take i places) ++ cond b (get_or places i 0 ∷ []) []) (sym w.if-is_live.true ∙ c.is_live.ensures)
          ∙ sym more
      | else-is_live w ↦
          ap (λ (v : _). v.items) w.found-is
          ∙ c.loop-number.invariant
          ∙ sym (append-nil (kept flags (take i places)))
          ∙ ap (λ (b : Bool). kept flags (take i places) ++ cond b (get_or places i 0 ∷ []) []) (sym w.if-is_live.false ∙ c.is_live.ensures)
          ∙ sym more
    ]

pub returns : goal.returns
returns c =
    let places = c.args.self.now.places in
    let flags = flags_at places c.args.self.now.live in
    let le : length places ≤ c.loop-number.number = omega (arith, c.loop-number-test.false, c.places-number-end.ensures, length-map places (λ p. get_or c.args.self.now.rows p (record { key = 0; cells = [] }))) in
    c.loop-number.invariant ∙ ap (kept flags) (take_all c.loop-number.number places le)
