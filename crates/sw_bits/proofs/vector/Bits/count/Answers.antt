use Rattle.std.proofs.Common.{◌≡◌, ◌*◌, ◌+◌, ℕ, List, sym, subst, ap, ◌∙◌, arith, length}
use Rattle.sw_bits.specs.Places.{places, AreWords}
use Rattle.sw_bits.proofs.Words.{trues, trues-next, trues-few, trues-all}
use Rattle.sw_bits.proofs.vector.Bits.count.Goals as goal

pub overflow_add-count : goal.overflow_add-count
overflow_add-count c =
    let ws = c.deref-word-items.result.now in
    let words = subst (λ (v : List ℕ). AreWords v c.self.inside.len) (sym c.deref-word-items.ensures.value) c.self.invariant in
    let next = trues-next ws c.loop-word.word-index c.loop-word.count (c.type_inv.word-items c.loop-word.word-index).fits c.loop-word.invariant in
    let few = trues-few ws c.self.inside.len (64 * (c.loop-word.word-index + 1)) words in
    let fits = words.fits in
    record { fits = omega (arith, few, next) }

pub loop-word-preserved : goal.loop-word-preserved
loop-word-preserved c = trues-next c.deref-word-items.result.now c.loop-word.word-index c.loop-word.count (c.type_inv.word-items c.loop-word.word-index).fits c.loop-word.invariant

pub returns : goal.returns
returns c =
    let ws = c.deref-word-items.result.now in
    let words = subst (λ (v : List ℕ). AreWords v c.self.inside.len) (sym c.deref-word-items.ensures.value) c.self.invariant in
    let end : c.loop-word.word-index ≡ length ws = omega arith in
    c.loop-word.invariant ∙ ap (λ (k : ℕ). trues (places ws 0 (64 * k))) end ∙ trues-all ws c.self.inside.len words ∙ ap (λ (v : List ℕ). trues (places v 0 c.self.inside.len)) c.deref-word-items.ensures.value ∙ ap trues c.self.view_is
