use Rattle.std.proofs.Common.{◌<◌, ◌/◌, ◌%◌, ◌-◌, ◌*◌, ◌^◌, ◌&&◌, ℕ, Bool, List, false, arith, ap, sym, ◌∙◌, subst, length, get_or, set, bit_and}
use Rattle.std.proofs.lemmas.List.{get_or_read}
use Rattle.sw_bits.specs.Places.{AreWords, places}
use Rattle.sw_bits.proofs.Places.{length-places}
use Rattle.sw_bits.proofs.Refined.{words-refined, places-refined}
use Rattle.sw_bits.proofs.vector.Bits.refine.Goals as goal

pub index_mut-requires : goal.index_mut-requires
index_mut-requires c =
    let s = c.self.inside in
    let long = ap length (sym c.self.view_is) ∙ length-places s.words.items 0 s.len in
    omega (arith, long, c.self.invariant.enough, s.words.ok.0)

pub invariant_of-self : goal.invariant_of-self
invariant_of-self c =
    let s = c.self.inside in
    let i = c.args.i in
    let long = ap length (sym c.self.view_is) ∙ length-places s.words.items 0 s.len in
    let lt : i < s.len = omega (arith, long) in
    let inside : i / 64 < length s.words.items = omega (arith, c.self.invariant.enough) in
    let word = get_or_read s.words.items _ _ inside c.index_mut.ensures.value 0 in
    subst (λ (n : ℕ). AreWords (set s.words.items (i / 64) (bit_and c.index_mut.result.now (2 ^ 64 - 1 - n * 2 ^ (i % 64) % 2 ^ 64))) s.len) (sym c.from.ensures) (words-refined s.words.items i c.index_mut.result.now c.args.x inside word s.len lt c.self.invariant)

pub returns : goal.returns
returns c =
    let s = c.self.inside in
    let i = c.args.i in
    let long = ap length (sym c.self.view_is) ∙ length-places s.words.items 0 s.len in
    let lt : i < s.len = omega (arith, long) in
    let inside : i / 64 < length s.words.items = omega (arith, c.self.invariant.enough) in
    let word = get_or_read s.words.items _ _ inside c.index_mut.ensures.value 0 in
    ap (λ (n : ℕ). places (set s.words.items (i / 64) (bit_and c.index_mut.result.now (2 ^ 64 - 1 - n * 2 ^ (i % 64) % 2 ^ 64))) 0 s.len) c.from.ensures
    ∙ places-refined s.words.items i c.index_mut.result.now c.args.x inside word s.len lt
    ∙ ap (λ (v : List Bool). set v i (get_or v i false && c.args.x)) c.self.view_is
