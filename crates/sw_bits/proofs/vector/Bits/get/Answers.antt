use Rattle.std.proofs.Common.{◌≡◌, ℕ, ◌+◌, ◌<◌, ◌%◌, arith, ap, sym, ◌∙◌, length, false, get_or, eqb, List, Bool}
use Rattle.std.proofs.lemmas.List.{get_or_read}
use Rattle.std.specs.Int.{bit_at}
use Rattle.sw_bits.specs.Places.{holds}
use Rattle.sw_bits.proofs.Places.{length-places, get_or-places}
use Rattle.sw_bits.proofs.vector.Bits.get.Goals as goal

pub index-requires : goal.index-requires
index-requires c =
    let s = c.self.inside in
    omega (arith, ap length c.self.view_is, length-places s.words.items 0 s.len, s.words.ok.0)

pub returns : goal.returns
returns c =
    let s = c.self.inside in
    let i = c.args.i in
    let lt : i < s.len = omega (arith, ap length c.self.view_is, length-places s.words.items 0 s.len) in
    let word = get_or_read s.words.items _ _ (omega (arith, s.words.ok.0)) c.index.ensures 0 in
    let at = ap (λ (v : List Bool). get_or v i false) (sym c.self.view_is) ∙ get_or-places s.words.items 0 s.len i false lt ∙ ap (holds s.words.items) (let e : 0 + i ≡ i = omega arith in e) in
    ap (λ (v : ℕ). eqb (bit_at v (i % 64)) 1) word ∙ sym at
