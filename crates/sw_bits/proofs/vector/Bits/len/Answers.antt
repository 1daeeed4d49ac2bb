use Rattle.std.proofs.Common.{◌∙◌, ap, sym, length}
use Rattle.sw_bits.proofs.Places.{length-places}
use Rattle.sw_bits.proofs.vector.Bits.len.Goals as goal

pub returns : goal.returns
returns c = sym (ap length (sym c.self.view_is) ∙ length-places c.self.inside.words.items 0 c.self.inside.len)
