use Rattle.std.proofs.Common.{refl}
use Rattle.sw_keys.proofs.renaming.new_key.Goals as goal

pub returns : goal.returns
returns c = (c.in-Some.place, refl, c.is_at-there.ensures c.if-not-there.false)
