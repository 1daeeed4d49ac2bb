use Rattle.std.proofs.Common.{ap}
use Rattle.sw_rows.specs.Slots.{slots_in}
use Rattle.sw_rows.proofs.schema.slots.Slots.clear.Goals as goal

pub returns : goal.returns
unfolding slots_in
returns c = ap (λ es. slots_in es c.clear-2.new.self.items c.clear-3.new.self.items c.clear-4.new.self.items) c.clear.ensures.items
