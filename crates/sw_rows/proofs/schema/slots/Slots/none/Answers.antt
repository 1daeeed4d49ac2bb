use Rattle.std.proofs.Common.{ap}
use Rattle.sw_rows.specs.Slots.{slots_in}
use Rattle.sw_rows.proofs.schema.slots.Slots.none.Goals as goal

pub returns : goal.returns
unfolding slots_in
returns c = ap (λ es. slots_in es c.new-2.result.items c.new-3.result.items c.new-4.result.items) c.new.ensures.items
