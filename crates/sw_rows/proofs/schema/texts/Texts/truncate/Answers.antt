use Rattle.std.proofs.Common.{◌≡◌, ◌∙◌, ap, sym, map, string_bytes, take}
use Rattle.std.specs.List.{take-map}
use Rattle.sw_rows.proofs.Schemas.TextLemmas.{texts_fewer}
use Rattle.sw_rows.proofs.schema.texts.Texts.truncate.Goals as goal

-- the texts that are left
left : (c : goal.After-clear) → map string_bytes c.truncate.new.self.keys ≡ take c.args.len c.args.self.now
left c = ap (map string_bytes) c.truncate.ensures.keys ∙ sym (take-map string_bytes c.args.len c.self.inside.texts.keys) ∙ ap (take c.args.len) c.self.view_is

pub invariant_of-self : goal.invariant_of-self
invariant_of-self c = (rw (left c) (texts_fewer c.args.len c.args.self.now (rw c.self.view_is at c.self.invariant.0)), c.clear.ensures (map string_bytes c.truncate.new.self.keys))

pub returns : goal.returns
returns c = left c
