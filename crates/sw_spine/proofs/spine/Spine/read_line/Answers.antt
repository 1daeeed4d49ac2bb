use Rattle.sw_spine.proofs.Spines.{kept_columns, read_width}
use Rattle.sw_spine.proofs.spine.Spine.read_line.Goals as goal

pub invariant_of-self : goal.invariant_of-self
invariant_of-self c =
    let s = c.self.inside in
    kept_columns s.schema c.parse_line.new.schema s.store s.entries.items s.taken s.sessions s.published s.places.items c.self.invariant (read_width s.schema c.parse_line.new.schema c.args.text.now c.parse_line.result c.parse_line.ensures.learned c.parse_line.ensures.unchanged)
