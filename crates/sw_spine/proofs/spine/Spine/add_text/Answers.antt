use Rattle.sw_spine.proofs.Spines.{add_width, kept_columns}
use Rattle.sw_spine.proofs.spine.Spine.add_text.Goals as goal

pub invariant_of-self : goal.invariant_of-self
invariant_of-self c =
    let s = c.self.inside in
    kept_columns s.schema c.add_text.new.self s.store s.entries.items s.taken s.sessions s.published s.places.items c.self.invariant (add_width s.schema c.add_text.new.self c.args.text.now c.add_text.result c.add_text.ensures.added c.add_text.ensures.refused)
