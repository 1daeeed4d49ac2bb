use Rattle.std.proofs.Common.{◌∙◌, length, ap}
use Rattle.sw_spine.proofs.Spines.{forgotten_width, kept_columns}
use Rattle.sw_spine.proofs.spine.Spine.forget_texts.Goals as goal

pub invariant_of-self : goal.invariant_of-self
invariant_of-self c =
    let s = c.self.inside in
    kept_columns s.schema c.forget_texts.new.self s.store s.entries.items s.taken s.sessions s.published s.places.items c.self.invariant (ap length c.forget_texts.ensures ∙ forgotten_width c.args.count s.schema)
