use Rattle.std.proofs.Common.{◌∷◌, []}
use Rattle.sw_lang.specs.Learning.{knowing}
use Rattle.sw_solo.proofs.Stands.{columns_stand}
use Rattle.sw_solo.proofs.solo.Solo.add_text.Goals as goal

pub invariant_of-self : goal.invariant_of-self
invariant_of-self g c =
    let s = c.self.inside in
    columns_stand c.add_text.result (knowing (c.args.text.now ∷ []) s.spine.columns) s.spine c.add_text.new.self s.seats.items s.cuts s.sessions c.add_text.ensures.added c.add_text.ensures.unchanged c.add_text.ensures.wide c.self.invariant
