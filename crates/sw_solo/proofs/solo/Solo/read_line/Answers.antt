use Rattle.sw_lang.specs.Learning.{learned}
use Rattle.sw_solo.proofs.Stands.{columns_stand}
use Rattle.sw_solo.proofs.solo.Solo.read_line.Goals as goal

pub invariant_of-self : goal.invariant_of-self
invariant_of-self g c =
    let s = c.self.inside in
    columns_stand c.read_line.result (learned s.spine.columns c.args.text.now) s.spine c.read_line.new.self s.seats.items s.cuts s.sessions c.read_line.ensures.learned c.read_line.ensures.unchanged c.read_line.ensures.wide c.self.invariant
