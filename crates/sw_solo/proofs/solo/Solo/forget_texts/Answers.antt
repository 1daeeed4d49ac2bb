use Rattle.sw_spine.specs.Books.{forgetting}
use Rattle.sw_solo.proofs.Stands.{columns_left}
use Rattle.sw_solo.proofs.solo.Solo.forget_texts.Goals as goal

pub invariant_of-self : goal.invariant_of-self
invariant_of-self g c =
    let s = c.self.inside in
    columns_left (forgetting c.args.count s.spine.columns) s.spine c.forget_texts.new.self s.seats.items s.cuts s.sessions c.forget_texts.ensures.left c.forget_texts.ensures.wide c.self.invariant
