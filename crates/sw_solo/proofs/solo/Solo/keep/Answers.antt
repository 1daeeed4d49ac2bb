use Rattle.std.proofs.Common.{◌∙◌, ap, refl, sym, subst}
use Rattle.sw_query.specs.declared.query.Call.TheVariants.{Select}
use Rattle.sw_solo.specs.Called.{HasCalled, SoloState, reply_in, solo_of}
use Rattle.sw_solo.proofs.Settles.{called}
use Rattle.sw_solo.proofs.solo.Solo.keep.Goals as goal

pub returns-clause-called : goal.returns-clause-called
returns-clause-called g c =
    let s = c.self.inside in
    let q = c.args.query in
    subst (λ (v : SoloState). HasCalled c.args.session (Select q) v (solo_of c.finish.new.self) c.args.reply) c.self.view_is
    (called c.args.session s.spine c.begin.new.self c.finish.new.self q q c.args.reply c.args.reply (c.self.invariant.0 c.args.session) refl (c.requires.reply ∙ ap (λ (v : SoloState). reply_in v (Select q)) (sym c.self.view_is)) refl c.in_ok-begin.ensures.begun c.finish.ensures.finished)
