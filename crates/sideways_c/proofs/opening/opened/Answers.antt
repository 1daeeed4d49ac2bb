use Rattle.std.proofs.Common.{◌≡◌, ◌∙◌, Ok, Err, refl}
use Rattle.sw_rows.specs.Tables.{shown_packed}
use Rattle.sw_lang.specs.Cuts.{CutLists}
use Rattle.sw_lang.specs.Reading.{Answers}
use Rattle.sideways_c.specs.Opened.{cuts_in}
use Rattle.sideways_c.proofs.Opens.{cuts_refuse}
use Rattle.sideways_c.proofs.opening.opened.Goals as goal

pub returns-in-Err : goal.returns-in-Err
returns-in-Err c =
    let t = shown_packed (c.args.schema, c.args.rows) in
    let refused : Answers {A = CutLists} (Err c.in-Err.e) (cuts_in t.columns c.args.over.cuts.now) = c.in-Err.ensures.answers in
    cuts_refuse (Ok t) c.args.over.cuts.now c.args.over.options.limit t c.in-Err.e refl refused

pub returns-in-Ok-supply : goal.returns-in-Ok-supply
returns-in-Ok-supply c =
    let t = shown_packed (c.args.schema, c.args.rows) in
    let lists : cuts_in t.columns c.args.over.cuts.now ≡ Ok c.in-Ok.cuts = c.in-Ok.ensures.answers in
    (t, c.in-Ok.cuts, refl, lists, c.supply.ensures.same ∙ c.in-Ok-open.ensures.opened)
