use Rattle.std.proofs.Common.{◌≡◌, ◌∙◌, ◌+◌, ◌<◌, List, [], length, map, get_or, sym, ap, arith, All}
use Rattle.std.proofs.lemmas.List.{get_or-map}
use Rattle.sw_query.specs.declared.query.Call.{Call}
use Rattle.sw_engine.specs.Published.{Shown}
use Rattle.sw_cli.specs.Outcomes.{AreTold, SaysWhy, Told, blocks_told}
use Rattle.sw_cli.specs.Served.{AreAnswered}
use Rattle.sw_cli.proofs.Lists.{at_place, counted_at, length_map}
use Rattle.sw_cli.proofs.Records.{blocks_why, collected, no_ticket, record_of}
use Rattle.sw_cli.proofs.serving.serve.Given.{Over}
use Rattle.sw_cli.proofs.serving.serve.Goals as goal

-- what the sessions of the blocks were answered
all_made : (g : Over) (c : goal.In-Ok-close g) → AreTold c.args.blocks.now c.in-Ok-parted.told.items × AreAnswered 1 (blocks_told c.args.blocks.now c.in-Ok-parted.told.items) c.in-Ok-parted.ended.items
all_made g c =
    let w = c.in-Ok.work.items in
    let done = c.in-Ok-make_at_once.done.items in
    let blocks = c.args.blocks.now in
    let tells = c.in-Ok-parted.told.items in
    let tickets = c.in-Ok-parted.ended.items in
    let many : length w ≡ length blocks = sym (length_map (λ j. j.calls) w) ∙ ap length c.in-Ok.ensures.calls in
    let dones : length done ≡ length w = c.in-Ok-make_at_once.ensures.0 in
    let et : length tells ≡ length blocks = ap length c.in-Ok-parted.ensures.told ∙ (length_map (λ d. d.told) done ∙ (dones ∙ many)) in
    let ev : length tickets ≡ length blocks = ap length c.in-Ok-parted.ensures.tickets ∙ (length_map (λ d. d.ticket) done ∙ (dones ∙ many)) in
    collected 1 blocks tells tickets et ev (λ i less.
    let ltw : i < length w = omega (arith, less, many) in
    let ltd : i < length done = omega (arith, ltw, dones) in
    let j = (at_place w i ltw).0 in
    let d = (at_place done i ltd).0 in
    let made = c.in-Ok-make_at_once.ensures.1 i j d ltw in
    let ticket : get_or tickets i no_ticket ≡ (get_or done i d).ticket = ap (λ (l : List Shown). get_or l i no_ticket) c.in-Ok-parted.ensures.tickets ∙ get_or-map (λ d. d.ticket) done i d no_ticket ltd in
    let told : get_or tells i [] ≡ (get_or done i d).told = ap (λ (l : List (List Told)). get_or l i []) c.in-Ok-parted.ensures.told ∙ get_or-map (λ d. d.told) done i d [] ltd in
    let calls : get_or blocks i [] ≡ (get_or w i j).calls = ap (λ (l : List (List Call)). get_or l i []) (sym c.in-Ok.ensures.calls) ∙ get_or-map (λ j. j.calls) w i j [] ltw in
    let count = counted_at 1 (map (λ j. j.session.0) w) i 0 c.in-Ok.ensures.numbers (let e = length_map (λ j. j.session.0) w in omega (arith, e, ltw)) in
    let session : (get_or w i j).session.0 ≡ 1 + i = sym (get_or-map (λ j. j.session.0) w i j 0 ltw) ∙ count in
    (rw ticket (made.number ∙ session), rw (told, calls) made.all, rw (ticket, told, calls) made.made, rw (ticket, told, calls) made.left))

pub returns-in-Ok-close-clause-told : goal.returns-in-Ok-close-clause-told
returns-in-Ok-close-clause-told g c = (all_made g c).0

-- why calls were refused
said_why : (g : Over) (c : goal.In-Ok-close g) → All (λ (t : List Told). All SaysWhy t) c.in-Ok-parted.told.items
said_why g c = λ i e less.
    let w = c.in-Ok.work.items in
    let done = c.in-Ok-make_at_once.done.items in
    let tells = c.in-Ok-parted.told.items in
    let many : length tells ≡ length done = ap length c.in-Ok-parted.ensures.told ∙ length_map (λ d. d.told) done in
    let dones : length done ≡ length w = c.in-Ok-make_at_once.ensures.0 in
    let ltd : i < length done = omega (arith, less, many) in
    let ltw : i < length w = omega (arith, ltd, dones) in
    let j = (at_place w i ltw).0 in
    let d = (at_place done i ltd).0 in
    let told : get_or tells i e ≡ (get_or done i d).told = ap (λ (l : List (List Told)). get_or l i e) c.in-Ok-parted.ensures.told ∙ get_or-map (λ d. d.told) done i d e ltd in
    rw told (c.in-Ok-make_at_once.ensures.1 i j d ltw).why

pub returns-in-Ok-close-clause-why : goal.returns-in-Ok-close-clause-why
returns-in-Ok-close-clause-why g c = blocks_why c.args.blocks.now c.in-Ok-parted.told.items (said_why g c)

pub returns-in-Ok-close-clause-record_is : goal.returns-in-Ok-close-clause-record_is
returns-in-Ok-close-clause-record_is g c =
    record_of g.J.Naming.columns g.J.Naming.opening g.J.Naming.limit (blocks_told c.args.blocks.now c.in-Ok-parted.told.items) c.in-Ok-parted.ended.items c.in-Ok-close.record (all_made g c).1 c.in-Ok-close.ensures.headline c.in-Ok-close.ensures.ended
