use Rattle.std.proofs.Common.{◌≡◌, ◌∙◌, ◌<◌, ap, [], length, replicate, arith}
use Rattle.std.specs.List.{slice_split}
use Rattle.std.proofs.lemmas.Bool.Decides.{nat_tests}
use Rattle.std.proofs.lemmas.List.{length-replicate}
use Rattle.sw_lang.specs.Cuts.{CutLists}
use Rattle.sw_lang.specs.CutsReading.{cuts_after, is_divider, no_cuts}
use Rattle.sw_lang.proofs.Cutting.Steps.{empty_text, some_text}
use Rattle.sw_lang.proofs.reading.cuts.cuts_at.Goals as goal

pub returns-then-is_empty : goal.returns-then-is_empty
returns-then-is_empty c =
    let none : length c.args.text.now ≡ 0 = grind (arith, nat_tests) in
    let cuts : c.in_ok-cuts.cuts ≡ no_cuts c.args.schema.now = c.in_ok-cuts.ensures ∙ ap (λ n. replicate n []) c.len.ensures.value in
    empty_text c.args.schema.now c.args.text.now c.in_ok-cuts.cuts none cuts

pub loop-cuts-init : goal.loop-cuts-init
loop-cuts-init c =
    let some : 0 < length c.args.text.now = grind (arith, nat_tests) in
    let cuts : c.in_ok-cuts.cuts ≡ no_cuts c.args.schema.now = c.in_ok-cuts.ensures ∙ ap (λ n. replicate n []) c.len.ensures.value in
    let long : length c.in_ok-cuts.cuts ≡ length c.args.schema.now = ap length cuts ∙ length-replicate (length c.args.schema.now) [] in
    record {
      lists = long;
      left = ap (λ (w : CutLists). cuts_after c.args.schema.now w (slice_split is_divider c.args.text.now)) cuts ∙ some_text c.args.schema.now c.args.text.now some;
    }
