use Rattle.std.proofs.Common.{rules, w64, ◌≡◌, ◌≤◌, ◌∙◌, sym, ap, length, get_or, pos, unsigned_abs, arith}
use Rattle.std.proofs.lemmas.Int.{to_z-of_z}
use mir.Val.{SFits}
use Rattle.sw_map.specs.Held.{pairs_in}
use Rattle.sw_set.specs.Choice.{side_in}
use Rattle.sw_set.specs.declared.reply.window.Side.TheVariants.{Tail}
use Rattle.sw_set.proofs.Merging.Positions.{none-found, none-more}
use Rattle.sw_set.proofs.Replying.Stock.{side-long}
use Rattle.sw_set.proofs.merge.position.find_key.Goals as goal

pub unreachable-requires : goal.unreachable-requires
unreachable-requires g c =
    let m = g.M.CrackerMap.held c.args.it.now in
    let many : length (side_in Tail m) ≡ pairs_in m = side-long Tail m in
    let within : c.args.upto ≤ pairs_in m = c.requires.within in
    none-found (side_in Tail m) c.args.from c.args.upto c.args.key (λ k le lt. c.loop-place.invariant k le (omega (arith, lt))) (omega (arith, many, within)) c.requires.there

pub loop-place-preserved : goal.loop-place-preserved
loop-place-preserved g c =
    let m = g.M.CrackerMap.held c.args.it.now in
    let fits : SFits w64 c.value_at.result = search rules in
    let seen : c.unsigned_abs.result ≡ unsigned_abs (get_or (side_in Tail m) c.loop-place.place (pos 0)) = c.unsigned_abs.ensures.value ∙ ap unsigned_abs (to_z-of_z w64 c.value_at.result fits ∙ c.value_at.ensures) in
    none-more (side_in Tail m) c.args.from c.loop-place.place c.args.key c.loop-place.invariant (λ e. c.if-unsigned_abs-key.false (seen ∙ e))

pub returns-then-unsigned_abs-key-clause-found : goal.returns-then-unsigned_abs-key-clause-found
returns-then-unsigned_abs-key-clause-found g c =
    let m = g.M.CrackerMap.held c.args.it.now in
    let fits : SFits w64 c.value_at.result = search rules in
    let seen : c.unsigned_abs.result ≡ unsigned_abs (get_or (side_in Tail m) c.loop-place.place (pos 0)) = c.unsigned_abs.ensures.value ∙ ap unsigned_abs (to_z-of_z w64 c.value_at.result fits ∙ c.value_at.ensures) in
    sym seen ∙ c.if-unsigned_abs-key.true
