use Rattle.std.proofs.Common.{◌∙◌, subst, ◌≡◌, ℕ, length}
use Rattle.sw_map.specs.declared.tail.Tail.TheVariants.{Key}
use Rattle.sw_map.specs.Held.{blank}
use Rattle.sw_map.specs.Lawful.{rows_by}
use Rattle.sw_kernel.specs.Arrangement.{joined}
use Rattle.sw_set.specs.Prepared.{IsPlace}
use Rattle.sw_set.proofs.Preparing.Ends.{at-end_of, found-stands, key-missing, pairs-at_end, place-found, stands-left, stands-right}
use Rattle.sw_set.proofs.prepare.range_of.Goals as goal

pub unreachable-requires : goal.unreachable-requires
unreachable-requires g c = key-missing _ _ _ c.requires.maps c.requires.key c.in_default.ensures

pub place_in_box-from-requires-clause-marked : goal.place_in_box-from-requires-clause-marked
place_in_box-from-requires-clause-marked g c κs within = λ d. found-stands _ _ _ _ _ (at-end_of _ _ _ c.known.ensures (c.requires.maps Key c.requires.key) c.in-Some.ensures.0 c.in-Some.ensures.1 d) (stands-left _ _ c.requires.stand)

pub place_in_box-upto-requires-clause-marked : goal.place_in_box-upto-requires-clause-marked
place_in_box-upto-requires-clause-marked g c κs within = λ d. found-stands _ _ _ _ _ (at-end_of _ _ _ c.known.ensures (c.requires.maps Key c.requires.key) c.in-Some.ensures.0 c.in-Some.ensures.1 d) (stands-right _ _ c.requires.stand)

pub returns : goal.returns
returns g c =
    let w = at-end_of _ _ _ c.known.ensures (c.requires.maps Key c.requires.key) c.in-Some.ensures.0 c.in-Some.ensures.1 blank in
    let many : c.pairs_at.result ≡ length (joined (rows_by c.args.area.now.attribute c.args.area.now.tape)) = c.pairs_at.ensures blank ∙ pairs-at_end _ _ _ w in
    record {
      maps = c.requires.maps;
      lower_at = place-found _ _ _ _ _ _ w (c.place_in_box-from.ensures blank);
      upper_at = subst (λ (n : ℕ). IsPlace c.args.upper n (rows_by c.args.area.now.attribute c.args.area.now.tape) c.place_in_box-upto.result) many (place-found _ _ _ _ _ _ w (c.place_in_box-upto.ensures blank));
    }
