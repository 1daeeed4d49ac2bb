use Rattle.std.proofs.Common.{rules, ◌≡◌, ◌<◌, ◌≤◌, ◌^◌, ◌+◌, ◌++◌, ◌∷◌, [], None, List, All, length, length-set, get_or, map, sym, ap, subst, ◌∙◌, arith}
use Rattle.std.proofs.lemmas.List.{get_or-set_other, take_all}
use Rattle.sw_table.specs.declared.row.Row.{Row}
use Rattle.sw_table.specs.Packed.{Packed}
use Rattle.sw_set.specs.Shelf.{Rises, key_of}
use Rattle.sw_chunks.specs.Cuts.{Interval, intervals}
use Rattle.sw_chunks.specs.Heads.{opened_area, part_of}
use Rattle.sw_chunks.proofs.Dealt.{area-opened, long-intervals, opened-more, part-ends, part-keys, part-rises}
use Rattle.sw_chunks.proofs.dealing.areas_of.Goals as goal

pub of-requires-clause-keys : goal.of-requires-clause-keys
of-requires-clause-keys g c κs there =
    let i : Interval = (None, None) in
    let le : c.loop-k.k ≤ length c.args.by.now.cuts.now = search rules in
    let is : c.replace-part.result.items ≡ part_of c.args.by.now.attribute c.args.rows.items (get_or (intervals c.args.by.now.cuts.now) c.loop-k.k i) =
    ap (λ (v : Packed). v.items) (c.replace-part.ensures.value ∙ c.index_mut.ensures.value) ∙ c.loop-k.invariant.2 c.loop-k.k c.index_mut.result.now i (omega arith) le in
    subst (λ (l : List Row). All (λ (r : Row). r.key < 2 ^ 63) l) (sym is) (part-keys c.args.by.now.attribute c.args.rows.items (get_or (intervals c.args.by.now.cuts.now) c.loop-k.k i) (λ (r : Row). r.key < 2 ^ 63) c.requires.keys)

pub of-requires-clause-rise : goal.of-requires-clause-rise
of-requires-clause-rise g c κs there =
    let i : Interval = (None, None) in
    let le : c.loop-k.k ≤ length c.args.by.now.cuts.now = search rules in
    let is : c.replace-part.result.items ≡ part_of c.args.by.now.attribute c.args.rows.items (get_or (intervals c.args.by.now.cuts.now) c.loop-k.k i) =
    ap (λ (v : Packed). v.items) (c.replace-part.ensures.value ∙ c.index_mut.ensures.value) ∙ c.loop-k.invariant.2 c.loop-k.k c.index_mut.result.now i (omega arith) le in
    subst (λ (l : List Row). Rises key_of l) (sym is) (part-rises c.args.by.now.attribute c.args.rows.items (get_or (intervals c.args.by.now.cuts.now) c.loop-k.k i) c.requires.rise)

pub of-requires-clause-within : goal.of-requires-clause-within
of-requires-clause-within g c κs there =
    let i : Interval = (None, None) in
    let le : c.loop-k.k ≤ length c.args.by.now.cuts.now = search rules in
    let is : c.replace-part.result.items ≡ part_of c.args.by.now.attribute c.args.rows.items (get_or (intervals c.args.by.now.cuts.now) c.loop-k.k i) =
    ap (λ (v : Packed). v.items) (c.replace-part.ensures.value ∙ c.index_mut.ensures.value) ∙ c.loop-k.invariant.2 c.loop-k.k c.index_mut.result.now i (omega arith) le in
    part-ends c.args.by.now.attribute c.args.rows.items (get_or (intervals c.args.by.now.cuts.now) c.loop-k.k i) c.interval_start.result c.interval_end.result c.replace-part.result.items (c.interval_start.ensures i) (c.interval_end.ensures i) is

pub loop-k-preserved : goal.loop-k-preserved
loop-k-preserved g c =
    let i : Interval = (None, None) in
    let le : c.loop-k.k ≤ length c.args.by.now.cuts.now = search rules in
    let is : c.replace-part.result.items ≡ part_of c.args.by.now.attribute c.args.rows.items (get_or (intervals c.args.by.now.cuts.now) c.loop-k.k i) =
    ap (λ (v : Packed). v.items) (c.replace-part.ensures.value ∙ c.index_mut.ensures.value) ∙ c.loop-k.invariant.2 c.loop-k.k c.index_mut.result.now i (omega arith) le in
    let pushed : c.push.new.self.items ≡ c.loop-k.areas.items ++ c.in_ok-area.area ∷ [] = search rules in (
      pushed ∙ opened-more c.args.by.now.attribute c.args.rows.items c.args.by.now.cuts.now c.loop-k.k i c.loop-k.areas.items c.in_ok-area.area (omega (arith, le)) c.loop-k.invariant.0
          (c.in_ok-area.ensures ∙ area-opened c.args.by.now.attribute c.args.rows.items (get_or (intervals c.args.by.now.cuts.now) c.loop-k.k i) c.interval_start.result c.interval_end.result c.replace-part.result.items (c.interval_start.ensures i) (c.interval_end.ensures i) is),
      length-set c.loop-k.parts.items c.loop-k.k c.replace-part.new.dest ∙ c.loop-k.invariant.1,
      λ j d e past within. ap (λ (v : Packed). v.items) (get_or-set_other c.loop-k.parts.items c.loop-k.k j c.replace-part.new.dest d (λ same. absurd (omega (arith, same, past)))) ∙ c.loop-k.invariant.2 j d e (omega (arith, past)) within,
    )

pub returns-clause-areas : goal.returns-clause-areas
returns-clause-areas g c =
    let past : length c.args.by.now.cuts.now + 1 ≤ c.loop-k.k = search rules in
    let long = long-intervals c.args.by.now.cuts.now in
    c.loop-k.invariant.0 ∙ ap (map (opened_area c.args.by.now.attribute c.args.rows.items)) (take_all c.loop-k.k (intervals c.args.by.now.cuts.now) (omega (arith, past, long)))
