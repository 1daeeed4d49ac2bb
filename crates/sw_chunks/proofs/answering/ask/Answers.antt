use Rattle.std.proofs.Common.{◌<◌, length, subst, sym, ap, ◌∙◌}
use Rattle.sw_query.specs.Scan.{answer}
use Rattle.sw_chunks.specs.Asked.{IsOneAsked}
use Rattle.sw_chunks.proofs.Standing.{if_ok-more}
use Rattle.sw_chunks.proofs.Steps.{asked-again, set-one}
use Rattle.sw_chunks.proofs.answering.ask.Goals as goal
use Rattle.sw_chunks.proofs.answering.ask.Goals.{then-cells-gt0, else-cells-gt0}

pub returns-clause-same : goal.returns-clause-same
returns-clause-same g c =
    let lt : c.args.k < length c.args.areas.now = c.requires.within in
    elim c.if-cells-gt0.branch [
      | then-cells-gt0 w ↦ subst (IsOneAsked c.args.k c.args.areas.now) (sym w.areas-is) (asked-again c.args.k _ _ c.args.areas.now w.clear_but.new.areas c.index-areas-k.result c.ready_one.new.area w.index-areas-k-then-cells-gt0.result w.ready_again-told.new.area lt c.ready_one.ensures.same w.clear_but.ensures w.ready_again-told.ensures.same)
      | else-cells-gt0 w ↦ subst (IsOneAsked c.args.k c.args.areas.now) (sym w.areas-is) (set-one c.args.k c.args.areas.now c.index-areas-k.result c.ready_one.new.area lt c.ready_one.ensures.same)
    ]

pub returns-clause-answered : goal.returns-clause-answered
returns-clause-answered g c =
    let one : IsOneAsked c.args.k c.args.areas.now c.if-cells-gt0.areas = returns-clause-same g c in
    if_ok-more _ _ c.reply_one.result c.reply_one.ensures.answered (λ r is d. is ∙ ap (λ l. answer l c.args.asking.now.query.now) (one.here d c.index-areas-k-3.result).rows)
