use Rattle.std.proofs.Common.{sym, ap, ◌∙◌, subst, ◌≡◌, ◌&&◌, true, List, Any}
use Rattle.sw_table.specs.declared.row.Row.{Row}
use Rattle.sw_kernel.specs.Replay.{Step}
use Rattle.sw_kernel.specs.Tapes.{peak_from}
use Rattle.sw_set.specs.Prepared.{IsReady, cells_for, stands_if}
use Rattle.sw_set.proofs.Preparing.Ends.{held-of, noted-stand, ready-made, room-enough, room-made}
use Rattle.sw_set.proofs.Areas.Refused.{told_on}
use Rattle.sw_set.proofs.prepare.prepare_range.Goals as goal

pub align_by-requires-clause-room : goal.align_by-requires-clause-room
align_by-requires-clause-room g c κs within =
    room-made _ _ _ _ c.known-2.ensures.apart (room-enough _ _ _ (ap (peak_from 0) c.in_ok-make_all.ensures.same.tape ∙ sym c.peak.ensures.peak) c.cells_for-cells.ensures) c.in_ok-make_all.ensures.ends

pub range_of-requires-clause-maps : goal.range_of-requires-clause-maps
range_of-requires-clause-maps g c κs within =
    λ t need. subst (λ (v : List (Step Row)). Any (IsReady t v) c.align_by.new.self.boxes) (sym c.in_ok-align_by.ensures.tape) (ready-made _ _ _ _ _ t need (held-of _ _ _ t c.in_ok-make_all.ensures.ends need) c.in_ok-align_by.ensures.maps c.in_ok-align_by.ensures.ends)

pub range_of-requires-clause-stand : goal.range_of-requires-clause-stand
range_of-requires-clause-stand g c κs within =
    subst (λ (v : List (Step Row)). stands_if c.args.lower v && stands_if c.args.upper v ≡ true) (sym (c.in_ok-align_by.ensures.tape ∙ c.in_ok-make_all.ensures.same.tape)) (noted-stand c.args.lower c.args.upper _ _ _ c.known.ensures.short c.in_ok-log_range.ensures.ends)

pub returns-in_err-make_all-clause-lacking : goal.returns-in_err-make_all-clause-lacking
returns-in_err-make_all-clause-lacking g c =
    told_on _ _ _ _ _ _ c.from_residual-in_err-make_all.ensures.1 c.in_err-make_all.ensures.lacking (c.cells_for-cells.ensures ∙ ap cells_for (c.peak.ensures.peak ∙ ap (peak_from 0) (sym c.make_all.ensures.same.tape)))
