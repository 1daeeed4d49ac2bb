use Rattle.std.proofs.Common.{arith}
use Rattle.sw_set.proofs.Merging.Restarts.{removal-after}
use Rattle.sw_set.proofs.merge.try_removal.Goals as goal

pub returns : goal.returns
returns g c =
    let short = c.known.ensures.short in
    let no = c.if-tape_len-eq-MAX_ENTRIES.false in
    let is = c.tape_len.ensures.many in
    removal-after c.args.key c.args.area.now c.aligned_keys.new.area c.log_at.new.area (omega (arith, short, no, is)) c.in-Some.ensures.same c.in-Some.ensures.maps c.in_ok-log_at.ensures.same c.in_ok-log_at.ensures.ends
