use Rattle.std.proofs.Common.{◌≡◌, ◌∙◌, sym, ◌++◌, codes, drop}
use Rattle.sw_lang.specs.Replies.{doubled}
use Rattle.sw_lang.proofs.Printed.Quoted.{doubled_run, no_quotes}
use Rattle.sw_lang.proofs.Progress.{last, step, stops_within}
use Rattle.sw_lang.proofs.printing.texts.write_doubled.Goals as goal

pub returns-in_err-write_run : goal.returns-in_err-write_run
returns-in_err-write_run g c =
    let whole : doubled c.loop-place.rest.now ≡ (c.split_at.result.0.now ++ codes "''") ++ doubled (drop 1 c.split_at.result.1.now) =
    rw (c.split_at.ensures.front, c.split_at.ensures.back) (doubled_run c.loop-place.rest.now c.in-Some.place (sym c.quote_at.ensures.place ∙ c.in-Some.is)) in
    let parted = rw whole at c.loop-place.invariant in
    stops_within _ _ c.from_residual.result c.from_residual.ensures.1 parted c.in_err-write_run.ensures

pub loop-place-preserved : goal.loop-place-preserved
loop-place-preserved g c =
    let whole : doubled c.loop-place.rest.now ≡ (c.split_at.result.0.now ++ codes "''") ++ doubled (drop 1 c.split_at.result.1.now) =
    rw (c.split_at.ensures.front, c.split_at.ensures.back) (doubled_run c.loop-place.rest.now c.in-Some.place (sym c.quote_at.ensures.place ∙ c.in-Some.is)) in
    let parted = rw whole at c.loop-place.invariant in
    rw c.split_at-in-Some.ensures.back (step parted c.in_ok-write_run.ensures)

pub returns : goal.returns
returns g c =
    let rest = rw (no_quotes c.loop-place.rest.now (sym c.quote_at.ensures.place ∙ c.in_default.is)) at c.loop-place.invariant in
    last c.write_all.result rest c.write_all.ensures
