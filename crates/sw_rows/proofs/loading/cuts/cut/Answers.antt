use Rattle.sw_rows.proofs.Loads.CutLaws.{cut_at}
use Rattle.sw_rows.proofs.loading.cuts.cut.Goals as goal

pub returns-then-begins_plain-clause-records : goal.returns-then-begins_plain-clause-records
returns-then-begins_plain-clause-records c =
    let is = rw c.split_at.ensures.back at c.in_ok-at.ensures in
    cut_at c.args.bytes.now c.args.from c.in_ok-at.field-0 is.0 is.1 (c.has_no_quote_before.ensures c.if-has_no_quote_before.true)
