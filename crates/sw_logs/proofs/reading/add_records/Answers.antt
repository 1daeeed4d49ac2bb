use Rattle.std.proofs.Common.{◌∙◌, arith}
use Rattle.std.proofs.lemmas.Grind.{common_steps}
use Rattle.sw_logs.proofs.OrderLemmas.{fit_push}
use Rattle.sw_logs.proofs.ReadingLemmas.{more_again, one_more}
use Rattle.sw_logs.proofs.reading.add_records.Goals as goal

pub returns-in_err-call-clause-learned : goal.returns-in_err-call-clause-learned
returns-in_err-call-clause-learned c =
    more_again c.args.schema.now c.loop-record.schema c.logged_of.new.schema c.loop-record.invariant.learned c.in_err-call.ensures.learned

pub returns-then-is_err-clause-learned : goal.returns-then-is_err-clause-learned
returns-then-is_err-clause-learned c =
    more_again c.args.schema.now c.loop-record.schema c.logged_of.new.schema c.loop-record.invariant.learned c.in_ok-call.ensures.learned

pub loop-record-preserved : goal.loop-record-preserved
loop-record-preserved c = record {
  width = c.in_ok-call.ensures.width ∙ c.loop-record.invariant.width;
  learned = more_again c.args.schema.now c.loop-record.schema c.logged_of.new.schema c.loop-record.invariant.learned c.in_ok-call.ensures.learned;
  kept = grind (arith, common_steps, one_more);
  fit = grind (arith, common_steps, fit_push);
}
