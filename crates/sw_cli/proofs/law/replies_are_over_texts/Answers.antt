use Rattle.sw_cli.proofs.TextReplies.{call_keeps, closed_over, record_over, replies_over, run_over}
use Rattle.sw_cli.proofs.law.replies_are_over_texts.Goals as goal

pub returns-clause-kept : goal.returns-clause-kept
returns-clause-kept c = call_keeps

pub returns-clause-replies : goal.returns-clause-replies
returns-clause-replies c = replies_over

pub returns-clause-runs : goal.returns-clause-runs
returns-clause-runs c = λ limit cuts table script s read calls one. run_over limit cuts table script s calls read one

pub returns-clause-records : goal.returns-clause-records
returns-clause-records c = λ limit cuts table script s read told old new h left. record_over limit cuts table script s told old new h read left

pub returns-clause-closed : goal.returns-clause-closed
returns-clause-closed c = closed_over
