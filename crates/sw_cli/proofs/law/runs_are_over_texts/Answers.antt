use Rattle.sw_cli.proofs.TextCalls.{start_over}
use Rattle.sw_cli.proofs.law.runs_are_over_texts.Goals as goal

pub returns-clause-schema : goal.returns-clause-schema
returns-clause-schema c = λ limit cuts table script s h. (start_over limit cuts table script s h).schema

pub returns-clause-rows : goal.returns-clause-rows
returns-clause-rows c = λ limit cuts table script s h. (start_over limit cuts table script s h).rows

pub returns-clause-calls : goal.returns-clause-calls
returns-clause-calls c = λ limit cuts table script s h. (start_over limit cuts table script s h).calls
