use Rattle.std.proofs.Common.{refl}
use Rattle.std.specs.Fmt.{digits}
use Rattle.std.specs.Str.{chars, is_utf8}
use Rattle.serde_json.proofs.OnLiterals.{serde_json_on_literals}
use Rattle.sw_lang.specs.Reading.{call_at, call_of, line_at, where_at}
use Rattle.sw_histories.specs.RecordReading.{record_at}
use Rattle.sw_histories.specs.RecordText.{record_text}
use Rattle.sw_histories.proofs.Back.ExampleOfRun.{counted_of_run}
use Rattle.sw_histories.proofs.file_examples.one_count.Goals as goal

pub returns : goal.returns
unfolding digits chars is_utf8 call_at call_of line_at where_at record_at record_text serde_json_on_literals
returns c = record {
  written = refl;
  again = refl;
  of_run = counted_of_run.0;
  in_order = counted_of_run.1;
  read = refl;
  newer = refl;
  unknown = refl;
}
