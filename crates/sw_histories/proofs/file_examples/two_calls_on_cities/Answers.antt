use Rattle.std.proofs.Common.{refl}
use Rattle.std.specs.Char.{encode_utf8}
use Rattle.std.specs.Fmt.{digits}
use Rattle.std.specs.Str.{chars, is_utf8}
use Rattle.serde_json.proofs.OnLiterals.{serde_json_on_literals}
use Rattle.sw_lang.specs.Reading.{call_at, call_of, cells_at, first_by, line_at, name_of, next_value, op_for, op_of, past_comma, term_at, terms_at, value_of, where_at}
use Rattle.sw_histories.specs.RecordReading.{record_at}
use Rattle.sw_histories.specs.RecordText.{record_text}
use Rattle.sw_histories.proofs.Back.ExampleOfRun.{visited_of_run}
use Rattle.sw_histories.proofs.file_examples.two_calls_on_cities.Goals as goal

pub returns : goal.returns
unfolding digits chars is_utf8 encode_utf8 line_at call_at call_of cells_at next_value past_comma where_at terms_at term_at first_by value_of op_for op_of name_of record_at record_text serde_json_on_literals
returns c = record {
  written = refl;
  again = refl;
  of_run = visited_of_run.0;
  in_order = visited_of_run.1;
  read = refl;
}
