use Rattle.std.proofs.Common.{refl}
use Rattle.std.specs.Fmt.{digits}
use Rattle.std.specs.Str.{chars, is_utf8}
use Rattle.serde_json.proofs.OnLiterals.{serde_json_on_literals}
use Rattle.sw_lang.specs.Reading.{call_at, call_of, delete_at, delete_where, first_by, line_at, name_of, op_for, op_of, term_at, terms_at, value_of}
use Rattle.sw_histories.specs.RecordReading.{record_at}
use Rattle.sw_histories.specs.RecordText.{record_text}
use Rattle.sw_histories.proofs.Back.ExampleOfRun.{deleted_of_run}
use Rattle.sw_histories.proofs.file_examples.one_delete_where.Goals as goal

pub returns : goal.returns
unfolding digits chars is_utf8 line_at call_at call_of delete_at delete_where terms_at term_at first_by value_of op_for op_of name_of record_at record_text serde_json_on_literals
returns c = record {
  written = refl;
  again = refl;
  of_run = deleted_of_run.0;
  in_order = deleted_of_run.1;
  read = refl;
  first = refl;
  second = refl;
}
