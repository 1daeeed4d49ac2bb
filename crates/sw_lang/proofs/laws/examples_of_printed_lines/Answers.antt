use Rattle.std.proofs.Common.{refl}
use Rattle.std.specs.Fmt.{digits}
use Rattle.sw_lang.specs.Reading.{line_at, call_at, call_of, delete_at, delete_key, delete_where, cells_at, next_value, past_comma, aggregate_at, select_at, names_at, where_at, terms_at, term_at, first_by, key_of, value_of, number_name, op_for, op_of, name_of}
use Rattle.sw_lang.proofs.laws.examples_of_printed_lines.Goals as goal

pub returns : goal.returns
unfolding digits line_at call_at call_of delete_at delete_key delete_where cells_at next_value past_comma aggregate_at select_at names_at where_at terms_at term_at first_by key_of value_of number_name op_for op_of name_of
returns c = refl
