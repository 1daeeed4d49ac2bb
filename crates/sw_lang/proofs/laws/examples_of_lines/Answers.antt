use Rattle.std.proofs.Common.{refl}
use Rattle.sw_lang.specs.Reading.{line_at, call_at, call_of, delete_at, delete_key, delete_where, cells_at, next_value, past_comma, aggregate_at, select_at, names_at, where_at, terms_at, term_at, first_by, key_of, value_of, op_for, op_of, number_name, name_of}
use Rattle.sw_lang.proofs.laws.examples_of_lines.Goals as goal

pub returns-clause-calls : goal.returns-clause-calls
unfolding line_at call_at call_of delete_at delete_key delete_where cells_at next_value past_comma aggregate_at select_at names_at where_at terms_at term_at first_by key_of value_of op_for op_of number_name name_of
returns-clause-calls c = refl

pub returns-clause-refusals : goal.returns-clause-refusals
unfolding line_at call_at call_of delete_at delete_key delete_where cells_at next_value past_comma aggregate_at select_at names_at where_at terms_at term_at first_by key_of value_of op_for op_of number_name name_of
returns-clause-refusals c = refl
