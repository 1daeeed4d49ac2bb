-- The worked examples are the records of runs.
use Rattle.std.proofs.Common.{◌≡◌, refl, ℕ, pos, true, List, [], ◌∷◌, ◌<◌, ◌^◌, arith, codes, All, Some}
use Rattle.std.specs.Prelude.{is_some}
use Rattle.std.specs.Char.{encode_utf8}
use Rattle.std.specs.Fmt.{digits}
use Rattle.std.specs.Str.{chars, is_utf8}
use Rattle.std.proofs.lemmas.Bool.{false≢true}
use Rattle.std.proofs.lemmas.List.Elements.{All-cons, All-from_recursion, All-nil}
use Rattle.sw_rows.specs.Domains as kind
use Rattle.sw_rows.specs.Header.{Column, IsSchema, kinds_of, texts_of}
use Rattle.sw_rows.specs.Tables.{padded}
use Rattle.sw_rows.specs.Texts.{text_of}
use Rattle.sw_query.specs.declared.query.Call.{Call}
use Rattle.sw_query.specs.declared.query.Call.TheVariants as call
use Rattle.sw_query.specs.declared.query.Cond.{Cond}
use Rattle.sw_query.specs.declared.query.Want.TheVariants as want
use Rattle.sw_query.specs.declared.reply.Reply.TheVariants as reply
use Rattle.sw_table.specs.declared.row.Row.{Row}
use Rattle.sw_rows.proofs.Schemas.SchemaLaws.{header-schema}
use Rattle.sw_lang.specs.Fits.{IsBound}
use Rattle.sw_lang.specs.Grammar.{IsLine}
use Rattle.sw_lang.specs.PrintedExamples.{abc, asking, asking_where, at_least, at_most, cond}
use Rattle.sw_lang.specs.Reading.{call_at, call_of, cells_at, delete_at, delete_where, first_by, line_at, name_of, next_value, op_for, op_of, past_comma, term_at, terms_at, value_of, where_at}
use Rattle.sw_lang.proofs.Parsing.Lines.{line_found}
use Rattle.sw_spine.specs.History.{IsSound, entry}
use Rattle.sw_spine.specs.declared.history.State.TheVariants as state
use Rattle.sw_histories.specs.FileExamples.{cities, counted, deleted, row_abc, row_of_city, visited}
use Rattle.sw_histories.specs.ReadBack.{HasCells, IsCalled, IsOfRun, KnowsInOrder}
use Rattle.sw_lang.proofs.Known.Knowing.{knowing_schema}

three : (key a b c : ℕ) → a < 2 ^ 63 → b < 2 ^ 63 → c < 2 ^ 63 → HasCells (kinds_of abc) (row_abc key (pos a) (pos b) (pos c))
three key a b c ha hb hc = (pos a ∷ pos b ∷ pos c ∷ [], (ha, (hb, (hc, tt))), refl)

abc_schema : IsSchema abc
abc_schema = header-schema (codes "a" ∷ codes "b" ∷ codes "c" ∷ []) abc refl

count_line : IsLine abc (codes "count") (Some (asking want.Count))
unfolding call_at call_of line_at where_at
count_line = line_found abc (codes "count") (Some (asking want.Count)) refl

count_called : IsCalled abc (entry 1 (asking want.Count) (state.Answered (reply.Count 4)))
count_called = record { line = codes "count"; call = count_line; first = omega arith; last = omega arith; state = tt }

abbrev rows : List Row
rows = row_abc 1 (pos 12) (pos 7) (pos 1) ∷ row_abc 2 (pos 3) (pos 8) (pos 0) ∷ row_abc 3 (pos 12) (pos 5) (pos 1) ∷ row_abc 4 (pos 20) (pos 2) (pos 0) ∷ []

rows_have : All (HasCells (kinds_of abc)) rows
rows_have =
    let first = three 1 12 7 1 (omega arith) (omega arith) (omega arith) in
    let second = three 2 3 8 0 (omega arith) (omega arith) (omega arith) in
    let third = three 3 12 5 1 (omega arith) (omega arith) (omega arith) in
    let fourth = three 4 20 2 0 (omega arith) (omega arith) (omega arith) in
    All-from_recursion (HasCells (kinds_of abc)) rows (first, (second, (third, (fourth, tt))))

sound : IsSound (counted (state.Answered (reply.Count 4)))
sound = record { some = omega arith; most = omega arith; few = omega arith; numbered = refl; short = omega arith; below = ((record { conds = All-nil (λ (c : Cond). c.attr < 3); want = tt }, tt), tt) }

-- the file after one count
pub counted_of_run : IsOfRun (counted (state.Answered (reply.Count 4))) × KnowsInOrder (counted (state.Answered (reply.Count 4)))
counted_of_run = (
  record {
    sound = sound;
    schema = abc_schema;
    cells = rows_have;
    calls = All-cons (IsCalled abc) (entry 1 (asking want.Count) (state.Answered (reply.Count 4))) [] count_called (All-nil (IsCalled abc));
  },
  λ some. absurd (false≢true some),
)

abbrev deleting : Call
deleting = call.DeleteWhere (cond 0 (at_least (pos 12)) (at_most (pos 12)) ∷ [])

deleting_line : IsLine abc (codes "delete where a >= 12 and a <= 12") (Some deleting)
unfolding line_at call_at call_of delete_at delete_where terms_at term_at first_by value_of op_for op_of name_of
deleting_line = line_found abc (codes "delete where a >= 12 and a <= 12") (Some deleting) refl

deleting_called : IsCalled abc (entry 1 deleting (state.Answered (reply.RemovedMany 2)))
deleting_called = record { line = codes "delete where a >= 12 and a <= 12"; call = deleting_line; first = omega arith; last = omega arith; state = tt }

delete_sound : IsSound (deleted (state.Answered (reply.RemovedMany 2)))
delete_sound = record {
  some = omega arith;
  most = omega arith;
  few = omega arith;
  numbered = refl;
  short = omega arith;
  below = ((All-from_recursion (λ (c : Cond). c.attr < 3) (cond 0 (at_least (pos 12)) (at_most (pos 12)) ∷ []) (omega arith, tt), omega arith, All-from_recursion IsBound (cond 0 (at_least (pos 12)) (at_most (pos 12)) ∷ []) (refl, tt)), tt);
}

-- the file after one delete under conditions
pub deleted_of_run : IsOfRun (deleted (state.Answered (reply.RemovedMany 2))) × KnowsInOrder (deleted (state.Answered (reply.RemovedMany 2)))
deleted_of_run = (
  record {
    sound = delete_sound;
    schema = abc_schema;
    cells = rows_have;
    calls = All-cons (IsCalled abc) (entry 1 deleting (state.Answered (reply.RemovedMany 2))) [] deleting_called (All-nil (IsCalled abc));
  },
  λ some. absurd (false≢true some),
)

-- ---- texts

cities_schema : IsSchema cities
unfolding chars is_utf8 encode_utf8
cities_schema =
    let named : List Column = (codes "city", kind.Text []) ∷ (codes "n", kind.Int) ∷ [] in
    knowing_schema named (codes "Oslo" ∷ codes "Bergen, N" ∷ codes "it's" ∷ []) (header-schema (codes "city:text" ∷ codes "n:int" ∷ []) named refl) refl

abbrev counting : Call
counting = asking_where want.Count (cond 0 (at_least (pos 1)) (at_most (pos 1)) ∷ [])

abbrev inserting : Call
inserting = call.Insert (padded (pos 3 ∷ pos 4 ∷ []))

counting_line : IsLine cities (codes "count where city = 'Oslo'") (Some counting)
unfolding chars is_utf8 encode_utf8 line_at call_at call_of cells_at next_value past_comma where_at terms_at term_at first_by value_of op_for op_of name_of
counting_line = line_found cities (codes "count where city = 'Oslo'") (Some counting) refl

inserting_line : IsLine cities (codes "insert 'it''s', 4") (Some inserting)
unfolding chars is_utf8 encode_utf8 line_at call_at call_of cells_at next_value past_comma where_at terms_at term_at first_by value_of op_for op_of name_of
inserting_line = line_found cities (codes "insert 'it''s', 4") (Some inserting) refl

counting_called : IsCalled cities (entry 1 counting (state.Answered (reply.Count 2)))
counting_called = record { line = codes "count where city = 'Oslo'"; call = counting_line; first = omega arith; last = omega arith; state = tt }

inserting_called : IsCalled cities (entry 1 inserting (state.Answered (reply.Inserted 4)))
inserting_called = record { line = codes "insert 'it''s', 4"; call = inserting_line; first = omega arith; last = omega arith; state = tt }

city_row : (key city n : ℕ) → is_some (text_of (texts_of cities) city) ≡ true → n < 2 ^ 63 → HasCells (kinds_of cities) (row_of_city key city n)
city_row key city n there small = (pos city ∷ pos n ∷ [], (there, (small, tt)), refl)

abbrev city_rows : List Row
city_rows = row_of_city 1 1 1 ∷ row_of_city 2 2 2 ∷ row_of_city 3 1 3 ∷ []

city_rows_have : All (HasCells (kinds_of cities)) city_rows
city_rows_have = All-from_recursion (HasCells (kinds_of cities)) city_rows (city_row 1 1 1 refl (omega arith), (city_row 2 2 2 refl (omega arith), (city_row 3 1 3 refl (omega arith), tt)))

visits_sound : IsSound (visited (state.Answered (reply.Count 2)) (state.Answered (reply.Inserted 4)))
visits_sound = record {
  some = omega arith;
  most = omega arith;
  few = omega arith;
  numbered = refl;
  short = omega arith;
  below = ((record { conds = All-from_recursion (λ (c : Cond). c.attr < 2) (cond 0 (at_least (pos 1)) (at_most (pos 1)) ∷ []) (omega arith, tt); want = tt }, tt), (tt, tt));
}

-- the file of two calls on texts
pub visited_of_run : IsOfRun (visited (state.Answered (reply.Count 2)) (state.Answered (reply.Inserted 4))) × KnowsInOrder (visited (state.Answered (reply.Count 2)) (state.Answered (reply.Inserted 4)))
unfolding chars digits is_utf8 encode_utf8
visited_of_run = (
  record {
    sound = visits_sound;
    schema = cities_schema;
    cells = city_rows_have;
    calls = All-from_recursion (IsCalled cities) (entry 1 counting (state.Answered (reply.Count 2)) ∷ entry 1 inserting (state.Answered (reply.Inserted 4)) ∷ []) (counting_called, (inserting_called, tt));
  },
  λ some. refl,
)
