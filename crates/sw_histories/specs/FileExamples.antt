-- The files of a table of three attributes and four rows after one call, and that of a table of texts after two calls.
use Rattle.std.specs.Prelude.{◌++◌, ℕ, ℤ, pos, List, [], ◌∷◌, codes}
use Rattle.sw_rows.specs.Domains as kind
use Rattle.sw_rows.specs.Header.{Column}
use Rattle.sw_rows.specs.Tables.{padded, row_of}
use Rattle.sw_table.specs.declared.row.Row.{Row}
use Rattle.sw_query.specs.declared.query.Call.{Call}
use Rattle.sw_query.specs.declared.query.Call.TheVariants as call
use Rattle.sw_query.specs.declared.query.Want.TheVariants as want
use Rattle.sw_lang.specs.PrintedExamples.{abc, asking, asking_where, at_least, at_most, cond}
use Rattle.sw_spine.specs.History.{History, entry}
use Rattle.sw_query.specs.declared.reply.Reply.TheVariants as reply
use Rattle.sw_spine.specs.declared.history.State.{State}
use Rattle.sw_spine.specs.declared.history.State.TheVariants as state

abbrev pub row_abc : ℕ → ℤ → ℤ → ℤ → Row
row_abc key a b c = row_of key (padded (a ∷ b ∷ c ∷ []))

-- one session made a call, and this became of it
abbrev pub called_once : Call → State → History
called_once c st = record {
  columns = abc;
  rows =
      row_abc 1 (pos 12) (pos 7) (pos 1) ∷ row_abc 2 (pos 3) (pos 8) (pos 0)
      ∷ row_abc 3 (pos 12) (pos 5) (pos 1) ∷ row_abc 4 (pos 20) (pos 2) (pos 0) ∷ [];
  limit = 1048576;
  entries = entry 1 c st ∷ [];
}

-- it counted
abbrev pub counted : State → History
counted st = called_once (asking want.Count) st

-- the file, under a number of the format
abbrev pub counted_under : List ℕ → List ℕ
counted_under format =
    codes "{\"attributes\":[\"a:int\",\"b:int\",\"c:int\"],"
    ++ codes "\"entries\":[{\"call\":\"count\",\"reply\":[\"4\"],\"session\":1}],"
    ++ codes "\"format\":" ++ format ++ codes ",\"limit\":1048576,"
    ++ codes "\"rows\":[[12,7,1],[3,8,0],[12,5,1],[20,2,0]]}"

-- it deleted the rows of which the first attribute is 12
abbrev pub deleted : State → History
deleted st = called_once (call.DeleteWhere (cond 0 (at_least (pos 12)) (at_most (pos 12)) ∷ [])) st

abbrev pub deleted_under : List ℕ → List ℕ
deleted_under format =
    codes "{\"attributes\":[\"a:int\",\"b:int\",\"c:int\"],"
    ++ codes "\"entries\":[{\"call\":\"delete where a >= 12 and a <= 12\",\"reply\":[\"(2 removed)\"],\"session\":1}],"
    ++ codes "\"format\":" ++ format ++ codes ",\"limit\":1048576,"
    ++ codes "\"rows\":[[12,7,1],[3,8,0],[12,5,1],[20,2,0]]}"

-- ---- texts

-- a city and a number; two cities stand in the rows, and a third comes with a call
abbrev pub cities : List Column
cities =
    (codes "city", kind.Text (codes "Oslo" ∷ codes "Bergen, N" ∷ codes "it's" ∷ [])) ∷ (codes "n", kind.Int) ∷ []

abbrev pub row_of_city : ℕ → ℕ → ℕ → Row
row_of_city key city n = row_of key (padded (pos city ∷ pos n ∷ []))

-- one session counted the rows of the first city, and put in a row of a new one; this became of its calls
abbrev pub visited : State → State → History
visited first second = record {
  columns = cities;
  rows = row_of_city 1 1 1 ∷ row_of_city 2 2 2 ∷ row_of_city 3 1 3 ∷ [];
  limit = 1048576;
  entries =
      entry 1 (asking_where want.Count (cond 0 (at_least (pos 1)) (at_most (pos 1)) ∷ [])) first
      ∷ entry 1 (call.Insert (padded (pos 3 ∷ pos 4 ∷ []))) second ∷ [];
}

-- the same after a run
abbrev pub visited_once : History
visited_once = visited (state.Answered (reply.Count 2)) (state.Answered (reply.Inserted 4))

abbrev pub visited_file : List ℕ
visited_file =
    codes "{\"attributes\":[\"city:text\",\"n:int\"],"
    ++ codes "\"entries\":[{\"call\":\"count where city = 'Oslo'\",\"reply\":[\"2\"],\"session\":1},"
    ++ codes "{\"call\":\"insert 'it''s', 4\",\"reply\":[\"key 4\"],\"session\":1}],"
    ++ codes "\"format\":2,\"limit\":1048576,"
    ++ codes "\"rows\":[[\"Oslo\",1],[\"Bergen, N\",2],[\"Oslo\",3]]}"
