-- The calls that numbers ask for.
use Rattle.std.specs.Prelude.{◌≡◌, ◌+◌, ◌==◌, ◌&&◌, ◌||◌, if◌then◌else◌, ℕ, ℤ, pos, Bool, true, not, int_le, int_lt, is_some, List, [], ◌∷◌, ◌++◌, length, nat_le, nat_lt, Option, None, Some, Result, Ok, Err}
use Rattle.std.specs.List.{list_all, list_any}
use Rattle.sw_rows.specs.Domains.{Domain, is_of_texts}
use Rattle.sw_rows.specs.Domains as kind
use Rattle.sw_rows.specs.Header.{Column}
use Rattle.sw_rows.specs.Tables.{padded}
use Rattle.sw_rows.specs.Texts.{text_at}
use Rattle.sw_query.specs.declared.bound.Bound.{Bound}
use Rattle.sw_query.specs.declared.bound.Bound.TheVariants.{Before, After}
use Rattle.sw_query.specs.declared.query.Call.{Call}
use Rattle.sw_query.specs.declared.query.Call.TheVariants as call
use Rattle.sw_query.specs.declared.query.Cond.{Cond}
use Rattle.sw_query.specs.declared.query.Query.{Query}
use Rattle.sw_query.specs.declared.query.Want.{Want}
use Rattle.sw_query.specs.declared.query.Want.TheVariants as want
use Rattle.sw_lang.specs.Replies.{kind_at}
use Rattle.sw_arrays.specs.declared.asked.Asked.{Asked}
use Rattle.sw_arrays.specs.declared.asked.Asked.TheVariants as asked
use Rattle.sw_arrays.specs.declared.asked.Wanted.{Wanted}
use Rattle.sw_arrays.specs.declared.asked.Wanted.TheVariants as wanted
use Rattle.sw_arrays.specs.declared.range.Fault.{Fault}
use Rattle.sw_arrays.specs.declared.range.Fault.TheVariants.{NoMemory, NoAttribute, BadCondition, BadCell}
use Rattle.sw_arrays.specs.declared.range.Range.{Range}

infixl 10 ◌>>=◌
abbrev pub ◌>>=◌ : {A B : Type 0} → Result A Fault → (A → Result B Fault) → Result B Fault
(Ok x) >>= f = f x
(Err e) >>= f = Err e

-- an answer, seen by view, is what the numbers ask for, unless memory ran out
abbrev pub Answers : {A B : Type 0} → (A → B) → Result A Fault → Result B Fault → Type 0
Answers view (Ok x) asked = asked ≡ Ok (view x)
Answers view (Err NoMemory) asked = Unit {0}
Answers view (Err NoAttribute) asked = asked ≡ Err NoAttribute
Answers view (Err BadCondition) asked = asked ≡ Err BadCondition
Answers view (Err BadCell) asked = asked ≡ Err BadCell

-- ---- cells

-- a cell of a kind: of flags 0 or 1, of texts the code of one
abbrev pub is_cell : Domain → ℤ → Bool
is_cell kind.Int z = true
is_cell (kind.Fix places) z = true
is_cell kind.Flag z = int_le (pos 0) z && int_le z (pos 1)
is_cell (kind.Text texts) z = is_some (text_at texts z)

-- cells of the attributes from one on
abbrev pub are_cells : List Column → ℕ → List ℤ → Bool
are_cells schema attr [] = true
are_cells schema attr (z ∷ zs) = is_cell (kind_at schema attr) z && are_cells schema (attr + 1) zs

-- the cells of a row: one of its kind for each attribute
abbrev pub row_in : List Column → List ℤ → Result (List ℤ) Fault
row_in schema cells =
    if (length cells == length schema) && are_cells schema 0 cells then Ok (padded cells) else Err BadCell

-- ---- conditions

-- the bound of a kind: 0 of none, 1 of one before its value, 2 of one after it
abbrev pub bound_of : ℕ → ℤ → Option Bound
bound_of kind z = if kind == 1 then Some (Before z) else if kind == 2 then Some (After z) else None

abbrev pub cond_in : Range → Cond
cond_in g = record { attr = g.attribute; lower = bound_of g.lower_kind g.lower; upper = bound_of g.upper_kind g.upper }

-- no bound, or one of a known kind at a cell of the attribute
abbrev pub is_bound_on : Domain → ℕ → ℤ → Bool
is_bound_on d kind z = (kind == 0) || (nat_le kind 2 && is_cell d z)

-- the bounds of one text
abbrev pub is_one_text : Range → Bool
is_one_text g =
    (g.lower_kind == 1) && (g.upper_kind == 2) && not (int_lt g.lower g.upper) && not (int_lt g.upper g.lower)

-- bounds of the attribute's kind, one at least; texts are compared by equality alone
abbrev pub is_range : Domain → Range → Bool
is_range d g =
    is_bound_on d g.lower_kind g.lower && is_bound_on d g.upper_kind g.upper
    && not ((g.lower_kind == 0) && (g.upper_kind == 0))
    && (not (is_of_texts d) || is_one_text g)

-- whether a condition is on an attribute
abbrev pub is_held : List Cond → ℕ → Bool
is_held conds a = list_any (λ c. c.attr == a) conds

-- the condition of a range after others: it is the first on its attribute
abbrev pub cond_after : List Column → List Cond → Range → Result Cond Fault
cond_after schema done g =
    if nat_le (length schema) g.attribute then Err NoAttribute
    else if is_held done g.attribute || not (is_range (kind_at schema g.attribute) g) then Err BadCondition
    else Ok (cond_in g)

-- the conditions of ranges after others
abbrev pub conds_after : List Column → List Cond → List Range → Result (List Cond) Fault
conds_after schema done [] = Ok done
conds_after schema done (g ∷ gs) = cond_after schema done g >>= λ c. conds_after schema (done ++ c ∷ []) gs

-- ---- calls

-- attributes of the table, 1 to 8
abbrev pub are_names : List Column → List ℕ → Bool
are_names schema names =
    nat_le 1 (length names) && nat_le (length names) 8 && list_all (λ a. nat_lt a (length schema)) names

abbrev pub names_in : List Column → List ℕ → Result (List ℕ) Fault
names_in schema names = if are_names schema names then Ok names else Err NoAttribute

-- an attribute of numbers
abbrev pub number_in : List Column → ℕ → Result ℕ Fault
number_in schema a = if nat_le (length schema) a || is_of_texts (kind_at schema a) then Err NoAttribute else Ok a

abbrev pub want_in : List Column → Wanted → Result Want Fault
want_in schema (wanted.Rows names) = names_in schema names.now >>= λ ns. Ok (want.Rows ns)
want_in schema wanted.Count = Ok want.Count
want_in schema (wanted.Sum a) = number_in schema a >>= λ n. Ok (want.Sum n)
want_in schema (wanted.Min a) = number_in schema a >>= λ n. Ok (want.Min n)
want_in schema (wanted.Max a) = number_in schema a >>= λ n. Ok (want.Max n)

abbrev pub query_in : List Column → Wanted → List Range → Result Query Fault
query_in schema w ranges =
    want_in schema w >>= λ want. conds_after schema [] ranges >>= λ conds. Ok (record { conds = conds; want = want })

-- conditions, one at least
abbrev pub delete_asked : List Column → List Range → Result (List Cond) Fault
delete_asked schema [] = Err BadCondition
delete_asked schema (g ∷ gs) = conds_after schema [] (g ∷ gs)

abbrev pub call_asked : List Column → Asked → Result Call Fault
call_asked schema (asked.Select w ranges) = query_in schema w ranges.now >>= λ q. Ok (call.Select q)
call_asked schema (asked.Insert cells) = row_in schema cells.now >>= λ row. Ok (call.Insert row)
call_asked schema (asked.Delete key) = Ok (call.Delete key)
call_asked schema (asked.DeleteWhere ranges) = delete_asked schema ranges.now >>= λ conds. Ok (call.DeleteWhere conds)
