-- Lines over tables of three attributes, and what each is.
use Rattle.std.specs.Prelude.{ℕ, ℤ, pos, neg_ℤ, List, [], ◌∷◌, Option, Some, None, Result, Ok, Err, codes, replicate}
use Rattle.sw_rows.specs.Header.{Column}
use Rattle.sw_query.specs.declared.bound.Bound.{Bound}
use Rattle.sw_rows.specs.Domains as kind
use Rattle.sw_query.specs.declared.query.Cond.{Cond}
use Rattle.sw_query.specs.declared.query.Call.{Call}
use Rattle.sw_query.specs.declared.query.Call.TheVariants.{Select, Insert, Delete, DeleteWhere}
use Rattle.sw_query.specs.declared.query.Want.{Want}
use Rattle.sw_query.specs.declared.query.Want.TheVariants.{Rows, Count, Sum, Min, Max}
use Rattle.sw_query.specs.declared.refusal.Why.TheVariants as why
use Rattle.sw_lang.specs.PrintedCalls.{call_text}
use Rattle.sw_lang.specs.PrintedExamples.{above, at_least, at_most, below}
use Rattle.sw_lang.specs.declared.fault.Fault.{Fault}
use Rattle.sw_lang.specs.declared.fault.Fault.TheVariants.{Bad, Unknown, Excess}

-- whole numbers
abbrev pub three : List Column
three = (codes "a", kind.Int) ∷ (codes "b", kind.Int) ∷ (codes "c", kind.Int) ∷ []

-- one attribute of each kind
abbrev pub mixed : List Column
mixed = (codes "a", kind.Int) ∷ (codes "b", kind.Fix 2) ∷ (codes "c", kind.Flag) ∷ []

-- a line and what it gives
abbrev pub Example : Type 0
Example = List ℕ × Result (Option Call) Fault

abbrev pub asks : Want → List Cond → Result (Option Call) Fault
asks want conds = Ok (Some (Select (record { conds = conds; want = want })))

abbrev pub on : ℕ → Option Bound → Option Bound → Cond
on a lower upper = record { attr = a; lower = lower; upper = upper }

-- a count under one condition
abbrev pub counts_where : ℕ → Option Bound → Option Bound → Result (Option Call) Fault
counts_where a lower upper = asks Count (on a lower upper ∷ [])

-- an insert of a row of these three cells, with zeros after them
abbrev pub inserts : ℤ → ℤ → ℤ → Result (Option Call) Fault
inserts x y z = Ok (Some (Insert (x ∷ y ∷ z ∷ pos 0 ∷ pos 0 ∷ pos 0 ∷ pos 0 ∷ pos 0 ∷ [])))

-- a delete of the rows under conditions
abbrev pub deletes_where : List Cond → Result (Option Call) Fault
deletes_where conds = Ok (Some (DeleteWhere conds))

-- over the mixed table
abbrev pub calls : List Example
calls =
    (codes "", Ok None)
    ∷ (codes " # select", Ok None)
    ∷ (codes "count where a=5", counts_where 0 (at_least (pos 5)) (at_most (pos 5)))
    ∷ (
      codes "select b,a where b < 9.5 and a>=-1 and b>0",
      asks (Rows (1 ∷ 0 ∷ []))
          (on 1 (above (pos 0)) (below (pos 950)) ∷ on 0 (at_least (neg_ℤ (pos 1))) None ∷ []),
    )
    ∷ (codes "sum c", asks (Sum 2) [])
    ∷ (codes "insert -1, +2.5, true", inserts (neg_ℤ (pos 1)) (pos 250) (pos 1))
    ∷ (codes "delete 18446744073709551615", Ok (Some (Delete 18446744073709551615)))
    ∷ (codes "delete 00000000000000000007", Ok (Some (Delete 7)))
    ∷ (codes "delete where a = 12", deletes_where (on 0 (at_least (pos 12)) (at_most (pos 12)) ∷ []))
    ∷ (
      codes "delete  where b<9.5 and c=true and b>0",
      deletes_where (on 1 (above (pos 0)) (below (pos 950)) ∷ on 2 (at_least (pos 1)) (at_most (pos 1)) ∷ []),
    )
    ∷ (codes "select a, a, a, a, a, a, a, a", asks (Rows (0 ∷ 0 ∷ 0 ∷ 0 ∷ 0 ∷ 0 ∷ 0 ∷ 0 ∷ [])) [])
    ∷ (codes "min b where c=true", asks (Min 1) (on 2 (at_least (pos 1)) (at_most (pos 1)) ∷ []))
    ∷ (codes "max a", asks (Max 0) [])
    ∷ (codes "count\twhere\ta=1", counts_where 0 (at_least (pos 1)) (at_most (pos 1)))
    ∷ (codes "count where a > 1 and a >= 2 and a < 9 and a <= 8", counts_where 0 (at_least (pos 2)) (at_most (pos 8)))
    ∷ (codes "count where a >= 2 and a > 2 and a <= 9 and a < 9", counts_where 0 (above (pos 2)) (below (pos 9)))
    ∷ (codes "count where a=3 and a=5", counts_where 0 (at_least (pos 5)) (at_most (pos 3)))
    ∷ (codes "insert 1, +007.5, true", inserts (pos 1) (pos 750) (pos 1))
    ∷ (codes "insert -0, -0.25, false", inserts (pos 0) (neg_ℤ (pos 25)) (pos 0))
    ∷ (codes "insert 1, 9.999, true", Err (Bad why.Value))
    ∷ (codes "insert 1, 5., true", Err (Bad why.Value))
    ∷ (codes "insert 1, .5, true", Err (Bad why.Value))
    ∷ (codes "insert 1, 5, 1", Err (Bad why.Value))
    ∷ (codes "insert 9223372036854775808, 5, true", Err (Bad why.Value))
    ∷ (codes "count where b = 1.234", Err (Bad why.Value))
    ∷ (codes "count where c > yes", Err (Bad why.Value))
    ∷ []

-- over the table of whole numbers
abbrev pub refusals : List Example
refusals =
    (codes "select", Err (Bad why.End))
    ∷ (codes "select a where", Err (Bad why.End))
    ∷ (codes "fetch a", Err (Bad why.Word))
    ∷ (codes "select a b", Err (Bad why.Word))
    ∷ (codes "select a,a,a,a,a,a,a,a,a", Err (Bad why.Word))
    ∷ (codes "insert 1, 2", Err (Bad why.End))
    ∷ (codes "insert 1, 2, 3, 4", Err (Bad why.Word))
    ∷ (codes "count where a > 1x", Err (Bad why.Value))
    ∷ (codes "count where d > 1", Err (Unknown (codes "d")))
    ∷ (codes "delete -1", Err (Bad why.Value))
    ∷ (codes "delete 18446744073709551616", Err (Bad why.Value))
    ∷ (codes "---", Err (Bad why.Word))
    ∷ (codes "Count", Err (Bad why.Word))
    ∷ (codes "count;", Err (Bad why.Word))
    ∷ (codes "count a", Err (Bad why.Word))
    ∷ (codes "select a,", Err (Bad why.End))
    ∷ (codes "select a,a,a,a,a,a,a,a,", Err (Bad why.Word))
    ∷ (codes "select , a", Err (Bad why.Word))
    ∷ (codes "select select", Err (Bad why.Word))
    ∷ (codes "select true", Err (Bad why.Word))
    ∷ (codes "select 1a", Err (Bad why.Word))
    ∷ (codes "select a-b", Err (Bad why.Word))
    ∷ (codes "select a where and", Err (Bad why.Word))
    ∷ (codes "sum", Err (Bad why.End))
    ∷ (codes "sum a, b", Err (Bad why.Word))
    ∷ (codes "count where a", Err (Bad why.End))
    ∷ (codes "count where a 1", Err (Bad why.Word))
    ∷ (codes "count where a <", Err (Bad why.End))
    ∷ (codes "count where a < =", Err (Bad why.Word))
    ∷ (codes "count where a =< 1", Err (Bad why.Word))
    ∷ (codes "count where a <> 1", Err (Bad why.Word))
    ∷ (codes "count where a = and", Err (Bad why.Value))
    ∷ (codes "count where a = b", Err (Bad why.Value))
    ∷ (codes "count where a = ,", Err (Bad why.Word))
    ∷ (codes "count where a = 1 or b = 2", Err (Bad why.Word))
    ∷ (codes "count where a = 1, b = 2", Err (Bad why.Word))
    ∷ (codes "count where a = 1 and", Err (Bad why.End))
    ∷ (codes "insert", Err (Bad why.End))
    ∷ (codes "insert 1 2 3", Err (Bad why.Word))
    ∷ (codes "insert 1, 2,", Err (Bad why.End))
    ∷ (codes "insert 1, , 3", Err (Bad why.Word))
    ∷ (codes "insert 1, x, 3", Err (Bad why.Value))
    ∷ (codes "delete", Err (Bad why.End))
    ∷ (codes "delete 1 2", Err (Bad why.Word))
    ∷ (codes "delete where", Err (Bad why.End))
    ∷ (codes "delete where a", Err (Bad why.End))
    ∷ (codes "delete where a = 1 and", Err (Bad why.End))
    ∷ (codes "delete where where", Err (Bad why.Word))
    ∷ (codes "delete where 1", Err (Bad why.Word))
    ∷ (codes "delete where d = 1", Err (Unknown (codes "d")))
    ∷ (codes "delete where a = x", Err (Bad why.Value))
    ∷ (codes "delete 1 where a = 1", Err (Bad why.Word))
    ∷ (codes "delete a = 1", Err (Bad why.Value))
    ∷ (codes "delete 'where' a = 1", Err (Bad why.Value))
    ∷ (codes "delete +1", Err (Bad why.Value))
    ∷ (codes "delete 000000000000000000007", Err (Bad why.Value))
    ∷ (codes "delete ,", Err (Bad why.Word))
    ∷ (codes "count\r", Err (Bad why.Word))
    ∷ (codes "select a where where", Err (Bad why.Word))
    ∷ (codes "select A", Err (Unknown (codes "A")))
    ∷ (codes "count where a = 'x'", Err (Bad why.Value))
    ∷ (codes "count where a='it''s'", Err (Bad why.Value))
    ∷ (codes "count where a = '' and", Err (Bad why.Value))
    ∷ (codes "count where a = 'x", Err (Bad why.Word))
    ∷ (codes "count where a = '''", Err (Bad why.Word))
    ∷ (codes "count where a'='1", Err (Bad why.Word))
    ∷ (codes "count where a = 1'x'", Err (Bad why.Word))
    ∷ (codes "insert 'x', 1, 2", Err (Bad why.Value))
    ∷ (codes "insert 1 '2', 3", Err (Bad why.Word))
    ∷ (codes "delete 'x'", Err (Bad why.Value))
    ∷ (codes "delete '7'8", Err (Bad why.Value))
    ∷ (codes "count 'x'", Err (Bad why.Word))
    ∷ (codes "select 'a'", Err (Bad why.Word))
    ∷ (codes "'count'", Err (Bad why.Word))
    ∷ (35 ∷ replicate 4096 32, Err (Bad why.Length))
    ∷ []

-- lines over the mixed table, and what is printed of each one's call
abbrev pub printed_lines : List (List ℕ × List ℕ)
printed_lines =
    (codes "count where a=5", codes "count where a >= 5 and a <= 5")
    ∷ (
      codes "  select b,a,b where b<9.5 and a>-1 and b>=+0",
      codes "select b, a, b where b >= 0.00 and b < 9.50 and a > -1",
    )
    ∷ (codes "sum b where c=true and a<=7 and c=true", codes "sum b where c >= true and c <= true and a <= 7")
    ∷ (codes "min a", codes "min a")
    ∷ (codes "max c where a=3 and a=5", codes "max c where a >= 5 and a <= 3")
    ∷ (codes "insert -007 ,\t.5", [])
    ∷ (codes "insert -007,-.5,true", [])
    ∷ (codes "insert -007,-0.5,true", codes "insert -7, -0.50, true")
    ∷ (
      codes "insert -9223372036854775808,-92233720368547758.08,false",
      codes "insert -9223372036854775808, -92233720368547758.08, false",
    )
    ∷ (codes "delete 007", codes "delete 7")
    ∷ (codes "delete where a=12", codes "delete where a >= 12 and a <= 12")
    ∷ (codes "delete where b<9.5 and c=true and a>-1", codes "delete where b < 9.50 and c >= true and c <= true and a > -1")
    ∷ []

-- what is printed of a line's call; nothing where there is none
abbrev pub printed_of : List Column → Result (Option Call) Fault → List ℕ
printed_of columns (Ok (Some call)) = call_text columns call
printed_of columns (Ok None) = []
printed_of columns (Err f) = []

-- ---- lines over a table with an attribute of texts

-- two cities that are known, and numbers
abbrev pub cities : List Column
cities = (codes "city", kind.Text (codes "Oslo" ∷ codes "it's" ∷ [])) ∷ (codes "n", kind.Int) ∷ []

abbrev pub text_lines : List Example
text_lines =
    (codes "count where city = 'Oslo'", counts_where 0 (at_least (pos 1)) (at_most (pos 1)))
    ∷ (codes "count where city='Oslo'and city = 'it''s'", counts_where 0 (at_least (pos 2)) (at_most (pos 1)))
    ∷ (codes "count where city = 'it''s'", counts_where 0 (at_least (pos 2)) (at_most (pos 2)))
    ∷ (
      codes "insert 'it''s', 4",
      Ok (Some (Insert (pos 2 ∷ pos 4 ∷ pos 0 ∷ pos 0 ∷ pos 0 ∷ pos 0 ∷ pos 0 ∷ pos 0 ∷ []))),
    )
    ∷ (codes "select city where n >= 2", asks (Rows (0 ∷ [])) (on 1 (at_least (pos 2)) None ∷ []))
    ∷ (codes "max n", asks (Max 1) [])
    ∷ (codes "delete where city = 'it''s'", deletes_where (on 0 (at_least (pos 2)) (at_most (pos 2)) ∷ []))
    ∷ (codes "delete where city < 'Oslo'", Err (Bad why.Word))
    ∷ (codes "count where city < 'Oslo'", Err (Bad why.Word))
    ∷ (codes "count where city >= 'Oslo'", Err (Bad why.Word))
    ∷ (codes "max city", Err (Bad why.Word))
    ∷ (codes "sum city", Err (Bad why.Word))
    ∷ (codes "count where city = Oslo", Err (Bad why.Value))
    ∷ (codes "count where city = 1", Err (Bad why.Value))
    ∷ (codes "count where n = '1'", Err (Bad why.Value))
    ∷ (codes "count where city = 'Oslo", Err (Bad why.Word))
    ∷ (codes "insert Oslo, 4", Err (Bad why.Value))
    ∷ []

-- and the same calls printed
abbrev pub text_printed : List (List ℕ × List ℕ)
text_printed =
    (codes "count where city='Oslo'", codes "count where city = 'Oslo'")
    ∷ (codes "count where city='Oslo' and city='it''s'", codes "count where city = 'it''s' and city = 'Oslo'")
    ∷ (codes "insert 'it''s',4", codes "insert 'it''s', 4")
    ∷ (codes "delete where city='it''s'and n<5", codes "delete where city = 'it''s' and n < 5")
    ∷ []

-- ---- cuts over the table of whole numbers

abbrev pub CutExample : Type 0
CutExample = List ℕ × Result (List (List ℤ)) Fault

abbrev pub cut_texts : List CutExample
cut_texts =
    (codes "", Ok ([] ∷ [] ∷ [] ∷ []))
    ∷ (codes "a=12;b=3;a=20", Ok ((pos 12 ∷ pos 20 ∷ []) ∷ (pos 3 ∷ []) ∷ [] ∷ []))
    ∷ (codes "a=1;", Err (Bad why.Cuts))
    ∷ (codes "a", Err (Bad why.Cuts))
    ∷ (codes "a=", Err (Bad why.Cuts))
    ∷ (codes "a=1;a=1", Err (Bad why.Cuts))
    ∷ (codes "a=2;b=9;a=1", Err (Bad why.Cuts))
    ∷ (codes "a=1; b=2", Err (Bad why.Cuts))
    ∷ (codes "a=1=2", Err (Bad why.Cuts))
    ∷ (codes "where=1", Err (Bad why.Cuts))
    ∷ (codes "d", Err (Unknown (codes "d")))
    ∷ (codes "d=x", Err (Unknown (codes "d")))
    ∷ (codes "a=1;a=2;a=3;a=4;a=5;a=6;a=7;a=8;a=9;a=10;a=11;a=12;a=13;a=14;a=15;a", Err (Excess 15))
    ∷ (codes "a=1;b=2;d=3", Err (Unknown (codes "d")))
    ∷ (codes "c=-5;c=+3", Ok ([] ∷ [] ∷ (neg_ℤ (pos 5) ∷ pos 3 ∷ []) ∷ []))
    ∷ (codes " ", Err (Bad why.Cuts))
    ∷ (codes ";a=1", Err (Bad why.Cuts))
    ∷ (codes "a=1;;b=2", Err (Bad why.Cuts))
    ∷ (codes "=1", Err (Bad why.Cuts))
    ∷ (codes "a=x", Err (Bad why.Cuts))
    ∷ []

-- and over the mixed table
abbrev pub mixed_cuts : List CutExample
mixed_cuts =
    (codes "b=1.5;c=false;b=2;c=true", Ok ([] ∷ (pos 150 ∷ pos 200 ∷ []) ∷ (pos 0 ∷ pos 1 ∷ []) ∷ []))
    ∷ (codes "b=1.5;b=1.50", Err (Bad why.Cuts))
    ∷ (codes "c=true;c=false", Err (Bad why.Cuts))
    ∷ (codes "c=1", Err (Bad why.Cuts))
    ∷ []
