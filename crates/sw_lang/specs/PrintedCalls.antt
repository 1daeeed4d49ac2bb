-- Calls as they are printed.
use Rattle.std.specs.Prelude.{ℕ, ℤ, Bool, true, false, List, [], ◌∷◌, ◌++◌, map, slice_index_or, Option, Some, None, codes, decimal, if◌then◌else◌}
use Rattle.std.specs.List.{flat_map}
use Rattle.std.specs.Ordering.{int_eq}
use denote.Ref.{Bor}
use Rattle.sw_rows.specs.Domains.{is_of_texts}
use Rattle.sw_rows.specs.Header.{Column, kinds_of, names_of}
use Rattle.sw_query.specs.declared.bound.Bound.{Bound}
use Rattle.sw_query.specs.declared.bound.Bound.TheVariants.{Before, After}
use Rattle.sw_query.specs.declared.query.Cond.{Cond}
use Rattle.sw_query.specs.declared.query.Query.{Query}
use Rattle.sw_query.specs.declared.query.Want.{Want}
use Rattle.sw_query.specs.declared.query.Want.TheVariants as want
use Rattle.sw_query.specs.declared.query.Call.{Call}
use Rattle.sw_query.specs.declared.query.Call.TheVariants as call
use Rattle.sw_lang.specs.Replies.{cell_text, cells_text, kind_at}

-- the name of an attribute
abbrev pub name_at : List Column → ℕ → List ℕ
name_at columns a = slice_index_or (names_of columns) a []

-- names with a comma and a space between
abbrev pub more_names : List (List ℕ) → List ℕ
more_names ns = flat_map (λ n. codes ", " ++ n) ns

abbrev pub names_text : List (List ℕ) → List ℕ
names_text [] = []
names_text (n ∷ ns) = n ++ more_names ns

-- the names of attributes, and such behind others
abbrev pub attrs_text : List Column → List ℕ → List ℕ
attrs_text columns attrs = names_text (map (name_at columns) attrs)

abbrev pub more_attrs : List Column → List ℕ → List ℕ
more_attrs columns attrs = more_names (map (name_at columns) attrs)

-- an attribute, an operator with its spaces, and a value
abbrev pub comparison : List Column → ℕ → List ℕ → ℤ → List ℕ
comparison columns a op v = name_at columns a ++ (op ++ cell_text (kind_at columns a) v)

abbrev pub lower_terms : List Column → ℕ → Option Bound → List (List ℕ)
lower_terms columns a None = []
lower_terms columns a (Some (Before v)) = comparison columns a (codes " >= ") v ∷ []
lower_terms columns a (Some (After v)) = comparison columns a (codes " > ") v ∷ []

abbrev pub upper_terms : List Column → ℕ → Option Bound → List (List ℕ)
upper_terms columns a None = []
upper_terms columns a (Some (Before v)) = comparison columns a (codes " < ") v ∷ []
upper_terms columns a (Some (After v)) = comparison columns a (codes " <= ") v ∷ []

-- the texts that bounds name: the lower bound's, and the upper one's where it is another
abbrev pub equal_terms : List Column → ℕ → ℤ → ℤ → List (List ℕ)
equal_terms columns a v w =
    if int_eq v w then comparison columns a (codes " = ") v ∷ []
    else comparison columns a (codes " = ") v ∷ comparison columns a (codes " = ") w ∷ []

-- the comparisons of bounds on an attribute of texts; other bounds than those of equality are written as for numbers
abbrev pub text_terms : List Column → ℕ → Option Bound → Option Bound → List (List ℕ)
text_terms columns a None upper = upper_terms columns a upper
text_terms columns a (Some (After v)) upper = lower_terms columns a (Some (After v)) ++ upper_terms columns a upper
text_terms columns a (Some (Before v)) None = lower_terms columns a (Some (Before v))
text_terms columns a (Some (Before v)) (Some (Before w)) =
    lower_terms columns a (Some (Before v)) ++ upper_terms columns a (Some (Before w))
text_terms columns a (Some (Before v)) (Some (After w)) = equal_terms columns a v w

-- the comparisons of a condition, that of its lower bound first
abbrev pub cond_terms : List Column → Cond → List (List ℕ)
cond_terms columns c =
    if is_of_texts (kind_at columns c.attr) then text_terms columns c.attr c.lower c.upper
    else lower_terms columns c.attr c.lower ++ upper_terms columns c.attr c.upper

-- comparisons after ` where ` or, where others stand before them, ` and `
abbrev pub joiner : Bool → List ℕ
joiner started = if started then codes " and " else codes " where "

abbrev pub terms_text : Bool → List (List ℕ) → List ℕ
terms_text started [] = []
terms_text started (t ∷ ts) = (joiner started ++ t) ++ terms_text true ts

-- the comparisons of conditions; nothing where there are none
abbrev pub where_text : List Column → Bool → List Cond → List ℕ
where_text columns started conds = terms_text started (flat_map (cond_terms columns) conds)

-- a comparison after its joiner
abbrev pub term_text : Bool → List Column → ℕ → List ℕ → ℤ → List ℕ
term_text started columns a op v = joiner started ++ comparison columns a op v

-- the comparisons of a condition's lower bound, of its upper one, and of both
abbrev pub lower_text : Bool → List Column → Cond → List ℕ
lower_text started columns c = terms_text started (lower_terms columns c.attr c.lower)

abbrev pub upper_text : Bool → List Column → Cond → List ℕ
upper_text started columns c = terms_text started (upper_terms columns c.attr c.upper)

abbrev pub bounds_text : Bool → List Column → Cond → List ℕ
bounds_text started columns c =
    terms_text started (lower_terms columns c.attr c.lower ++ upper_terms columns c.attr c.upper)

-- those of two texts, and of a condition on texts
abbrev pub equal_text : Bool → List Column → ℕ → Bor ℤ × Bor ℤ → List ℕ
equal_text started columns a texts = terms_text started (equal_terms columns a texts.0.now texts.1.now)

abbrev pub text_cond_text : Bool → List Column → Cond → List ℕ
text_cond_text started columns c = terms_text started (text_terms columns c.attr c.lower c.upper)

-- what is asked for
abbrev pub want_text : List Column → Want → List ℕ
want_text columns (want.Rows names) = codes "select " ++ attrs_text columns names
want_text columns want.Count = codes "count"
want_text columns (want.Sum a) = codes "sum " ++ name_at columns a
want_text columns (want.Min a) = codes "min " ++ name_at columns a
want_text columns (want.Max a) = codes "max " ++ name_at columns a

abbrev pub query_text : List Column → Query → List ℕ
query_text columns q = want_text columns q.want ++ where_text columns false q.conds

-- a cell for each attribute
abbrev pub row_text : List Column → List ℤ → List ℕ
row_text columns cells = cells_text (kinds_of columns) cells

-- a call; an inserted row has a cell for each attribute, and conditions of a delete have bounds
abbrev pub call_text : List Column → Call → List ℕ
call_text columns (call.Select q) = query_text columns q
call_text columns (call.Insert cells) = codes "insert " ++ row_text columns cells
call_text columns (call.Delete key) = codes "delete " ++ decimal key
call_text columns (call.DeleteWhere conds) = codes "delete" ++ where_text columns false conds
