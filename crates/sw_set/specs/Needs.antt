-- What a query asks of an area: whether it touches it, with which bounds, and which maps it needs.
use Rattle.std.specs.Prelude.{◌==◌, ◌&&◌, ◌||◌, not, if◌then◌else◌, ℕ, ℤ, Bool, true, false, List, [], ◌∷◌, map, filter, Option, None, Some}
use Rattle.std.specs.List.{list_any}
use Rattle.sw_query.specs.declared.bound.Bound.{Bound}
use Rattle.sw_query.specs.declared.bound.Bound.TheVariants.{Before}
use Rattle.sw_query.specs.declared.query.Cond.{Cond}
use Rattle.sw_query.specs.declared.query.Want.{Want}
use Rattle.sw_query.specs.declared.query.Want.TheVariants as want
use Rattle.sw_query.specs.declared.query.Query.{Query}
use Rattle.sw_query.specs.Bounds.{bound_below}
use Rattle.sw_map.specs.declared.tail.Tail.{Tail}
use Rattle.sw_map.specs.declared.tail.Tail.TheVariants.{Key, Cell}

-- the head of a query is the attribute of its first condition, or attribute 0 if it has none
abbrev pub head_in : List Cond → ℕ
head_in [] = 0
head_in (c ∷ cs) = c.attr

-- its range on the head
abbrev pub lower_in : List Cond → Option Bound
lower_in [] = None
lower_in (c ∷ cs) = c.lower

abbrev pub upper_in : List Cond → Option Bound
upper_in [] = None
upper_in (c ∷ cs) = c.upper

-- where an interval begins or ends, as a bound
abbrev pub edge : Option ℤ → Option Bound
edge None = None
edge (Some v) = Some (Before v)

-- whether a range may begin at the one and end at the other: no bound stands below all, or above all
abbrev pub spans : Option Bound → Option Bound → Bool
spans None upper = true
spans (Some b) None = true
spans (Some b) (Some c) = bound_below b c

-- whether a range meets an interval, both given by where they begin and end
abbrev pub touches : Option Bound → Option Bound → Option Bound → Option Bound → Bool
touches start end lower upper = spans lower upper && (spans lower end && spans start upper)

-- the lower bound within an interval: one at or below its start counts as absent
abbrev pub lower_from : Option Bound → Option Bound → Option Bound
lower_from start None = None
lower_from None (Some b) = Some b
lower_from (Some s) (Some b) = if bound_below s b then Some b else None

-- the upper bound within an interval: one at or above its end counts as absent
abbrev pub upper_upto : Option Bound → Option Bound → Option Bound
upper_upto end None = None
upper_upto None (Some b) = Some b
upper_upto (Some e) (Some b) = if bound_below b e then Some b else None

-- whether conditions test an attribute
abbrev pub is_tested : List Cond → ℕ → Bool
is_tested cs b = list_any (λ c. c.attr == b) cs

-- whether an attribute is shown or aggregated
abbrev pub is_wanted : Want → ℕ → Bool
is_wanted (want.Rows names) b = list_any (λ n. n == b) names
is_wanted want.Count b = false
is_wanted (want.Sum a) b = a == b
is_wanted (want.Min a) b = a == b
is_wanted (want.Max a) b = a == b

-- whether a query over maps of this head needs the map of an attribute's cells: the head's own cells stand in each map
abbrev pub needs_cell : ℕ → Query → ℕ → Bool
needs_cell head q b = not (b == head) && (is_tested q.conds b || is_wanted q.want b)

abbrev pub attributes : List ℕ
attributes = 0 ∷ 1 ∷ 2 ∷ 3 ∷ 4 ∷ 5 ∷ 6 ∷ 7 ∷ []

-- the tails of those of these attributes that it needs
abbrev pub tails_for : ℕ → Query → List ℕ → List Tail
tails_for head q names = map Cell (filter (needs_cell head q) names)

-- the tails of the maps that a query needs, in the order in which they are made: the key, then the attributes by number
abbrev pub needed : ℕ → Query → List Tail
needed head q = Key ∷ tails_for head q attributes
