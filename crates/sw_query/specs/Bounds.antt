-- Places between cells.
use Rattle.std.specs.Prelude.{ℤ, Bool, true, false, not, ◌&&◌, int_lt, int_le, Option, Some, None, if◌then◌else◌}
use Rattle.std.specs.Ordering.{int_eq}
use Rattle.sw_query.specs.declared.bound.Bound.{Bound}
use Rattle.sw_query.specs.declared.bound.Bound.TheVariants.{Before, After}

-- x lies left of the bound
abbrev pub is_left : Bound → ℤ → Bool
is_left (Before v) x = int_lt x v
is_left (After v) x = int_le x v

-- the order of bounds: by value, and at one value Before stands below After
abbrev pub bound_below : Bound → Bound → Bool
bound_below (Before v) (Before w) = int_lt v w
bound_below (Before v) (After w) = int_le v w
bound_below (After v) (Before w) = int_lt v w
bound_below (After v) (After w) = int_lt v w

abbrev pub same_bound : Bound → Bound → Bool
same_bound (Before v) (Before w) = int_eq v w
same_bound (Before v) (After w) = false
same_bound (After v) (Before w) = false
same_bound (After v) (After w) = int_eq v w

-- the greater of two lower bounds, where no bound is no limit
abbrev pub greater : Option Bound → Option Bound → Option Bound
greater None b = b
greater (Some a) None = Some a
greater (Some a) (Some b) = if bound_below a b then Some b else Some a

-- the lesser of two upper bounds, where no bound is no limit
abbrev pub lesser : Option Bound → Option Bound → Option Bound
lesser None b = b
lesser (Some a) None = Some a
lesser (Some a) (Some b) = if bound_below a b then Some a else Some b

-- x is not left of the lower bound, if there is one
abbrev pub is_above : Option Bound → ℤ → Bool
is_above None x = true
is_above (Some b) x = not (is_left b x)

-- x is left of the upper bound, if there is one
abbrev pub is_below : Option Bound → ℤ → Bool
is_below None x = true
is_below (Some b) x = is_left b x

-- x is in the range of both
abbrev pub is_within : Option Bound → Option Bound → ℤ → Bool
is_within lower upper x = is_above lower x && is_below upper x
