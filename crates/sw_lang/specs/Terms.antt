-- Comparisons of a call, and the conditions that they make.
use Rattle.std.specs.Prelude.{ℕ, ℤ, List, [], ◌∷◌, ◌++◌, map, ◌==◌, Option, Some, None, if◌then◌else◌}
use Rattle.std.specs.List.{list_any}
use Rattle.sw_query.specs.Bounds.{greater, lesser}
use Rattle.sw_query.specs.declared.bound.Bound.{Bound}
use Rattle.sw_query.specs.declared.bound.Bound.TheVariants.{Before, After}
use Rattle.sw_query.specs.declared.query.Cond.{Cond}
use Rattle.sw_lang.specs.declared.reading.token.Op.{Op}
use Rattle.sw_lang.specs.declared.reading.token.Op.TheVariants.{Lt, Le, Eq, Ge, Gt}
use Rattle.sw_lang.specs.declared.reading.term.Term.{Term}

abbrev pub lower_of : Op → ℤ → Option Bound
lower_of Lt v = None
lower_of Le v = None
lower_of Eq v = Some (Before v)
lower_of Ge v = Some (Before v)
lower_of Gt v = Some (After v)

abbrev pub upper_of : Op → ℤ → Option Bound
upper_of Lt v = Some (Before v)
upper_of Le v = Some (After v)
upper_of Eq v = Some (After v)
upper_of Ge v = None
upper_of Gt v = None

abbrev pub cond_of : Term → Cond
cond_of t = record { attr = t.attr; lower = lower_of t.op t.value; upper = upper_of t.op t.value }

-- a condition that also meets the term
abbrev pub narrowed : Cond → Term → Cond
narrowed c t =
    record {
      attr = c.attr;
      lower = greater c.lower (lower_of t.op t.value);
      upper = lesser c.upper (upper_of t.op t.value);
    }

-- the condition on the term's attribute is narrowed, or stands last as a new one
abbrev pub add_term : List Cond → Term → List Cond
add_term [] t = cond_of t ∷ []
add_term (c ∷ cs) t = if c.attr == t.attr then narrowed c t ∷ cs else c ∷ add_term cs t

-- ---- the conditions of a list of terms, told all at once

-- attributes with one more, which comes last if it is new
abbrev pub with_attr : List ℕ → ℕ → List ℕ
with_attr attrs a = if list_any (λ b. b == a) attrs then attrs else attrs ++ a ∷ []

-- attributes, then those of the terms, each where it first appears
abbrev pub attrs_after : List ℕ → List Term → List ℕ
attrs_after attrs [] = attrs
attrs_after attrs (t ∷ ts) = attrs_after (with_attr attrs t.attr) ts

-- the greatest of a lower bound and those that terms put on an attribute
abbrev pub lower_after : ℕ → Option Bound → List Term → Option Bound
lower_after a lower [] = lower
lower_after a lower (t ∷ ts) = lower_after a (if t.attr == a then greater lower (lower_of t.op t.value) else lower) ts

-- the least of an upper bound and those that terms put on an attribute
abbrev pub upper_after : ℕ → Option Bound → List Term → Option Bound
upper_after a upper [] = upper
upper_after a upper (t ∷ ts) = upper_after a (if t.attr == a then lesser upper (upper_of t.op t.value) else upper) ts

-- an attribute's condition: the greatest of its lower bounds and the least of its upper ones
abbrev pub cond_on : List Term → ℕ → Cond
cond_on ts a = record { attr = a; lower = lower_after a None ts; upper = upper_after a None ts }

-- the conditions of terms, one for each attribute, in the order in which the attributes first appear
abbrev pub conditions : List Term → List Cond
conditions ts = map (cond_on ts) (attrs_after [] ts)
