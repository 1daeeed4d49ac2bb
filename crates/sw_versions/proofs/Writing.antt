-- What a publishing leaves.
use Rattle.std.proofs.Common.{◌≡◌, ◌∙◌, ◌++◌, ◌∷◌, [], List, None, Option, Some, ap, append_assoc, fold, refl, subst, sym, ℕ}
use Rattle.std.proofs.lemmas.List.{append-nil}
use Rattle.logbook.specs.Pages.{Book}
use Rattle.sw_table.specs.Updates.{rows_then}
use Rattle.sw_table.specs.declared.row.Row.{Row}
use Rattle.sw_table.specs.declared.row.Update.{Update}
use Rattle.sw_versions.specs.Copied.{Copied, IsCopy, copy_of, updates_of, written}
use Rattle.sw_versions.specs.Known.{Written, wrote}
use Rattle.sw_versions.specs.Lists.{Listed, rows_after}
use Rattle.sw_versions.specs.Pending.{all_of, shelved}
use Rattle.sw_versions.specs.Rules.{updates_in}
use Rattle.sw_versions.specs.declared.op.Op.{Op}
use Rattle.sw_versions.specs.declared.op.Op.TheVariants as op
use Rattle.sw_versions.proofs.Prefixes.{prefix_self}
use mathlib.Core.List.{IsPrefix}

-- updates after updates
rows_on : (opening : List Row) (xs ys : List Update) → rows_after (rows_after opening xs) ys ≡ rows_after opening (xs ++ ys)
rows_on opening [] ys = refl
rows_on opening (x ∷ xs) ys = rows_on (rows_then opening x) xs ys

-- what operations leave, and then the name of a list
named : (copy : Copied) (ops : List Op) (list : Listed) → fold written copy (ops ++ op.Name list ∷ []) ≡ record { rows = rows_after copy.rows (updates_of ops); list = list }
named copy [] list = refl
named copy (op.Make u ∷ ops) list = named (written copy (op.Make u)) ops list
named copy (op.Name l ∷ ops) list = named (written copy (op.Name l)) ops list

-- where they make its updates whole, that is its copy
pub named_copy : (book : Book) (opening : List Row) (copy : Copied) (ops ops' : List Op) (batches : List (List Update))
    → rows_after copy.rows (updates_of ops) ≡ rows_after opening (updates_in batches)
    → ops' ≡ ops ++ op.Name (record { book = book; batches = batches }) ∷ []
    → fold written copy ops' ≡ copy_of book opening batches
named_copy book opening copy ops ops' batches rows is =
    let list : Listed = record { book = book; batches = batches } in
    ap (λ (l : List Op). fold written copy l) is ∙ (named copy ops list ∙ ap (λ (rs : List Row). record { rows = rs; list = list }) rows)

-- the copy of a list is that of the list that it names
pub is_copy : (book : Book) (opening : List Row) (copy : Copied) (batches : List (List Update)) → copy ≡ copy_of book opening batches → IsCopy book opening copy
is_copy book opening copy batches is = is ∙ ap (λ (l : List (List Update)). copy_of book opening l) (sym (ap (λ (c : Copied). c.list.batches) is))

-- a name is no update
pub name_adds_none : (ops : List Op) (list : Listed) → updates_of (ops ++ op.Name list ∷ []) ≡ updates_of ops
name_adds_none [] list = refl
name_adds_none (op.Make u ∷ ops) list = ap (λ l. u ∷ l) (name_adds_none ops list)
name_adds_none (op.Name l ∷ ops) list = name_adds_none ops list

makes_one : (ops : List Op) (u : Update) → updates_of (ops ++ op.Make u ∷ []) ≡ updates_of ops ++ u ∷ []
makes_one [] u = refl
makes_one (op.Make v ∷ ops) u = ap (λ l. v ∷ l) (makes_one ops u)
makes_one (op.Name l ∷ ops) u = makes_one ops u

-- one update more
pub one_more : (us : List Update) (ops ops' : List Op) (u : Update) → ops' ≡ ops ++ op.Make u ∷ [] → us ++ updates_of ops' ≡ (us ++ updates_of ops) ++ u ∷ []
one_more us ops ops' u is = ap (λ l. us ++ updates_of l) is ∙ (ap (λ l. us ++ l) (makes_one ops u) ∙ sym (append_assoc us (updates_of ops) (u ∷ [])))

-- the rows of the published list with what is pending
pub rows_pending : (book : Book) (opening : List Row) (shown : Copied) (published list : List (List Update)) (pending : List Update)
    → shown ≡ copy_of book opening published → updates_in published ++ pending ≡ updates_in list
    → rows_after shown.rows pending ≡ rows_after opening (updates_in list)
rows_pending book opening shown published list pending is all =
    ap (λ (c : Copied). rows_after c.rows pending) is ∙ (rows_on opening (updates_in published) pending ∙ ap (λ us. rows_after opening us) all)

-- a writer that was just made has what stands in the book
pub wrote_shelved : (booked : List (List Update)) (w : Written) → w ≡ wrote booked → IsPrefix (all_of w) (updates_in booked) × IsPrefix w.published booked
wrote_shelved booked w is = subst (λ (v : Written). IsPrefix (all_of v) (updates_in booked) × IsPrefix v.published booked) (sym is) (
  ([], append-nil (all_of (wrote booked)) ∙ append-nil (updates_in booked)),
  prefix_self booked,
)

-- what stands in the book, with copies or without
pub booked_of : (booked : List (List Update)) (w : Option Written) (missed : ℕ) → (shelved booked w missed).booked ≡ booked
booked_of booked None missed = refl
booked_of booked (Some w) missed = refl
