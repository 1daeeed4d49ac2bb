-- Codes of an area, its boxes and its inbox, and of a range: a model whose value one is names it.
use Rattle.std.specs.Prelude.{◌≡◌, ℕ, ℤ, List, Option, ◌⊎◌, refl}
use mathlib.Core.Logic.{inl, inr}
use Rattle.std.specs.Coded.{Coded, code_by, coded×, coded⊎, coded_list, coded_option, coded_ℕ, coded_ℤ}
use Rattle.sw_query.specs.declared.bound.Bound.{Bound}
use Rattle.sw_query.specs.declared.bound.Bound.TheVariants.{Before, After}
use Rattle.sw_table.specs.declared.row.Row.{Row}
use Rattle.sw_table.specs.declared.row.Update.{Update}
use Rattle.sw_table.specs.declared.row.Update.TheVariants as update
use Rattle.sw_kernel.specs.Codes.{sided, unsided}
use Rattle.sw_kernel.specs.Replay.{Step, loaded, inserted, removed, ranged}
use Rattle.sw_map.specs.Held.{Held}
use Rattle.sw_map.specs.Codes.{held_code}
use Rattle.sw_set.specs.Choice.{RangeState}
use Rattle.sw_set.specs.Inbox.{Waiting}
use Rattle.sw_set.specs.Shelf.{AreaState}

abbrev pub unsided-sided : (b : Bound) → unsided (sided b) ≡ b
unsided-sided (Before v) = refl
unsided-sided (After v) = refl

abbrev pub bound_code : Coded Bound
bound_code = code_by (ℤ ⊎ ℤ) (coded⊎ coded_ℤ coded_ℤ) sided unsided unsided-sided

abbrev pub row_code : Coded Row
row_code =
    code_by (ℕ × List ℤ) (coded× coded_ℕ (coded_list coded_ℤ))
    (λ r. (r.key, r.cells))
    (λ p. record { key = p.0; cells = p.1 })
    (λ _. refl)

-- an update as a row, or a key
abbrev pub update_parts : Update → Row ⊎ ℕ
update_parts (update.Insert r) = inl r
update_parts (update.Remove k) = inr k

abbrev pub update_of : Row ⊎ ℕ → Update
update_of (inl r) = update.Insert r
update_of (inr k) = update.Remove k

abbrev pub update_of-parts : (u : Update) → update_of (update_parts u) ≡ u
update_of-parts (update.Insert r) = refl
update_of-parts (update.Remove k) = refl

abbrev pub update_code : Coded Update
update_code = code_by (Row ⊎ ℕ) (coded⊎ row_code coded_ℕ) update_parts update_of update_of-parts

-- a step as rows, a row, a place or two bounds
abbrev pub StepParts : Type 0
StepParts = (List Row ⊎ Row) ⊎ (ℕ ⊎ (Option Bound × Option Bound))

abbrev pub step_parts : Step Row → StepParts
step_parts (loaded rows) = inl (inl rows)
step_parts (inserted row) = inl (inr row)
step_parts (removed place) = inr (inl place)
step_parts (ranged lower upper) = inr (inr (lower, upper))

abbrev pub step_of_parts : StepParts → Step Row
step_of_parts (inl (inl rows)) = loaded rows
step_of_parts (inl (inr row)) = inserted row
step_of_parts (inr (inl place)) = removed place
step_of_parts (inr (inr p)) = ranged p.0 p.1

abbrev pub step_of-parts : (e : Step Row) → step_of_parts (step_parts e) ≡ e
step_of-parts (loaded rows) = refl
step_of-parts (inserted row) = refl
step_of-parts (removed place) = refl
step_of-parts (ranged lower upper) = refl

abbrev pub step_code : Coded (Step Row)
step_code =
    code_by StepParts
    (coded⊎
    (coded⊎ (coded_list row_code) row_code)
    (coded⊎ coded_ℕ (coded× (coded_option bound_code) (coded_option bound_code))))
    step_parts step_of_parts step_of-parts

-- a code of the boxes of an area
abbrev pub boxes_code : Coded (List Held)
boxes_code = coded_list held_code

-- a code of an inbox
abbrev pub waiting_code : Coded Waiting
waiting_code =
    code_by (List Update × ℕ) (coded× (coded_list update_code) coded_ℕ)
    (λ w. (w.updates, w.spare))
    (λ p. record { updates = p.0; spare = p.1 })
    (λ _. refl)

abbrev pub AreaParts : Type 0
AreaParts = (ℕ × (Option ℤ × Option ℤ)) × ((List Update × ℕ) × (List (Step Row) × List Held))

abbrev pub area_code : Coded AreaState
area_code =
    code_by AreaParts
    (coded×
    (coded× coded_ℕ (coded× (coded_option coded_ℤ) (coded_option coded_ℤ)))
    (coded× (coded× (coded_list update_code) coded_ℕ) (coded× (coded_list step_code) boxes_code)))
    (λ x. ((x.attribute, (x.from, x.below)), ((x.inbox, x.spare), (x.tape, x.boxes))))
    (λ p. record {
      attribute = p.0.0;
      from = p.0.1.0;
      below = p.0.1.1;
      inbox = p.1.0.0;
      spare = p.1.0.1;
      tape = p.1.1.0;
      boxes = p.1.1.1;
    })
    (λ _. refl)

-- a code of a range that maps show
abbrev pub RangeParts : Type 0
RangeParts = (ℕ × (ℕ × ℕ)) × (List (Step Row) × List Held)

abbrev pub range_code : Coded RangeState
range_code =
    code_by RangeParts
    (coded× (coded× coded_ℕ (coded× coded_ℕ coded_ℕ)) (coded× (coded_list step_code) boxes_code))
    (λ r. ((r.head, (r.from, r.upto)), (r.tape, r.maps)))
    (λ p. record { head = p.0.0; tape = p.1.0; maps = p.1.1; from = p.0.1.0; upto = p.0.1.1 })
    (λ _. refl)
