-- A purse or a lease as its caller sees it, what each step does to it, and what a lease that is refused tells.
use Rattle.std.specs.Prelude.{◌≡◌, ◌≢◌, ℕ, ◌+◌, ◌<◌, ◌≤◌}
use Rattle.atomic_table.specs.Seated.{TableId}
use Rattle.atomic_table.specs.declared.shared.Seat.{Seat}
use Rattle.sw_budget.specs.declared.seat.View.{View}
use Rattle.sw_budget.specs.Steps as step
use Rattle.sw_query.specs.declared.refusal.Refusal.{Refusal}
use Rattle.sw_query.specs.declared.refusal.Refusal.TheVariants.{Short, Contended}

-- Which budget it is of, that budget's capacity, and the view of its seat: the cells that it holds,
-- the word at its last load, the word that its last step found, how often it has loaded the word,
-- and how often it has tried to change it
pub record Account : Type 0 where
  pub budget : TableId
  pub capacity : ℕ
  pub held : ℕ
  pub seen : ℕ
  pub found : ℕ
  pub loads : ℕ
  pub tries : ℕ

-- the account of a seat of this budget that has this view
abbrev pub account_of : TableId → View → Account
account_of budget v = record {
  budget = budget;
  capacity = v.capacity;
  held = v.held;
  seen = v.seen;
  found = v.found;
  loads = v.loads;
  tries = v.tries;
}

abbrev pub view_of : Account → View
view_of a = record {
  capacity = a.capacity;
  held = a.held;
  seen = a.seen;
  found = a.found;
  loads = a.loads;
  tries = a.tries;
}

abbrev pub account : Seat (Unit {0}) View → Account
account s = account_of s.table_id s.me.0

-- the seat is at the word of this table, of this capacity, and holds so many cells
pub record IsSeated (seat : Seat (Unit {0}) View) (capacity : ℕ) (table : TableId) (key : ℕ) (cells : ℕ) : Type 0 where
  pub here : seat.table_id ≡ table
  pub one_word : seat.table_id.words ≡ 1
  pub keyed : key ≡ capacity
  pub known : seat.me.0.capacity ≡ capacity
  pub holds : seat.me.0.held ≡ cells

-- a new seat of this budget
abbrev pub empty : TableId → ℕ → Account
empty budget capacity = account_of budget (step.fresh capacity)

-- after a load of this word
abbrev pub looked : Account → ℕ → Account
looked a word = account_of a.budget (step.looked (view_of a) word)

-- after a compare-exchange that found this word, and left the seat with so many cells
abbrev pub tried : Account → ℕ → ℕ → Account
tried a held word = account_of a.budget (step.tried (view_of a) held word)

-- after a fetch-sub of all that is held
abbrev pub returned : Account → Account
returned a = account_of a.budget (step.returned (view_of a))

-- after one load, which saw `seen`, and one compare-exchange, which found `found`: the seat holds `held`
abbrev pub asked : Account → ℕ → ℕ → ℕ → Account
asked a held seen found = tried (looked a seen) held found

-- Why a lease of `want` cells was refused, and the account of the purse that comes back: the cells seen in use and
-- those wanted exceed the capacity, or the second step found another number than the load had seen
abbrev pub Refused : Account → ℕ → Account → Refusal → Type 0
Refused a want b (Short used wanted capacity) =
    (b ≡ looked a used) × (wanted ≡ want) × (capacity ≡ a.capacity) × (used ≤ capacity) × (capacity < used + want)
Refused a want b (Contended seen found) =
    (b ≡ asked a 0 seen found) × (seen ≢ found) × (seen + want ≤ a.capacity) × (found ≤ a.capacity)
Refused a want b _ = ⊥

-- a budget as its caller sees it
pub record Terms : Type 0 where
  pub budget : TableId
  pub capacity : ℕ

abbrev pub terms : TableId → ℕ → Terms
terms budget capacity = record { budget = budget; capacity = capacity }

-- the table of one word is the one that this purse sits at
abbrev pub IsWordOf : TableId → ℕ → Account → Type 0
IsWordOf table key a = (table ≡ a.budget) × (table.words ≡ 1) × (key ≡ a.capacity)
