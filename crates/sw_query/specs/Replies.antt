-- The rows of a reply as one flat list of cells, beside their labels: each row's key with how many cells it shows.
use Rattle.std.specs.Prelude.{◌≡◌, ◌+◌, ℕ, ℤ, List, [], ◌∷◌, map, take, drop, Option, Some, None, MatchOption, Box}
use denote.Ref.{Bor}
use Rattle.sw_query.specs.declared.reply.ReplyRow.{ReplyRow}
use Rattle.sw_query.specs.declared.reply.labels.Form.{Form}
use Rattle.sw_query.specs.declared.reply.labels.Form.TheVariants as form
use Rattle.sw_query.specs.declared.reply.labels.FormLeft.{FormLeft}
use Rattle.sw_query.specs.declared.reply.labels.FormLeft.TheVariants as left

-- keys of rows that show as many cells each
abbrev pub evenly : ℕ → List ℕ → List (ℕ × ℕ)
evenly many keys = map (λ (k : ℕ). (k, many)) keys

-- the labels that a form stands for
abbrev pub labels_in : Form → List (ℕ × ℕ)
labels_in (form.Even many keys) = evenly many keys.items
labels_in (form.Listed labels) = labels.items

abbrev pub labels_left : FormLeft → List (ℕ × ℕ)
labels_left (left.Even many keys) = evenly many keys.now
labels_left (left.Listed labels) = labels.now

-- a row of a reply
abbrev pub reply_row : ℕ → List ℤ → ReplyRow
reply_row key cells = record { key = key; cells = cells }

-- the rows of a flat list of cells
abbrev pub rows_in : List (ℕ × ℕ) → List ℤ → List ReplyRow
rows_in [] cs = []
rows_in (l ∷ ls) cs = reply_row l.0 (take l.1 cs) ∷ rows_in ls (drop l.1 cs)

-- how many cells rows show together
abbrev pub shown_by : List (ℕ × ℕ) → ℕ
shown_by [] = 0
shown_by (l ∷ ls) = l.1 + shown_by ls

-- the first item of a list was taken, if it has one
abbrev pub IsFirstOf : {X : Type 0} → List X → List X → Option X → Type 0
IsFirstOf was later taken = MatchOption taken ((was ≡ []) × (later ≡ [])) (λ x. was ≡ x ∷ later)

-- the key of the first row, if there is one
abbrev pub first_key : List ReplyRow → Option ℕ
first_key [] = None
first_key (r ∷ rs) = Some r.key

abbrev pub first_label : List (ℕ × ℕ) → Option ℕ
first_label [] = None
first_label (l ∷ ls) = Some l.0

-- the rows of a reply, none where nothing is kept
abbrev pub rows_of : {A : Type 0} → Option (Box (List ReplyRow) A) → List ReplyRow
rows_of None = []
rows_of (Some flat) = flat.value

-- the row that comes next was taken, if there is one
abbrev pub IsNextRow : List ReplyRow → List ReplyRow → Option (ℕ × Bor (List ℤ)) → Type 0
IsNextRow was later next = MatchOption next ((was ≡ []) × (later ≡ [])) (λ r. was ≡ reply_row r.0 r.1.now ∷ later)
