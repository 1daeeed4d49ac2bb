-- What the cells of a column are, and what each stands for.
use Rattle.std.specs.Prelude.{◌==◌, ◌&&◌, if◌then◌else◌, ℕ, Bool, true, false, not, List, [], ◌∷◌, map, min, codes, bytes_eq, Option, Some, None, is_some}
use Rattle.std.specs.Char.{is_ascii_digit, to_ascii_lowercase}
use Rattle.sw_rows.specs.Cells.{cell_value}
use Rattle.sw_rows.specs.Domains.{Domain}
use Rattle.sw_rows.specs.Domains as kind
use Rattle.sw_import.specs.Dates.{days_of, seconds_of}
use Rattle.sw_import.specs.declared.forms.Form.{Form}
use Rattle.sw_import.specs.declared.forms.Form.TheVariants as form
use Rattle.sw_import.specs.declared.rules.Times.{Times}
use Rattle.sw_import.specs.declared.rules.Times.TheVariants as times

-- the domain of numbers with so many decimals, of which there are at most six
abbrev pub number_domain : ℕ → Domain
number_domain places = if places == 0 then kind.Int else kind.Fix (min places 6)

-- the domain of the attribute that a column becomes
abbrev pub domain_of : Form → Domain
domain_of (form.Number places) = number_domain places
domain_of form.Flag = kind.Flag
domain_of form.Seconds = kind.Int
domain_of form.Days = kind.Int
domain_of form.Text = kind.Text []
domain_of form.Code = kind.Int

-- the word of a header for numbers with so many decimals, of which there are at most six
abbrev pub number_word : ℕ → List ℕ
number_word places =
    if places == 0 then codes "int"
    else if places == 1 then codes "fix1"
    else if places == 2 then codes "fix2"
    else if places == 3 then codes "fix3"
    else if places == 4 then codes "fix4"
    else if places == 5 then codes "fix5"
    else codes "fix6"

-- the word of a header for the attribute that a column becomes
abbrev pub word_of : Form → List ℕ
word_of (form.Number places) = number_word places
word_of form.Flag = codes "flag"
word_of form.Seconds = codes "int"
word_of form.Days = codes "int"
word_of form.Text = codes "text"
word_of form.Code = codes "int"

-- a digit, which is no zero before another digit
abbrev pub begins_whole : List ℕ → Bool
begins_whole [] = false
begins_whole (c ∷ []) = is_ascii_digit c
begins_whole (c ∷ d ∷ rest) = is_ascii_digit c && not ((c == 48) && is_ascii_digit d)

-- perhaps a minus sign, and such a digit
abbrev pub begins_plainly : List ℕ → Bool
begins_plainly [] = false
begins_plainly (c ∷ rest) = if c == 45 then begins_whole rest else begins_whole (c ∷ rest)

-- the flag that a cell is, in whatever case
abbrev pub flag_of : List ℕ → Option Bool
flag_of cell =
    let lower = map to_ascii_lowercase cell in
    if bytes_eq lower (codes "true") then Some true
    else if bytes_eq lower (codes "false") then Some false
    else None

-- whether a cell is one of a form
abbrev pub fits : Form → List ℕ → Bool
fits (form.Number places) cell = begins_plainly cell && is_some (cell_value (number_domain places) cell)
fits form.Flag cell = is_some (flag_of cell)
fits form.Seconds cell = is_some (seconds_of cell)
fits form.Days cell = is_some (days_of cell)
fits form.Text cell = true
fits form.Code cell = true

-- whether cells without a value may stand in a column of a form
abbrev pub takes_blanks : Form → Bool
takes_blanks form.Text = true
takes_blanks form.Code = true
takes_blanks (form.Number places) = false
takes_blanks form.Flag = false
takes_blanks form.Seconds = false
takes_blanks form.Days = false

abbrev pub time_form : Times → Form
time_form times.Seconds = form.Seconds
time_form times.Days = form.Days
time_form times.Text = form.Flag

-- the forms that are tried in turn, from the most special: numbers with ever more decimals, flags, and times
abbrev pub forms_tried : Times → List Form
forms_tried t =
    form.Number 0 ∷ form.Number 1 ∷ form.Number 2 ∷ form.Number 3 ∷ form.Number 4 ∷ form.Number 5 ∷ form.Number 6
    ∷ form.Flag ∷ time_form t ∷ []
