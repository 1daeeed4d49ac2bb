-- What a column is taken for, of which a form was asked.
use Rattle.std.specs.Prelude.{◌&&◌, if◌then◌else◌, ℕ, not, nat_lt}
use Rattle.sw_import.specs.Forms.{takes_blanks}
use Rattle.sw_import.specs.declared.evidence.Evidence.{Evidence}
use Rattle.sw_import.specs.declared.forms.Form.{Form}
use Rattle.sw_import.specs.declared.forms.Form.TheVariants as form
use Rattle.sw_import.specs.declared.rules.Blank.{Blank}
use Rattle.sw_import.specs.declared.rules.Blank.TheVariants as blank
use Rattle.sw_import.specs.declared.rules.Long.{Long}
use Rattle.sw_import.specs.declared.rules.Long.TheVariants as long
use Rattle.sw_import.specs.declared.rules.Rules.{Rules}

-- texts, where that was chosen of cells without a value, there are some, and the form does not take them
abbrev pub with_blanks : Blank → ℕ → Form → Form
with_blanks blank.Text blanks f = if nat_lt 0 blanks && not (takes_blanks f) then form.Text else f
with_blanks other blanks f = f

-- numbers for texts, where that was chosen of long texts, there are some, and it is a column of texts
abbrev pub with_longs : Long → ℕ → Form → Form
with_longs long.Number longs form.Text = if nat_lt 0 longs then form.Code else form.Text
with_longs l longs f = f

-- both, by what was seen of the cells
abbrev pub form_under : Rules → Evidence → Form → Form
form_under rules e f = with_longs rules.long e.long.count (with_blanks rules.blank e.blank.count f)
