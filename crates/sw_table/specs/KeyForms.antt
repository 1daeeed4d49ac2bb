-- What the forms of keys stand for.
use Rattle.std.specs.Prelude.{ℕ, List}
use Rattle.sw_table.specs.declared.keys.Form.{Form}
use Rattle.sw_table.specs.declared.keys.Form.TheVariants as form

-- the keys that a form stands for
abbrev pub keys_in : Form → List ℕ
keys_in (form.Numbered numbers) = numbers
keys_in (form.Listed keys) = keys.items
