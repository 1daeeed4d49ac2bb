-- The domains of attributes, as the code hands them on.
use Rattle.std.specs.Prelude.{◌≡◌, [], false}
use Rattle.sw_rows.specs.Cells.{HasPlaces}
use Rattle.sw_rows.specs.Domains.{Domain, domain, is_of_texts}
use Rattle.sw_rows.specs.Domains as domains
use Rattle.sw_rows.specs.Header.{texts_of}
use Rattle.sw_lang.specs.declared.domain.AttrValues.{AttrValues}
use Rattle.sw_lang.specs.declared.domain.AttrValues.TheVariants as values

-- the domain of values: that of their kind, or that of a schema's texts
abbrev pub domain_of : AttrValues → Domain
domain_of (values.Numbers kind) = domain [] kind
domain_of (values.Texts schema) = domains.Text (texts_of schema.now)

-- a kind of numbers or flags, with one to six decimals where it has any
abbrev pub AreSound : AttrValues → Type 0
AreSound (values.Numbers kind) = HasPlaces kind × (is_of_texts (domain [] kind) ≡ false)
AreSound (values.Texts schema) = Unit {0}
