-- A code of what a map holds: a model whose value lists maps names it.
use Rattle.std.specs.Prelude.{◌≡◌, ℕ, ℤ, Bool, Option, None, Some, refl}
use Rattle.std.specs.Coded.{Coded, code_by, coded×, coded_option, coded_ℕ, coded_ℤ, coded_bool}
use Rattle.sw_kernel.specs.Arrangement.{Arrangement}
use Rattle.sw_kernel.specs.Codes.{arrangement_code}
use Rattle.sw_map.specs.declared.tail.Tail.{Tail}
use Rattle.sw_map.specs.declared.tail.Tail.TheVariants.{Key, Cell}
use Rattle.sw_map.specs.Held.{Held}

-- a tail as the attribute whose cells it has, if it isn't the key
abbrev pub attribute_of : Tail → Option ℕ
attribute_of Key = None
attribute_of (Cell a) = Some a

abbrev pub tail_with : Option ℕ → Tail
tail_with None = Key
tail_with (Some a) = Cell a

abbrev pub tail_with-attribute : (t : Tail) → tail_with (attribute_of t) ≡ t
tail_with-attribute Key = refl
tail_with-attribute (Cell a) = refl

abbrev pub tail_code : Coded Tail
tail_code = code_by (Option ℕ) (coded_option coded_ℕ) attribute_of tail_with tail_with-attribute

abbrev pub pairs_code : Coded (Arrangement (ℤ × ℤ))
pairs_code = arrangement_code (coded× coded_ℤ coded_ℤ)

abbrev pub HeldParts : Type 0
HeldParts = (Bool × (ℕ × Tail)) × ((ℕ × ℕ) × Arrangement (ℤ × ℤ))

abbrev pub held_code : Coded Held
held_code =
    code_by HeldParts
    (coded× (coded× coded_bool (coded× coded_ℕ tail_code)) (coded× (coded× coded_ℕ coded_ℕ) pairs_code))
    (λ m. ((m.is_blank, (m.head, m.tail)), ((m.cells, m.cursor), m.pairs)))
    (λ p. record { is_blank = p.0.0; head = p.0.1.0; tail = p.0.1.1; cells = p.1.0.0; cursor = p.1.0.1; pairs = p.1.1 })
    (λ _. refl)
