-- A code of a head: a model whose value it is names it.
use Rattle.std.specs.Prelude.{ℕ, ℤ, List, refl}
use Rattle.std.specs.Coded.{Coded, code_by, coded×, coded_list, coded_ℕ, coded_ℤ}
use Rattle.sw_table.specs.declared.row.Update.{Update}
use Rattle.sw_set.specs.Codes.{area_code, update_code}
use Rattle.sw_set.specs.Shelf.{AreaState}
use Rattle.sw_chunks.specs.Heads.{HeadState}

abbrev pub HeadParts : Type 0
HeadParts = (ℕ × List ℤ) × (List Update × List AreaState)

abbrev pub parts_code : Coded HeadParts
parts_code = coded× (coded× coded_ℕ (coded_list coded_ℤ)) (coded× (coded_list update_code) (coded_list area_code))

abbrev pub parts_of : HeadState → HeadParts
parts_of h = ((h.attribute, h.cuts), (h.updates, h.areas))

abbrev pub head_from : HeadParts → HeadState
head_from p = record { attribute = p.0.0; cuts = p.0.1; updates = p.1.0; areas = p.1.1 }

abbrev pub head_code : Coded HeadState
head_code = code_by HeadParts parts_code parts_of head_from (λ _. refl)
