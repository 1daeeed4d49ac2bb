use Rattle.std.proofs.Common.{◌≡◌, ◌++◌, drop}
use Rattle.std.specs.List.{flat_map}
use Rattle.sw_import.specs.Numbered.{dictionary_records, numbered_from}
use Rattle.sw_import.specs.Pages.{text_of}
use Rattle.sw_import.proofs.numbered.add_all.Given as goal

abbrev pub invariant-loop-planned : goal.invariant-loop-planned
invariant-loop-planned l =
    l.pages ++ text_of (flat_map (λ p. numbered_from 1 p.column.name p.dictionary) (drop l.planned-index l.plan))
    ≡ text_of (dictionary_records l.plan)
