use Rattle.std.proofs.Common.{◌≡◌, ◌+◌, ◌++◌, drop}
use Rattle.sw_import.specs.Numbered.{numbered_from}
use Rattle.sw_import.specs.Pages.{text_of}
use Rattle.sw_import.proofs.numbered.add_dictionary.Given as goal

abbrev pub invariant-loop-place : goal.invariant-loop-place
invariant-loop-place l =
    l.pages ++ text_of (numbered_from (l.place + 1) l.planned.column.name (drop l.place l.planned.dictionary))
    ≡ l.initial.pages ++ text_of (numbered_from 1 l.planned.column.name l.planned.dictionary)
