use Rattle.std.proofs.Common.{◌≡◌, ◌∙◌, true, sym, subst, List}
use Rattle.sw_table.specs.declared.row.Row.{Row}
use Rattle.sw_spine.specs.Table.{is_numbered}
use Rattle.sw_spine.proofs.ReplayLemmas.{numbered_rise}
use Rattle.test_spine.proofs.indexes.opened_stand.Goals as goal

pub from_rows-requires : goal.from_rows-requires
from_rows-requires c = numbered_rise 0 c.in-Ok.packed.items (subst (λ (rs : List Row). is_numbered 1 rs ≡ true) (sym (c.in-Ok.ensures.rows ∙ c.as_slice.ensures.value)) c.in_ok-rows.ensures.1)
