use Rattle.std.proofs.Common.{◌≡◌, ◌∙◌, ◌++◌, ap, length, Bool, List, rules}
use Rattle.sw_table.specs.Kept.{kept}
use Rattle.sw_table.specs.declared.row.Row.{Row}
use Rattle.sw_spine.specs.Listed.{flags_at, listed}
use Rattle.sw_spine.proofs.ListedLemmas.{listed_tidy}
use Rattle.sw_spine.proofs.store.Store.tidy.Goals as goal

pub invariant_of-self : goal.invariant_of-self
invariant_of-self c =
    let s = c.self.inside in
    let given : List Row = s.rows.items ++ s.came.items in
    let places = listed s.listing.some.items s.listing.from (length given) in
    let lives : c.in_ok-some.some.items ≡ kept (flags_at places s.live.items) places = c.in_ok-some.ensures ∙ ap (λ (fs : List Bool). kept (flags_at places fs) places) c.as_slice.ensures.value in
    let count : c.len-then-places-lives.result ≡ length s.live.items = search rules in
    let upto : c.len-then-places-lives.result ≡ length given = count ∙ c.self.invariant.1.many in
    (c.self.invariant.0, rw (lives, upto) (listed_tidy given s.live.items s.listing.some.items s.listing.from c.self.invariant.1))
