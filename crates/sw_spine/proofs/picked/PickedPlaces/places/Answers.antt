use Rattle.std.proofs.Common.{◌≡◌, ◌∙◌, ◌+◌, ◌-◌, ap, length, List, arith, rules}
use Rattle.std.proofs.lemmas.List.{length-map}
use Rattle.sw_table.specs.declared.row.Row.{Row}
use Rattle.sw_spine.specs.Listed.{Given, listed, rows_at}
use Rattle.sw_spine.proofs.ListedLemmas.{listed_long}
use Rattle.sw_spine.proofs.picked.PickedPlaces.places.Goals as goal

pub returns : goal.returns
returns c =
    let s = c.self.inside in let some = s.listing.now.some.items in let from = s.listing.now.from in
    let came : List Row = s.table.now.came in
    let places = listed some from (length came) in
    let first : c.len.result ≡ length some = search rules in
    let many : c.len-2.result ≡ length came = c.len-2.ensures.many ∙ ap (λ (l : List Row). length l) c.came.ensures.value in
    let long : length (rows_at places came) ≡ length some + (length came - from) = length-map places _ ∙ listed_long some from (length came) in
    omega (arith, first, many, long) ∙ ap (λ (v : Given). length (rows_at v.places v.rows)) c.self.view_is
