use Rattle.std.proofs.Common.{◌≡◌, ◌∙◌, ◌+◌, ◌-◌, ◌++◌, ap, length, List, arith, rules}
use Rattle.std.proofs.lemmas.List.{length-append, length-map}
use Rattle.sw_table.specs.declared.row.Row.{Row}
use Rattle.sw_spine.specs.Listed.{Given, listed, rows_at}
use Rattle.sw_spine.proofs.ListedLemmas.{listed_long}
use Rattle.sw_spine.proofs.given.GivenPlaces.places.Goals as goal

pub returns : goal.returns
returns c =
    let s = c.self.inside in
    let some = s.listing.now.some.items in
    let from = s.listing.now.from in
    let given : List Row = s.rows.now.items ++ s.came.now.items in
    let places = listed some from (length given) in
    let first : c.len.result ≡ length some = search rules in
    let many : c.len-2.result + c.len-3.result ≡ length given = omega (arith, c.len-2.ensures.many, c.len-3.ensures.many, length-append s.rows.now.items s.came.now.items) in
    let long : length (rows_at places given) ≡ length some + (length given - from) = length-map places _ ∙ listed_long some from (length given) in
    omega (arith, first, many, long) ∙ ap (λ (v : Given). length (rows_at v.places v.rows)) c.self.view_is
