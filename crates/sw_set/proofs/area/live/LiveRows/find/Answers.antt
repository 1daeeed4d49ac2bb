use Rattle.std.proofs.Common.{◌≡◌, ◌∙◌, ◌<◌, ap, sym, subst, List, length, length-append, get_or, arith}
use Rattle.std.proofs.lemmas.List.{get_or-append-add}
use Rattle.sw_table.specs.declared.row.Row.{Row}
use Rattle.sw_set.specs.Live.{Standing}
use Rattle.sw_set.specs.Shelf.{Rises, key_of}
use Rattle.sw_set.proofs.Areas.LiveFinds.{rises-back, rises-front}
use Rattle.sw_set.proofs.area.live.LiveRows.find.Goals as goal

pub find-requires : goal.find-requires
find-requires c = rises-front c.args.load.now.items c.args.self.now.later c.requires.rise

pub find-requires-2 : goal.find-requires-2
find-requires-2 c =
    let is : c.self.inside.later.items ≡ c.args.self.now.later = ap (λ (v : Standing). v.later) c.self.view_is in
    subst (Rises key_of) (sym is) (rises-back c.args.load.now.items c.args.self.now.later c.requires.rise)

pub returns-in-Some-find : goal.returns-in-Some-find
returns-in-Some-find c =
    let load = c.args.load.now.items in let later = c.args.self.now.later in let p = c.in-Some-find.place in
    let is : c.self.inside.later.items ≡ later = ap (λ (v : Standing). v.later) c.self.view_is in
    let at = subst (λ (v : List Row). (p < length v) × ((d : Row) → (get_or v p d).key ≡ c.args.key)) is c.in-Some-find.ensures in
    rw c.len.ensures.many (omega (arith, at.0, length-append load later), λ d. ap (λ (r : Row). r.key) (get_or-append-add load later p d) ∙ at.1 d)
