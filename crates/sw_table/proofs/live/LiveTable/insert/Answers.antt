use Rattle.std.proofs.Common.{◌≡◌, ◌<◌, ◌++◌, ◌∷◌, ◌∙◌, [], ap, sym, subst, Bool, List, true}
use Rattle.sw_table.specs.declared.row.Row.{Row}
use Rattle.sw_table.specs.Live.{Living}
use Rattle.sw_table.specs.Packed.{Packed}
use Rattle.sw_table.proofs.Standing.{standing-pushed}
use Rattle.sw_table.proofs.live.LiveTable.insert.Goals as goal

pub invariant_of-self-2 : goal.invariant_of-self-2
invariant_of-self-2 c =
    let s = c.self.inside in let row = c.args.row.now in
    let came : c.push.new.self.items ≡ s.came.items ++ row ∷ [] = ap (λ (v : Packed). v.items) c.in_ok-push.ensures.ok ∙ ap (λ (v : List Row). v ++ row ∷ []) c.widen.ensures.rows in
    let live : c.push_reserved.new.self.items ≡ s.live.items ++ true ∷ [] = c.push_reserved.ensures.items ∙ ap (λ (v : List Bool). v ++ true ∷ []) c.in_ok-reserve.ensures.items in
    let top : s.top < row.key = subst (λ (v : Living). v.top < row.key) (sym c.self.view_is) c.requires in
    rw (came, live) (standing-pushed s.top s.came.items s.live.items s.dead row c.self.invariant top)

pub returns-clause-ok : goal.returns-clause-ok
returns-clause-ok c =
    let s = c.self.inside in let row = c.args.row.now in
    let came : c.push.new.self.items ≡ s.came.items ++ row ∷ [] = ap (λ (v : Packed). v.items) c.in_ok-push.ensures.ok ∙ ap (λ (v : List Row). v ++ row ∷ []) c.widen.ensures.rows in
    let live : c.push_reserved.new.self.items ≡ s.live.items ++ true ∷ [] = c.push_reserved.ensures.items ∙ ap (λ (v : List Bool). v ++ true ∷ []) c.in_ok-reserve.ensures.items in
    ap (λ (v : List Row). let t : Living = record { top = row.key; came = v; live = c.push_reserved.new.self.items } in t) came
    ∙ ap (λ (v : List Bool). let t : Living = record { top = row.key; came = s.came.items ++ row ∷ []; live = v } in t) live
    ∙ ap (λ (v : Living). let t : Living = record { top = row.key; came = v.came ++ row ∷ []; live = v.live ++ true ∷ [] } in t) c.self.view_is
