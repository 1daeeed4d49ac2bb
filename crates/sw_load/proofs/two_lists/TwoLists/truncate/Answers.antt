use Rattle.std.proofs.Common.{◌≡◌, ◌∙◌, ◌-◌, ◌++◌, ℕ, ap, length, refl, sym, take, arith}
use Rattle.sw_table.specs.Packed.{Packed}
use Rattle.sw_load.proofs.Halves.{take-both}
use Rattle.sw_load.proofs.two_lists.TwoLists.truncate.Goals as goal

pub returns : goal.returns
returns c =
    let s = c.self.inside in let m = c.args.many in
    let left : c.saturating_sub.result ≡ m - length s.rows.items = omega (arith, c.saturating_sub.ensures, c.len.ensures.many) in
    ap (λ (v : Packed). v.items ++ c.truncate.new.self.items) c.truncate-2.ensures
    ∙ ap (λ (v : Packed). take m s.rows.items ++ v.items) c.truncate.ensures
    ∙ ap (λ (n : ℕ). take m s.rows.items ++ take n s.more.items) left
    ∙ sym (take-both s.rows.items s.more.items m m (m - length s.rows.items) refl refl)
    ∙ ap (λ (v : Packed). take m v.items) c.self.view_is
