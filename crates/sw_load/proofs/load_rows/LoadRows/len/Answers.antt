use Rattle.std.proofs.Common.{ap, length, refl, arith}
use Rattle.sw_table.specs.Packed.{Packed}
use Rattle.sw_load.proofs.Places.{without-long}
use Rattle.sw_load.proofs.load_rows.LoadRows.len.Goals as goal

pub overflow_sub-result : goal.overflow_sub-result
overflow_sub-result c =
    let s = c.self.inside in let k = s.gone.ok in
    let all = without-long s.all.items 0 (length s.all.items) s.gone.items refl c.self.invariant in
    omega (arith, all, c.len.ensures.many, c.len-2.ensures, k.0)

pub returns-clause-many : goal.returns-clause-many
returns-clause-many c =
    let s = c.self.inside in let k = s.gone.ok in
    let all = without-long s.all.items 0 (length s.all.items) s.gone.items refl c.self.invariant in
    omega (arith, all, c.len.ensures.many, c.len-2.ensures, k.0, ap (λ (v : Packed). length v.items) c.self.view_is)
