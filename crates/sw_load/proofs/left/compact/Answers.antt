use Rattle.std.proofs.Common.{◌≡◌, ◌∙◌, List, ℕ, Bool, ap, length, refl, arith}
use Rattle.sw_table.specs.Kept.{kept}
use Rattle.sw_load.specs.Gone.{flags_without, left_of}
use Rattle.sw_load.proofs.Flagged.{flags-kept, flags-many}
use Rattle.sw_load.proofs.left.compact.Goals as goal

pub compact-requires : goal.compact-requires
compact-requires c =
    let xs = c.args.all.now.items in let gs = c.args.gone.now.items in
    let flags : c.deref-2.result.now ≡ flags_without 0 c.len.result c.deref.result.now = c.deref-2.ensures.value ∙ c.in_ok-live.ensures in
    let same : flags_without 0 c.len.result c.deref.result.now ≡ flags_without 0 (length xs) gs = ap (λ (n : ℕ). flags_without 0 n c.deref.result.now) c.len.ensures.many ∙ ap (flags_without 0 (length xs)) c.deref.ensures.value in
    let many = flags-many 0 (length xs) gs c.requires in
    omega (arith, ap length flags, ap length same, many)

pub returns-clause-items : goal.returns-clause-items
returns-clause-items c =
    let xs = c.args.all.now.items in let gs = c.args.gone.now.items in
    let flags : c.deref-2.result.now ≡ flags_without 0 c.len.result c.deref.result.now = c.deref-2.ensures.value ∙ c.in_ok-live.ensures in
    let same : flags_without 0 c.len.result c.deref.result.now ≡ flags_without 0 (length xs) gs = ap (λ (n : ℕ). flags_without 0 n c.deref.result.now) c.len.ensures.many ∙ ap (flags_without 0 (length xs)) c.deref.ensures.value in
    ap (λ (v : List ℕ). left_of c.compact.new.self.items v) c.clear.ensures.items
    ∙ c.in_ok-compact.ensures.ok
    ∙ ap (λ (v : List Bool). kept v xs) (flags ∙ same)
    ∙ flags-kept xs 0 (length xs) gs refl c.requires
