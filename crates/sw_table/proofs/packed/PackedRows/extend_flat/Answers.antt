use Rattle.std.proofs.Common.{◌≡◌, ◌≤◌, ◌∙◌, ◌+◌, ◌*◌, ◌++◌, ap, sym, subst, List, ℕ, ℤ, length, drop, take}
use Rattle.sw_table.specs.declared.row.Row.{Row}
use Rattle.sw_table.specs.Packed.{IsWhole, Packed, rows_in}
use Rattle.sw_table.proofs.Packing.{joined-whole, part-inside, part-whole, rows-joined, rows-many, rows-part}
use Rattle.sw_table.proofs.packed.PackedRows.extend_flat.Goals as goal

pub stretches-requires : goal.stretches-requires
stretches-requires c =
    let s = c.rows.inside in
    let le : c.args.start + c.args.many ≤ length s.keys =
    subst (λ n. c.args.start + c.args.many ≤ n) (sym (ap (λ (v : Packed). length v.items) c.rows.view_is) ∙ rows-many s.width s.keys s.cells) c.requires.within in
    rw c.as_slice.ensures (part-inside s.width c.args.start c.args.many s.keys s.cells c.rows.invariant le)

pub extend_from-requires : goal.extend_from-requires
extend_from-requires c =
    let s = c.rows.inside in
    subst (λ n. c.args.start + c.args.many ≤ n) (sym (ap (λ (v : Packed). length v.items) c.rows.view_is) ∙ rows-many s.width s.keys s.cells) c.requires.within

pub invariant_of-self-in-Ok : goal.invariant_of-self-in-Ok
invariant_of-self-in-Ok c =
    let s = c.self.inside in let t = c.rows.inside in let i = c.args.start in let m = c.args.many in
    let le : i + m ≤ length t.keys =
    subst (λ n. i + m ≤ n) (sym (ap (λ (v : Packed). length v.items) c.rows.view_is) ∙ rows-many t.width t.keys t.cells) c.requires.within in
    let same : t.width ≡ s.width = ap (λ (v : Packed). v.width) c.rows.view_is ∙ c.requires.width ∙ sym (ap (λ (v : Packed). v.width) c.self.view_is) in
    let part : IsWhole s.width (take m (drop i t.keys)) c.stretches.result.now =
    rw (c.stretches.ensures, c.as_slice.ensures) (subst (λ n. IsWhole n (take m (drop i t.keys)) (take (m * t.width) (drop (i * t.width) t.cells))) same (part-whole t.width i m t.keys t.cells c.rows.invariant le)) in
    rw (c.in-Ok.ensures.ok, c.in_ok-extend_from_slice.ensures.ok) (joined-whole s.width s.keys (take m (drop i t.keys)) s.cells c.stretches.result.now c.self.invariant part)

pub returns-in-Ok-clause-ok : goal.returns-in-Ok-clause-ok
returns-in-Ok-clause-ok c =
    let s = c.self.inside in let t = c.rows.inside in let i = c.args.start in let m = c.args.many in
    let le : i + m ≤ length t.keys =
    subst (λ n. i + m ≤ n) (sym (ap (λ (v : Packed). length v.items) c.rows.view_is) ∙ rows-many t.width t.keys t.cells) c.requires.within in
    let same : t.width ≡ s.width = ap (λ (v : Packed). v.width) c.rows.view_is ∙ c.requires.width ∙ sym (ap (λ (v : Packed). v.width) c.self.view_is) in
    let came : c.stretches.result.now ≡ take (m * t.width) (drop (i * t.width) t.cells) =
    c.stretches.ensures ∙ ap (λ (v : List ℤ). take (m * t.width) (drop (i * t.width) v)) c.as_slice.ensures in
    let part : rows_in s.width (take m (drop i t.keys)) c.stretches.result.now ≡ take m (drop i c.args.rows.now.items) =
    ap (rows_in s.width (take m (drop i t.keys))) came
    ∙ ap (λ n. rows_in n (take m (drop i t.keys)) (take (m * t.width) (drop (i * t.width) t.cells))) (sym same)
    ∙ rows-part t.width i m t.keys t.cells c.rows.invariant le
    ∙ ap (λ (v : Packed). take m (drop i v.items)) c.rows.view_is in
    let rows : rows_in s.width c.extend_from.new.self c.extend_from_slice.new.self ≡ rows_in s.width s.keys s.cells ++ take m (drop i c.args.rows.now.items) =
    ap (λ (ks : List ℕ). rows_in s.width ks c.extend_from_slice.new.self) c.in-Ok.ensures.ok
    ∙ ap (rows_in s.width (s.keys ++ take m (drop i t.keys))) c.in_ok-extend_from_slice.ensures.ok
    ∙ rows-joined s.width s.keys (take m (drop i t.keys)) s.cells c.stretches.result.now c.self.invariant.whole
    ∙ ap (λ (rs : List Row). rows_in s.width s.keys s.cells ++ rs) part in
    ap (λ (rs : List Row). let p : Packed = record { width = s.width; items = rs } in p) rows
    ∙ ap (λ (v : Packed). let p : Packed = record v { items = v.items ++ take m (drop i c.args.rows.now.items) } in p) c.self.view_is
