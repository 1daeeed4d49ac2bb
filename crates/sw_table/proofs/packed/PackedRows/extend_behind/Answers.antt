use Rattle.std.proofs.Common.{◌≡◌, ◌∙◌, ◌+◌, ◌<◌, ◌++◌, [], ap, sym, subst, List, ℕ, ℤ, get_or, length, length-append, map, arith}
use Rattle.std.proofs.lemmas.List.{length-map}
use Rattle.std.proofs.lemmas.Nat.{mul-le}
use Rattle.sw_table.specs.declared.row.Row.{Row}
use Rattle.sw_table.specs.Packed.{IsWhole, Packed, row_behind, rows_in}
use Rattle.sw_table.proofs.Packing.{joined-whole, rows-at, rows-joined, rows-many, rows-raised}
use Rattle.sw_table.proofs.packed.PackedRows.extend_behind.Goals as goal

pub extend_behind-requires-clause-small : goal.extend_behind-requires-clause-small
extend_behind-requires-clause-small c k d lt =
    let none : Row = record { key = 0; cells = [] } in
    let t = c.rows.inside in let rs = c.args.rows.now.items in
    let inside : k < length rs = subst (λ n. k < n) (sym (rows-many t.width t.keys t.cells) ∙ ap (λ (v : Packed). length v.items) c.rows.view_is) lt in
    subst (λ n. n < 9223372036854775808) (sym (ap (λ (v : Packed). (get_or v.items k none).key) c.rows.view_is) ∙ ap (λ (r : Row). r.key) (rows-at t.width t.keys t.cells k d none lt)) (c.requires.small k none inside)

pub invariant_of-self-in-Ok : goal.invariant_of-self-in-Ok
invariant_of-self-in-Ok c =
    let s = c.self.inside in let t = c.rows.inside in let m = length s.keys in
    let same : t.width ≡ s.width = ap (λ (v : Packed). v.width) c.rows.view_is ∙ c.requires.width ∙ sym (ap (λ (v : Packed). v.width) c.self.view_is) in
    let part : IsWhole s.width (map (λ (k : ℕ). m + k) t.keys) t.cells =
    record {
      some = c.self.invariant.some;
      most = c.self.invariant.most;
      whole = rw (length-map t.keys (λ (k : ℕ). m + k), ← same) c.rows.invariant.whole;
    } in
    rw (c.in-Ok.ensures.ok, c.in_ok-extend_from_slice.ensures.ok, c.as_slice.ensures) (joined-whole s.width s.keys (map (λ (k : ℕ). m + k) t.keys) s.cells t.cells c.self.invariant part)

pub returns-in-Ok-clause-ok : goal.returns-in-Ok-clause-ok
returns-in-Ok-clause-ok c =
    let s = c.self.inside in let t = c.rows.inside in let m = length s.keys in
    let many : m ≡ length c.args.self.now.items = sym (rows-many s.width s.keys s.cells) ∙ ap (λ (v : Packed). length v.items) c.self.view_is in
    let same : s.width ≡ t.width = ap (λ (v : Packed). v.width) c.self.view_is ∙ sym c.requires.width ∙ sym (ap (λ (v : Packed). v.width) c.rows.view_is) in
    let part : rows_in s.width (map (λ (k : ℕ). m + k) t.keys) t.cells ≡ map (row_behind (length c.args.self.now.items)) c.args.rows.now.items =
    rows-raised s.width m t.keys t.cells
    ∙ ap (λ n. map (row_behind m) (rows_in n t.keys t.cells)) same
    ∙ ap (λ (v : Packed). map (row_behind m) v.items) c.rows.view_is
    ∙ ap (λ n. map (row_behind n) c.args.rows.now.items) many in
    let rows : rows_in s.width c.extend_behind.new.self c.extend_from_slice.new.self ≡ rows_in s.width s.keys s.cells ++ map (row_behind (length c.args.self.now.items)) c.args.rows.now.items =
    ap (λ (ks : List ℕ). rows_in s.width ks c.extend_from_slice.new.self) c.in-Ok.ensures.ok
    ∙ ap (rows_in s.width (s.keys ++ map (λ (k : ℕ). m + k) t.keys)) (c.in_ok-extend_from_slice.ensures.ok ∙ ap (λ (v : List ℤ). s.cells ++ v) c.as_slice.ensures)
    ∙ rows-joined s.width s.keys (map (λ (k : ℕ). m + k) t.keys) s.cells t.cells c.self.invariant.whole
    ∙ ap (λ (rs : List Row). rows_in s.width s.keys s.cells ++ rs) part in
    ap (λ (rs : List Row). let p : Packed = record { width = s.width; items = rs } in p) rows
    ∙ ap (λ (v : Packed). let p : Packed = record v { items = v.items ++ map (row_behind (length c.args.self.now.items)) c.args.rows.now.items } in p) c.self.view_is

pub extend_behind-requires-clause-few : goal.extend_behind-requires-clause-few
extend_behind-requires-clause-few c =
    let s = c.self.inside in let t = c.rows.inside in
    let own = mul-le (length s.keys) 1 (length s.keys) s.width (omega arith) c.self.invariant.some in
    let theirs = mul-le (length t.keys) 1 (length t.keys) t.width (omega arith) c.rows.invariant.some in
    let all : c.len-all.result ≡ length s.cells + length t.cells =
    c.len-all.ensures.many ∙ ap length (c.in_ok-extend_from_slice.ensures.ok ∙ ap (λ (v : List ℤ). s.cells ++ v) c.as_slice.ensures) ∙ length-append s.cells t.cells in
    omega (arith, own, theirs, all, c.self.invariant.whole, c.rows.invariant.whole, c.len-all.ensures.few)
