-- What was seen of a history stays so.
use Rattle.std.proofs.Common.{◌≡◌, ◌≤◌, inl, inr, ℕ, zero, suc, false, List, [], ◌∷◌, Some, take, length, refl, sym, ap, ◌∙◌, arith}
use Rattle.std.specs.Prelude.{slice_get}
use Rattle.std.proofs.lemmas.Bool.{false≢true}
use Rattle.sw_table.specs.declared.row.Row.{Row}
use Rattle.sw_table.specs.declared.row.Update.{Update}
use Rattle.sw_query.specs.declared.query.Call.{Call}
use Rattle.sw_spine.specs.Table.{opened, updates_then}
use Rattle.sw_spine.specs.History.{is_open, updates_after}
use Rattle.sw_spine.specs.declared.history.Entry.{Entry}
use Rattle.sw_versions.specs.Rules.{updates_in}
use Rattle.sw_engine.specs.Later.{Begin, IsLater}
use Rattle.sw_engine.specs.Published.{EndWithEntries, IsOfFirst}

later_same : (e f : Entry) → IsLater e f → is_open e.state ≡ false → f ≡ e
later_same e f (inl same) closed = same
later_same e f (inr l) closed = absurd (false≢true (sym closed ∙ l.0))

-- an entry that is not open stays at its place
pub placed : (es fs : List Entry) (p : ℕ) (e : Entry) → Begin es fs → slice_get es p ≡ Some e → is_open e.state ≡ false → slice_get fs p ≡ Some e
placed [] fs p e begin at closed = absurd (cc)
placed (x ∷ es) [] p e begin at closed = absurd begin
placed (x ∷ es) (y ∷ fs) zero e begin at closed =
    let same : x ≡ e = cc in
    ap (λ (z : Entry). Some z) (later_same x y begin.0 (ap (λ (z : Entry). is_open z.state) same ∙ closed) ∙ same)
placed (x ∷ es) (y ∷ fs) (suc p) e begin at closed = placed es fs p e begin.1 at closed

later_call : (e f : Entry) → IsLater e f → f.call ≡ e.call
later_call e f (inl same) = ap (λ (x : Entry). x.call) same
later_call e f (inr l) = ap (λ (x : Entry). x.call) l.1

begin_longer : (es fs : List Entry) → Begin es fs → length es ≤ length fs
begin_longer [] fs begin = omega arith
begin_longer (e ∷ es) [] begin = absurd begin
begin_longer (e ∷ es) (f ∷ fs) begin = let rest = begin_longer es fs begin.1 in omega (arith, rest)

first_same : (limit : ℕ) (us : List Update) (es fs : List Entry) (n : ℕ) → Begin es fs → n ≤ length es → updates_after limit us (take n fs) ≡ updates_after limit us (take n es)
first_same limit us es fs zero begin le = refl
first_same limit us [] fs (suc n) begin le = absurd (omega (arith, le))
first_same limit us (e ∷ es) [] (suc n) begin le = absurd begin
first_same limit us (e ∷ es) (f ∷ fs) (suc n) begin le =
    ap (λ (c : Call). updates_after limit (updates_then limit us c) (take n fs)) (later_call e f begin.0)
    ∙ first_same limit (updates_then limit us e.call) es fs n begin.1 (omega (arith, le))

-- what batches end with stays
pub ends_stay : (limit : ℕ) (opening : List Row) (es fs : List Entry) (batches : List (List Update)) → Begin es fs → EndWithEntries limit opening es batches → EndWithEntries limit opening fs batches
ends_stay limit opening es fs batches begin ends k = first_stays (updates_in (take k batches)) (ends k)
  where
    first_stays : (list : List Update) → IsOfFirst limit opening es list → IsOfFirst limit opening fs list
    first_stays list h = (h.0, (let more = begin_longer es fs begin in omega (arith, h.1, more)), h.2 ∙ sym (first_same limit (opened opening) es fs h.0 begin h.1))
