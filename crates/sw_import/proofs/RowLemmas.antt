-- What is written of a record, column by column.
use Rattle.std.proofs.Common.{◌≡◌, ◌∙◌, ◌<◌, ◌+◌, ℕ, zero, suc, List, [], ◌∷◌, ◌++◌, length, drop, get_or, refl, sym, ap, arith}
use Rattle.std.proofs.lemmas.List.{length-append}
use Rattle.sw_import.specs.Made.{Kept, Outcome, Row, Written, cell_made, row_after, source_of, sources_of, then_more}
use Rattle.sw_import.specs.declared.planning.Planned.{Planned}
use Rattle.sw_import.specs.declared.rules.Rules.{Rules}

-- the columns from one on
source_at : (plan : List Planned) (i : ℕ) (p : Planned) → i < length plan → p ≡ get_or plan i p → drop i (sources_of plan) ≡ source_of p ∷ drop (i + 1) (sources_of plan)
source_at [] i p h e = absurd (omega arith)
source_at (q ∷ qs) zero p h e = ap (λ x. source_of x ∷ sources_of qs) (sym e)
source_at (q ∷ qs) (suc i) p h e =
    let step : suc i + 1 ≡ suc (i + 1) = omega arith in
    rw step (source_at qs i p (omega arith) e)

-- the next column's cell, and then those after it
pub row_step : (rules : Rules) (done : List (List ℕ)) (plan : List Planned) (i : ℕ) (p : Planned) (fields : List (List ℕ)) (o : Outcome)
    → i < length plan → p ≡ get_or plan i p → o ≡ cell_made rules p.form p.dictionary (get_or fields p.column.place [])
    → row_after rules done (drop i (sources_of plan)) fields ≡ then_more (length done) o (λ text. row_after rules (done ++ text ∷ []) (drop (i + 1) (sources_of plan)) fields)
row_step rules done plan i p fields o h e made = rw (source_at plan i p h e, made) refl

-- past the last column
pub row_end : (rules : Rules) (done : List (List ℕ)) (plan : List Planned) (fields : List (List ℕ)) → row_after rules done (drop (length plan) (sources_of plan)) fields ≡ Row done
row_end rules done plan fields = rw (none plan) refl
  where
    none : (ps : List Planned) → drop (length ps) (sources_of ps) ≡ []
    none [] = refl
    none (p ∷ ps) = none ps

-- one column on, where its cell was written
pub row_next : (rules : Rules) (done next : List (List ℕ)) (plan : List Planned) (i : ℕ) (p : Planned) (fields : List (List ℕ)) (text : List ℕ) (whole : Kept)
    → i < length plan → p ≡ get_or plan i p → Written text ≡ cell_made rules p.form p.dictionary (get_or fields p.column.place [])
    → next ≡ done ++ text ∷ [] → row_after rules done (drop i (sources_of plan)) fields ≡ whole
    → row_after rules next (drop (i + 1) (sources_of plan)) fields ≡ whole
row_next rules done next plan i p fields text whole h e made grown before =
    rw grown (sym (row_step rules done plan i p fields (Written text) h e made) ∙ before)

-- one cell more
pub grown : (done next : List (List ℕ)) (text : List ℕ) (i : ℕ) → next ≡ done ++ text ∷ [] → length done ≡ i → length next ≡ i + 1
grown done next text i e h = ap length e ∙ length-append done (text ∷ []) ∙ ap (λ n. n + 1) h
