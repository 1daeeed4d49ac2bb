-- Texts that come to be known, one after another.
use Rattle.std.proofs.Common.{◌≡◌, ◌∙◌, ◌<◌, ◌+◌, ℕ, Bool, true, false, cond, is_some, option_map, ℤ, pos, List, ◌∷◌, length, get_or, drop, Option, None, Some, Result, Ok, Err, refl, sym, ap, subst, arith}
use Rattle.std.proofs.lemmas.List.{drop_all, drop_more}
use Rattle.std.proofs.lemmas.Option.{none-some}
use Rattle.sw_rows.specs.Faults.{Fault, bad_table}
use Rattle.sw_rows.specs.Gives.{Fails}
use Rattle.sw_rows.specs.Header.{Column, has_texts, texts_of}
use Rattle.sw_rows.specs.Tables.{◌>>=◌}
use Rattle.sw_rows.specs.Texts.{cell_given, code_of, is_text}
use Rattle.sw_query.specs.declared.refusal.Refusal.{Refusal}
use Rattle.sw_rows.proofs.Options.{fails_then}
use Rattle.sw_arrays.specs.Columns.{between, ends_new, is_new_text, knowing, knowing_one}

next_end : (es : List ℕ) (i e d : ℕ) → i < length es → get_or es i d ≡ e → drop i es ≡ e ∷ drop (i + 1) es
next_end es i e d lt is = drop_more es i d lt ∙ ap (λ (x : ℕ). x ∷ drop (i + 1) es) is

-- a new text
pub text_goes : (field start i e d : ℕ) (bytes es text : List ℕ) (columns : List Column) (code : ℤ) (whole : Result (List Column) Fault)
    → i < length es → get_or es i d ≡ e → Some text ≡ cond (ends_new columns bytes start e) (Some (between start e bytes)) None
    → cell_given (texts_of columns) text ≡ Ok code → knowing field bytes start (drop i es) columns ≡ whole
    → knowing (field + 1) bytes e (drop (i + 1) es) (knowing_one columns text) ≡ whole
text_goes field start i e d bytes es text columns code whole lt is new given so = by-test (ends_new columns bytes start e) refl new
  where
    by-test : (b : Bool) → ends_new columns bytes start e ≡ b → Some text ≡ cond b (Some (between start e bytes)) None → knowing (field + 1) bytes e (drop (i + 1) es) (knowing_one columns text) ≡ whole
    by-test true test h =
        let same : text ≡ between start e bytes = cc in
        let step : (cell_given (texts_of columns) (between start e bytes) >>= λ code. knowing (field + 1) bytes e (drop (i + 1) es) (knowing_one columns (between start e bytes))) ≡ whole = rw test at (rw (next_end es i e d lt is) at so) in
        let mine : (cell_given (texts_of columns) text >>= λ code. knowing (field + 1) bytes e (drop (i + 1) es) (knowing_one columns text)) ≡ whole = rw same step in
        rw given at mine
    by-test false test h = absurd (none-some text (sym h))

-- a known text, and one that is not
pub code_some : (o : Option ℕ) (z : ℤ) → Some z ≡ option_map pos o → true ≡ is_some o
code_some (Some n) z h = refl
code_some None z h = absurd (none-some z (sym h))

-- where no code is told, there is none
pub code_none : (o : Option ℕ) → None ≡ option_map pos o → false ≡ is_some o
code_none (Some n) h = absurd (none-some (pos n) h)
code_none None h = refl

-- bytes that are a known text are no new one
pub known_ends : (columns : List Column) (bytes text : List ℕ) → has_texts columns ≡ true → Some text ≡ cond (is_text bytes) (Some bytes) None
    → true ≡ is_some (code_of (texts_of columns) text) → None ≡ cond (is_new_text columns bytes) (Some bytes) None
known_ends columns bytes text may read known = by-test (is_text bytes) refl read
  where
    by-test : (b : Bool) → is_text bytes ≡ b → Some text ≡ cond b (Some bytes) None → None ≡ cond (is_new_text columns bytes) (Some bytes) None
    by-test true test h = let same : text ≡ bytes = cc in rw (may, test, sym (rw same at known)) refl
    by-test false test h = absurd (none-some text (sym h))

-- bytes that are a text, but no known one, are a new one, where attributes have texts
pub new_goes : (columns : List Column) (bytes text : List ℕ) → has_texts columns ≡ true → Some text ≡ cond (is_text bytes) (Some bytes) None
    → false ≡ is_some (code_of (texts_of columns) text) → Some text ≡ cond (is_new_text columns bytes) (Some bytes) None
new_goes columns bytes text may read new = by-test (is_text bytes) refl read
  where
    by-test : (b : Bool) → is_text bytes ≡ b → Some text ≡ cond b (Some bytes) None → Some text ≡ cond (is_new_text columns bytes) (Some bytes) None
    by-test true test h = let same : text ≡ bytes = cc in rw (may, test, sym (rw same at new)) (ap Some same)
    by-test false test h = absurd (none-some text (sym h))

-- a text that is none
pub text_ends : (field start i e d : ℕ) (bytes es : List ℕ) (columns : List Column) (whole : Result (List Column) Fault)
    → i < length es → get_or es i d ≡ e → None ≡ cond (ends_new columns bytes start e) (Some (between start e bytes)) None
    → knowing field bytes start (drop i es) columns ≡ whole → whole ≡ Err (bad_table 0 field)
text_ends field start i e d bytes es columns whole lt is none so = by-test (ends_new columns bytes start e) refl none
  where
    by-test : (b : Bool) → ends_new columns bytes start e ≡ b → None ≡ cond b (Some (between start e bytes)) None → whole ≡ Err (bad_table 0 field)
    by-test true test h = absurd (none-some (between start e bytes) h)
    by-test false test h = sym (rw test at (rw (next_end es i e d lt is) at so))

-- a text that gets no code
pub code_fails : (field start i e d : ℕ) (bytes es text : List ℕ) (columns : List Column) (x : Refusal) (whole : Result (List Column) Fault)
    → i < length es → get_or es i d ≡ e → Some text ≡ cond (ends_new columns bytes start e) (Some (between start e bytes)) None
    → Fails ⊥ x (cell_given (texts_of columns) text) → knowing field bytes start (drop i es) columns ≡ whole → Fails ⊥ x whole
code_fails field start i e d bytes es text columns x whole lt is new fails so = by-test (ends_new columns bytes start e) refl new
  where
    by-test : (b : Bool) → ends_new columns bytes start e ≡ b → Some text ≡ cond b (Some (between start e bytes)) None → Fails ⊥ x whole
    by-test true test h =
        let same : text ≡ between start e bytes = cc in
        let step : (cell_given (texts_of columns) text >>= λ code. knowing (field + 1) bytes e (drop (i + 1) es) (knowing_one columns text)) ≡ whole = rw same (rw test at (rw (next_end es i e d lt is) at so)) in
        subst (Fails {Y = List Column} ⊥ x) step (fails_then (λ code. knowing (field + 1) bytes e (drop (i + 1) es) (knowing_one columns text)) x (cell_given (texts_of columns) text) fails)
    by-test false test h = absurd (none-some text (sym h))

-- behind the last text, the attributes are those by then
pub texts_done : (field start : ℕ) (bytes es : List ℕ) (columns : List Column) (whole : Result (List Column) Fault) → knowing field bytes start (drop (length es) es) columns ≡ whole → whole ≡ Ok columns
texts_done field start bytes es columns whole so = sym (rw (drop_all (length es) es (omega arith)) at so)
