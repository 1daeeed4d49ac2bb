-- One part of a text of cuts after another.
use Rattle.std.proofs.Common.{◌≡◌, ◌∙◌, sym, refl, ap, ◌+◌, ◌<◌, ◌≤◌, ℕ, Bool, true, false, cond, not, ltb, List, [], ◌∷◌, length, take, drop, get_or, Some, None, Result, Ok, arith}
use Rattle.std.specs.Prelude.{position}
use Rattle.std.specs.List.{position_or_len, slice_split}
use Rattle.std.proofs.lemmas.Bool.{false≢true, ltb-false, ltb-true}
use Rattle.std.proofs.lemmas.List.Splits.{slice_split_first, slice_split_none}
use Rattle.std.proofs.lemmas.List.Sums.{prefix_len_passes}
use Rattle.std.proofs.lemmas.Option.{cond_some}
use Rattle.sw_rows.specs.Header.{Column}
use Rattle.sw_lang.specs.declared.fault.Fault.{Fault}
use Rattle.sw_lang.specs.declared.fault.ParseError.{ParseError}
use Rattle.sw_lang.specs.declared.fault.ParseError.TheVariants as errors
use Rattle.sw_lang.specs.Cuts.{CutLists}
use Rattle.sw_lang.specs.CutsReading.{cut_split, cuts_after, cuts_at, equals_at, is_divider, no_cuts}
use Rattle.sw_lang.specs.Reading.{◌>>=◌, Fails}

-- a text that is not empty is read part by part, from no cuts
pub some_text : (schema : List Column) (text : List ℕ) → 0 < length text → cuts_after schema (no_cuts schema) (slice_split is_divider text) ≡ cuts_at schema text
unfolding cuts_at
some_text schema [] h = absurd (omega arith)
some_text schema (b ∷ bs) h = refl

-- a part that is refused ends the reading with its fault
pub part_ends : (e : ParseError) (schema : List Column) (cuts : CutLists) (part : List ℕ) (parts all : List (List ℕ)) (total : Result CutLists Fault) → all ≡ part ∷ parts → cuts_after schema cuts all ≡ total
    → Fails e (cut_split schema cuts part (equals_at part)) → Fails e total
part_ends errors.Memory schema cuts part parts all total is so_far h = tt
part_ends (errors.Fault f) schema cuts part parts all total is so_far h =
    sym so_far ∙ ap (cuts_after schema cuts) is ∙ ap (λ r. r >>= λ more. cuts_after schema more parts) h

-- a part that is read goes on with the cuts that it leaves
pub part_goes : (schema : List Column) (cuts more : CutLists) (part : List ℕ) (parts all : List (List ℕ)) (total : Result CutLists Fault) → all ≡ part ∷ parts → cuts_after schema cuts all ≡ total
    → cut_split schema cuts part (equals_at part) ≡ Ok more → cuts_after schema more parts ≡ total
part_goes schema cuts more part parts all total is so_far h =
    sym (ap (λ r. r >>= λ next. cuts_after schema next parts) h) ∙ sym (ap (cuts_after schema cuts) is) ∙ so_far

-- ---- the parts of a text

-- up to the first divider a text is one part, and the rest is parted likewise
pub parts_some : (text : List ℕ) (i : ℕ) → position is_divider text ≡ Some i → slice_split is_divider text ≡ take i text ∷ slice_split is_divider (drop (i + 1) text)
parts_some text i h =
    let p = cond_some _ _ _ h in
    let below : position_or_len is_divider text < length text = ltb-true _ _ p.0 in
    rw (← p.1) (slice_split_first is_divider text 0 below)

past : (v : Bool) (n len : ℕ) → ltb n len ≡ v → cond v (Some n) None ≡ None → len ≤ n
past true n len e h = absurd cc
past false n len e h = ltb-false _ _ e

not-true : (p : Bool) → not p ≡ true → p ≡ false
not-true true h = absurd (false≢true h)
not-true false h = refl

-- a text without a divider is one part
pub parts_none : (text : List ℕ) → position is_divider text ≡ None → slice_split is_divider text ≡ text ∷ []
parts_none text h =
    let over : length text ≤ position_or_len is_divider text = past (ltb (position_or_len is_divider text) (length text)) (position_or_len is_divider text) (length text) refl h in
    slice_split_none is_divider text (λ k d lt. not-true (is_divider (get_or text k d)) (prefix_len_passes (λ b. not (is_divider b)) text k d (omega arith)))

-- an empty text has no cuts
pub empty_text : (schema : List Column) (text : List ℕ) (cuts : CutLists) → length text ≡ 0 → cuts ≡ no_cuts schema → cuts_at schema text ≡ Ok cuts
unfolding cuts_at
empty_text schema [] cuts h same = ap (λ (w : CutLists). Ok w) (sym same)
empty_text schema (b ∷ bs) cuts h same = absurd (omega arith)
