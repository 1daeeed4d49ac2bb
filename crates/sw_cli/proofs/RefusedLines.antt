-- Lines of refused calls, in bytes that come in pieces.
use Rattle.std.proofs.Common.{◌≡◌, ◌∙◌, sym, ap, refl, ℕ, zero, suc, ◌+◌, ◌-◌, ◌<◌, ◌≤◌, ◌==◌, ◌&&◌, ◌||◌, Bool, true, false, Option, Some, None, List, [], ◌∷◌, ◌++◌, drop, get_or, length, slice_index, take, arith}
use Rattle.std.specs.Prelude.{nat_lt}
use Rattle.std.proofs.lemmas.Bool.Decides.{nat_tests}
use Rattle.std.specs.Option.{unwrap_or}
use Rattle.std.proofs.lemmas.List.{drop_more, length-drop}
use Rattle.std.proofs.Math.Seq.{take-length}
use Rattle.memchr.specs.Find.{IsFirstByte, is_byte}
use Rattle.sw_cli.specs.RefusedLines.{begins, comes, refused_word, tells_from, tells_then}
use Rattle.sw_cli.specs.declared.watching.Place.{Place}
use Rattle.sw_cli.specs.declared.watching.Place.TheVariants.{Beginning, Further}
use Rattle.sw_cli.specs.declared.watching.Watch.{Watch}

-- at the beginning of a line
pub at_start : (bs : List ℕ) → comes (Beginning 0) bs ≡ tells_from true bs
at_start [] = refl
at_start (b ∷ bs) = refl

late : (n : ℕ) → comes (Beginning (suc (suc (suc (suc (suc (suc (suc (suc n))))))))) [] ≡ false
late n = grind (arith, nat_tests)

-- with no more bytes nothing comes
pub nothing_comes : (p : Place) → comes p [] ≡ false
nothing_comes Further = refl
nothing_comes (Beginning zero) = refl
nothing_comes (Beginning (suc zero)) = refl
nothing_comes (Beginning (suc (suc zero))) = refl
nothing_comes (Beginning (suc (suc (suc zero)))) = refl
nothing_comes (Beginning (suc (suc (suc (suc zero))))) = refl
nothing_comes (Beginning (suc (suc (suc (suc (suc zero)))))) = refl
nothing_comes (Beginning (suc (suc (suc (suc (suc (suc zero))))))) = refl
nothing_comes (Beginning (suc (suc (suc (suc (suc (suc (suc zero)))))))) = refl
nothing_comes (Beginning (suc (suc (suc (suc (suc (suc (suc (suc n))))))))) = late n

-- where the byte is the one that the word has next, or not
next_of : (n b : ℕ) (later : List ℕ) → n < 8 → begins (drop n refused_word) (b ∷ later) ≡ ((get_or refused_word n 0 == b) && begins (drop (n + 1) refused_word) later)
next_of n b later lt = ap (λ w. begins w (b ∷ later)) (drop_more refused_word n 0 lt)

-- no byte of the word ends a line
no_end : (n : ℕ) → n < 8 → (get_or refused_word n 0 == 10) ≡ false
no_end zero lt = refl
no_end (suc zero) lt = refl
no_end (suc (suc zero)) lt = refl
no_end (suc (suc (suc zero))) lt = refl
no_end (suc (suc (suc (suc zero)))) lt = refl
no_end (suc (suc (suc (suc (suc zero))))) lt = refl
no_end (suc (suc (suc (suc (suc (suc zero)))))) lt = refl
no_end (suc (suc (suc (suc (suc (suc (suc zero))))))) lt = refl
no_end (suc (suc (suc (suc (suc (suc (suc (suc n)))))))) lt = absurd (omega arith)

-- once the word is whole nothing more is wanted of it
whole_or : (n : ℕ) (later : List ℕ) → n < 8 → (n == 7) || (nat_lt (n + 1) 8 && begins (drop (n + 1) refused_word) later) ≡ begins (drop (n + 1) refused_word) later
whole_or zero later lt = refl
whole_or (suc zero) later lt = refl
whole_or (suc (suc zero)) later lt = refl
whole_or (suc (suc (suc zero))) later lt = refl
whole_or (suc (suc (suc (suc zero)))) later lt = refl
whole_or (suc (suc (suc (suc (suc zero))))) later lt = refl
whole_or (suc (suc (suc (suc (suc (suc zero)))))) later lt = refl
whole_or (suc (suc (suc (suc (suc (suc (suc zero))))))) later lt = refl
whole_or (suc (suc (suc (suc (suc (suc (suc (suc n)))))))) later lt = absurd (omega arith)

-- the word goes on
pub goes_on : (n b : ℕ) (later : List ℕ) → n < 8 → get_or refused_word n 0 ≡ b → (n == 7) || ((nat_lt (n + 1) 8 && begins (drop (n + 1) refused_word) later) || tells_from false later) ≡ comes (Beginning n) (b ∷ later)
goes_on n b later lt is = grind (arith, nat_tests, next_of n b later lt, no_end n lt, whole_or n later lt, is)

-- the byte is another one
pub stops : (n b : ℕ) (later : List ℕ) → (n < 8 → get_or refused_word n 0 ≡ b → ⊥) → comes (Beginning n) (b ∷ later) ≡ tells_from (b == 10) later
stops n b later other = grind (arith, nat_tests, next_of n b later, other)

-- then it ends the line
pub line_ends : (p : Place) (b : ℕ) (later : List ℕ) → b ≡ 10 → comes p (b ∷ later) ≡ tells_from (b == 10) later → comes (Beginning 0) later ≡ comes p (b ∷ later)
line_ends p b later end h = at_start later ∙ (ap (λ x. tells_from (x == 10) later) (sym end) ∙ sym h)

-- or it does not
pub line_goes_on : (p : Place) (b : ℕ) (later : List ℕ) → (b ≡ 10 → ⊥) → comes p (b ∷ later) ≡ tells_from (b == 10) later → tells_from false later ≡ comes p (b ∷ later)
line_goes_on p b later not_end h = grind (arith, nat_tests, not_end, h)

-- what was seen so far
pub seen : (w : Watch) → w.refused ≡ tells_then w []
seen w = grind (arith, nat_tests, nothing_comes w.place)

is_no : (b : Bool) → (b ≡ true → ⊥) → b ≡ false
is_no true none = absurd (none refl)
is_no false none = refl

-- bytes before the end of a line that is begun tell nothing
pub before_end : (n : ℕ) (bs later : List ℕ) → n ≤ length bs → ((k : ℕ) → k < n → (slice_index bs k == 10) ≡ true → ⊥) → tells_from false (drop n bs ++ later) ≡ tells_from false (bs ++ later)
before_end zero bs later le none = refl
before_end (suc n) [] later le none = absurd (omega (arith, le))
before_end (suc n) (b ∷ bs) later le none =
    before_end n bs later (omega (arith, le)) (λ k lt is. none (suc k) (omega (arith, lt)) is)
    ∙ ap (λ is_start. tells_from is_start (bs ++ later)) (sym (is_no (b == 10) (none 0 (omega arith))))

line_end_at : (at : ℕ) (bs later : List ℕ) → at ≤ length bs → ((k : ℕ) → k < at → (slice_index bs k == 10) ≡ true → ⊥) → tells_from false (take (length bs - at) (drop at bs) ++ later) ≡ tells_from false (bs ++ later)
line_end_at at bs later le none =
    ap (λ l. tells_from false (l ++ later)) (ap (λ k. take k (drop at bs)) (sym (length-drop at bs)) ∙ take-length (drop at bs))
    ∙ before_end at bs later le none

-- nor do all bytes before the first LF, or all where there is none
pub line_end : (found : Option ℕ) (at : ℕ) (bs later : List ℕ) → IsFirstByte (is_byte 10) bs found → at ≡ unwrap_or found (length bs) → tells_from false (take (length bs - at) (drop at bs) ++ later) ≡ tells_from false (bs ++ later)
line_end None at bs later none is =
    let e : at ≡ length bs = is in
    line_end_at at bs later (omega (arith, e)) (λ k lt. none k (omega arith) (omega (arith, lt, e)))
line_end (Some n) at bs later first is =
    let e : at ≡ n = is in
    let high : n < length bs = first.0.high in
    line_end_at at bs later (omega (arith, e, high)) (λ k lt. first.0.before k (omega arith) (omega (arith, lt, e)))
