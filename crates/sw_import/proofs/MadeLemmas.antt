-- Cells that are UTF-8, and the longest beginning of a cell that may be a text.
use Rattle.std.proofs.Common.{◌≡◌, ◌<◌, ◌+◌, ℕ, zero, suc, true, false, List, take, refl, arith}
use Rattle.std.specs.Prelude.{IsUtf8, Bool}
use Rattle.std.specs.Str.{is_utf8}
use Rattle.std.proofs.lemmas.Str.{IsUtf8-from_is_utf8, is_utf8-from_IsUtf8}
use Rattle.sw_rows.specs.Texts.{is_text}
use Rattle.sw_import.specs.Made.{longest_within}

hit : (n : ℕ) (cell : List ℕ) → is_text (take (suc n) cell) ≡ true → longest_within (suc n) cell ≡ take (suc n) cell
hit n cell h = rw h refl

miss : (n : ℕ) (cell : List ℕ) → is_text (take (suc n) cell) ≡ false → longest_within (suc n) cell ≡ longest_within n cell
miss n cell h = rw h refl

-- where a beginning is a text, it is the longest of those up to it
pub longest_hit : (n : ℕ) (cell : List ℕ) → 0 < n → is_text (take n cell) ≡ true → longest_within n cell ≡ take n cell
longest_hit zero cell lt h = absurd (omega arith)
longest_hit (suc n) cell lt h = hit n cell h

-- where it is none, a shorter one is
pub longest_miss : (n m : ℕ) (cell : List ℕ) → n ≡ m + 1 → is_text (take n cell) ≡ false → longest_within n cell ≡ longest_within m cell
longest_miss n m cell e h =
    let is : n ≡ suc m = omega arith in
    rw is (miss m cell (rw is at h))

-- bytes that are a text are taken for one
pub utf8_true : (bytes : List ℕ) → IsUtf8 bytes → is_utf8 bytes ≡ true
utf8_true bytes h = is_utf8-from_IsUtf8 bytes h

not_true : (b : Bool) → (b ≡ true → ⊥) → b ≡ false
not_true true f = absurd (f refl)
not_true false f = refl

-- bytes that are none are not
pub utf8_false : (bytes : List ℕ) → (IsUtf8 bytes → ⊥) → is_utf8 bytes ≡ false
utf8_false bytes bad = not_true (is_utf8 bytes) (λ h. bad (IsUtf8-from_is_utf8 bytes h))
