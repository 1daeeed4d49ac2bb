-- Dates and times of ISO 8601, and the numbers that stand for them.
use Rattle.std.specs.Prelude.{◌==◌, ◌&&◌, ◌||◌, if◌then◌else◌, ℕ, ℤ, pos, neg_ℤ, ◌+ℤ◌, ◌-ℤ◌, ◌*ℤ◌, Bool, List, [], ◌∷◌, length, take, drop, nat_lt, nat_le, nat_eq, Option, Some, None, option_and_then, option_map, slice_index}
use Rattle.std.specs.Char.{is_ascii_digit}
use Rattle.jiff_core.specs.Calendar.{days_from_civil, days_in_month}
use Rattle.sw_rows.specs.Cells.{digits_after, fitting}

-- the number that so many bytes of a text write, where they are digits
abbrev pub digits_at : List ℕ → ℕ → ℕ → Option ℕ
digits_at text at many = fitting (digits_after 0 (take many (drop at text)))

-- the number of two digits, where it is below a limit
abbrev pub pair_below : List ℕ → ℕ → ℕ → Option ℤ
pair_below text at limit = option_and_then (λ n. if nat_lt n limit then Some (pos n) else None) (digits_at text at 2)

-- whether the calendar has this day
abbrev pub is_date : ℕ → ℕ → ℕ → Bool
is_date y m d = nat_le y 9999 && nat_le 1 m && nat_le m 12 && nat_le 1 d && nat_le d (days_in_month (pos y) m)

-- the days since the first of January 1970
abbrev pub day_number : ℕ → ℕ → ℕ → Option ℤ
day_number y m d = if is_date y m d then Some (days_from_civil (pos y) m d) else None

-- `YYYY-MM-DD`
abbrev pub days_of : List ℕ → Option ℤ
days_of text =
    if nat_eq (length text) 10 && (slice_index text 4 == 45) && (slice_index text 7 == 45)
    then option_and_then
    (λ y. option_and_then (λ m. option_and_then (λ d. day_number y m d) (digits_at text 8 2)) (digits_at text 5 2))
    (digits_at text 0 4)
    else None

-- hours at a place, and minutes at another, as minutes
abbrev pub hours_and_minutes : List ℕ → ℕ → Option ℤ
hours_and_minutes text at =
    option_and_then (λ h. option_map (λ m. h *ℤ pos 60 +ℤ m) (pair_below text at 60)) (pair_below text 0 24)

-- `hh:mm`
abbrev pub minutes_of : List ℕ → Option ℤ
minutes_of text =
    if nat_eq (length text) 5 && (slice_index text 2 == 58) then hours_and_minutes text 3 else None

-- `hhmm` or `hh`
abbrev pub plain_minutes : List ℕ → Option ℤ
plain_minutes text =
    if nat_eq (length text) 2 then option_map (λ h. h *ℤ pos 60) (pair_below text 0 24)
    else if nat_eq (length text) 4 then hours_and_minutes text 2
    else None

abbrev pub offset_minutes : List ℕ → Option ℤ
offset_minutes text = if nat_eq (length text) 5 then minutes_of text else plain_minutes text

-- nothing or `Z`, or a sign and an offset
abbrev pub offset_of : List ℕ → Option ℤ
offset_of [] = Some (pos 0)
offset_of (c ∷ rest) =
    if (c == 90) && nat_eq (length rest) 0 then Some (pos 0)
    else if c == 43 then offset_minutes rest
    else if c == 45 then option_map neg_ℤ (offset_minutes rest)
    else None

-- what comes after digits
abbrev pub after_digits : List ℕ → List ℕ
after_digits [] = []
after_digits (c ∷ rest) = if is_ascii_digit c then after_digits rest else c ∷ rest

-- what comes after a dot and digits, where a text begins so
abbrev pub after_fraction : List ℕ → List ℕ
after_fraction [] = []
after_fraction (c ∷ []) = c ∷ []
after_fraction (c ∷ d ∷ rest) = if (c == 46) && is_ascii_digit d then after_digits rest else c ∷ d ∷ rest

-- `:ss` and perhaps decimals, which are left out; or nothing, which is no second
abbrev pub seconds_and_rest : List ℕ → Option (ℤ × List ℕ)
seconds_and_rest [] = Some (pos 0, [])
seconds_and_rest (c ∷ rest) =
    if c == 58
    then (if nat_lt (length rest) 2 then None
    else option_map (λ s. (s, after_fraction (drop 2 rest))) (pair_below rest 0 60))
    else Some (pos 0, c ∷ rest)

-- the seconds since midnight UTC of `hh:mm` and what may follow
abbrev pub clock_of : List ℕ → Option ℤ
clock_of text =
    option_and_then
    (λ m. option_and_then
    (λ s. option_map (λ o. (m -ℤ o) *ℤ pos 60 +ℤ s.0) (offset_of s.1))
    (seconds_and_rest (drop 5 text)))
    (minutes_of (take 5 text))

-- `T` or a space, and a time of a day
abbrev pub clock_after : List ℕ → Option ℤ
clock_after [] = None
clock_after (c ∷ rest) = if (c == 84) || (c == 32) then clock_of rest else None

-- the whole seconds since 1970 began of a date, or of a date and a time of that day
abbrev pub seconds_of : List ℕ → Option ℤ
seconds_of text =
    if nat_le (length text) 10 then option_map (λ d. d *ℤ pos 86400) (days_of text)
    else option_and_then
    (λ d. option_map (λ s. d *ℤ pos 86400 +ℤ s) (clock_after (drop 10 text)))
    (days_of (take 10 text))
