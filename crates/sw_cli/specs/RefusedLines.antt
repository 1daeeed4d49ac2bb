-- Whether a line of bytes is that of a refused call, where the bytes may come in pieces.
use Rattle.std.specs.Prelude.{◌≡◌, ◌==◌, ◌&&◌, ◌||◌, ◌++◌, ℕ, Bool, true, false, List, [], ◌∷◌, codes, drop, nat_lt}
use Rattle.sw_cli.specs.declared.watching.Place.{Place}
use Rattle.sw_cli.specs.declared.watching.Place.TheVariants.{Beginning, Further}
use Rattle.sw_cli.specs.declared.watching.Watch.{Watch}

-- how the line of a refused call begins
abbrev pub refused_word : List ℕ
refused_word = codes "refused "

-- whether bytes begin with a word
abbrev pub begins : List ℕ → List ℕ → Bool
begins [] bs = true
begins (w ∷ ws) [] = false
begins (w ∷ ws) (b ∷ bs) = (w == b) && begins ws bs

-- whether a line begins with `refused `, of bytes of which the first stands at the beginning of a line or further in it
abbrev pub tells_from : Bool → List ℕ → Bool
tells_from is_start [] = false
tells_from is_start (b ∷ bs) = (is_start && begins refused_word (b ∷ bs)) || tells_from (b == 10) bs

-- whether a line of the bytes begins with `refused `
abbrev pub tells_refusal : List ℕ → Bool
tells_refusal bs = tells_from true bs

-- whether the line that is begun, or a later one, begins so, once these bytes have come
abbrev pub comes : Place → List ℕ → Bool
comes (Beginning n) bs = (nat_lt n 8 && begins (drop n refused_word) bs) || tells_from false bs
comes Further bs = tells_from false bs

-- whether a line begins so, of the bytes that were seen and then these
abbrev pub tells_then : Watch → List ℕ → Bool
tells_then w bs = w.refused || comes w.place bs

-- these bytes more were seen
abbrev pub Notes : Watch → Watch → List ℕ → Type 0
Notes old new bs = (later : List ℕ) → tells_then new later ≡ tells_then old (bs ++ later)
