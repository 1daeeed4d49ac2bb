-- Few bytes in words of eight.
use Rattle.std.proofs.Common.{◌≡◌, ◌∙◌, ◌+◌, ◌*◌, ◌-◌, ◌<◌, ◌≤◌, ◌++◌, ◌∷◌, [], ℕ, List, zero, suc, ap, arith, drop, get_or, length, refl, take}
use Rattle.std.proofs.lemmas.List.{drop_at, get_or-drop, length-drop, length-take-le, take-append-drop, take-append-le, take-take, take_all}
use Rattle.std.proofs.lemmas.Nat.{le_bytes_8}
use Rattle.std.specs.Int.{to_le_bytes, w64}

-- both ends of a list, four bytes each, are those of the number that they make
pub both_ends : (bs : List ℕ) (m n : ℕ) → length bs ≡ m + 4 → ((i : ℕ) → get_or bs i 0 < 256) → n ≡ get_or bs 0 0 + get_or bs 1 0 * 256 + get_or bs 2 0 * 65536 + get_or bs 3 0 * 16777216 + get_or bs m 0 * 4294967296 + get_or bs (m + 1) 0 * 1099511627776 + get_or bs (m + 2) 0 * 281474976710656 + get_or bs (m + 3) 0 * 72057594037927936 → to_le_bytes w64 n ≡ take 4 bs ++ drop m bs
both_ends [] m n len small is = absurd (omega arith)
both_ends (a ∷ []) m n len small is = absurd (omega arith)
both_ends (a ∷ b ∷ []) m n len small is = absurd (omega arith)
both_ends (a ∷ b ∷ c ∷ []) m n len small is = absurd (omega arith)
both_ends (a ∷ b ∷ c ∷ d ∷ rest) m n len small is =
    let four = length-drop m (a ∷ b ∷ c ∷ d ∷ rest) in
    le_bytes_8 (a ∷ b ∷ c ∷ d ∷ drop m (a ∷ b ∷ c ∷ d ∷ rest)) n (omega arith) all read
  where
    all : (i : ℕ) → get_or (a ∷ b ∷ c ∷ d ∷ drop m (a ∷ b ∷ c ∷ d ∷ rest)) i 0 < 256
    all zero = small 0
    all (suc zero) = small 1
    all (suc (suc zero)) = small 2
    all (suc (suc (suc zero))) = small 3
    all (suc (suc (suc (suc i)))) = rw (get_or-drop m (a ∷ b ∷ c ∷ d ∷ rest) i 0) (small (m + i))

    read : n ≡ a + b * 256 + c * 65536 + d * 16777216 + get_or (drop m (a ∷ b ∷ c ∷ d ∷ rest)) 0 0 * 4294967296 + get_or (drop m (a ∷ b ∷ c ∷ d ∷ rest)) 1 0 * 1099511627776 + get_or (drop m (a ∷ b ∷ c ∷ d ∷ rest)) 2 0 * 281474976710656 + get_or (drop m (a ∷ b ∷ c ∷ d ∷ rest)) 3 0 * 72057594037927936
    read =
        let bs : List ℕ = a ∷ b ∷ c ∷ d ∷ rest in
        let none : m + 0 ≡ m = omega arith in
        let e : get_or (drop m bs) 0 0 ≡ get_or bs m 0 = get_or-drop m bs 0 0 ∙ ap (λ k. get_or bs k 0) none in
        let f = get_or-drop m bs 1 0 in
        let g = get_or-drop m bs 2 0 in
        let h = get_or-drop m bs 3 0 in
        omega arith

-- three bytes with zeros behind them are small
padded : (a b c : ℕ) → a < 256 → b < 256 → c < 256 → (i : ℕ) → get_or (a ∷ b ∷ c ∷ 0 ∷ 0 ∷ 0 ∷ 0 ∷ 0 ∷ []) i 0 < 256
padded a b c x y z zero = x
padded a b c x y z (suc zero) = y
padded a b c x y z (suc (suc zero)) = z
padded a b c x y z (suc (suc (suc zero))) = omega arith
padded a b c x y z (suc (suc (suc (suc zero)))) = omega arith
padded a b c x y z (suc (suc (suc (suc (suc zero))))) = omega arith
padded a b c x y z (suc (suc (suc (suc (suc (suc zero)))))) = omega arith
padded a b c x y z (suc (suc (suc (suc (suc (suc (suc zero))))))) = omega arith
padded a b c x y z (suc (suc (suc (suc (suc (suc (suc (suc i)))))))) = omega arith

-- fewer than four bytes are the first ones of the number that they make
pub few_bytes : (bs : List ℕ) (n : ℕ) → length bs < 4 → ((i : ℕ) → get_or bs i 0 < 256) → n ≡ get_or bs 0 0 + get_or bs 1 0 * 256 + get_or bs 2 0 * 65536 → take (length bs) (to_le_bytes w64 n) ≡ bs
few_bytes [] n len small is = refl
few_bytes (a ∷ []) n len small is = ap (take 1) (le_bytes_8 (a ∷ 0 ∷ 0 ∷ 0 ∷ 0 ∷ 0 ∷ 0 ∷ 0 ∷ []) n refl (padded a 0 0 (small 0) (omega arith) (omega arith)) (omega arith))
few_bytes (a ∷ b ∷ []) n len small is = ap (take 2) (le_bytes_8 (a ∷ b ∷ 0 ∷ 0 ∷ 0 ∷ 0 ∷ 0 ∷ 0 ∷ []) n refl (padded a b 0 (small 0) (small 1) (omega arith)) (omega arith))
few_bytes (a ∷ b ∷ c ∷ []) n len small is = ap (take 3) (le_bytes_8 (a ∷ b ∷ c ∷ 0 ∷ 0 ∷ 0 ∷ 0 ∷ 0 ∷ []) n refl (padded a b c (small 0) (small 1) (small 2)) (omega arith))
few_bytes (a ∷ b ∷ c ∷ d ∷ rest) n len small is = absurd (omega arith)

-- the first items of what a list is cut into
rejoined : (k m p : ℕ) (bs : List ℕ) → k ≤ m + p → k ≤ length bs → take k (take m bs ++ take p (drop m bs)) ≡ take k bs
rejoined zero m p bs low high = refl
rejoined (suc k) zero p bs low high = take-take (suc k) p bs (omega arith)
rejoined (suc k) (suc m) p [] low high = absurd (omega arith)
rejoined (suc k) (suc m) p (b ∷ bs) low high = ap (λ cs. b ∷ cs) (rejoined k m p bs (omega arith) (omega arith))

-- four to seven bytes, from both ends of a word
pub both_joined : (bs word : List ℕ) → 4 ≤ length bs → length bs < 8 → word ≡ take 4 bs ++ drop (length bs - 4) bs → take (length bs - 4) word ++ drop 4 word ≡ bs
both_joined bs word low high is =
    let k = length bs - 4 in
    let four : length (take 4 bs) ≡ 4 = length-take-le 4 bs low in
    let front : take k word ≡ take k bs = ap (take k) is ∙ take-append-le k (take 4 bs) (drop k bs) (omega arith) ∙ take-take k 4 bs (omega arith) in
    let back : drop 4 word ≡ drop k bs = ap (drop 4) is ∙ drop_at (take 4 bs) (drop k bs) 4 four in
    ap (λ cs. cs ++ drop 4 word) front ∙ ap (λ cs. take k bs ++ cs) back ∙ take-append-drop k bs

-- the last eight bytes are all that follow those before them
ended : (bs word : List ℕ) → 8 ≤ length bs → word ≡ take 8 (drop (length bs - 8) bs) → take (length bs - 8) bs ++ word ≡ bs
ended bs word low is =
    let k = length bs - 8 in
    let eight = length-drop k bs in
    ap (λ cs. take k bs ++ cs) (is ∙ take_all 8 (drop k bs) (omega arith)) ∙ take-append-drop k bs

-- eight to sixteen bytes, from two words
pub two_words : (bs first last more : List ℕ) → 8 ≤ length bs → length bs ≤ 16 → first ≡ take 8 bs → last ≡ take 8 (drop (length bs - 8) bs) → take (length bs - 8) (first ++ more) ++ last ≡ bs
two_words bs first last more low high is_first is_last =
    let k = length bs - 8 in
    let eight : length (take 8 bs) ≡ 8 = length-take-le 8 bs low in
    let front : take k (first ++ more) ≡ take k bs = ap (λ cs. take k (cs ++ more)) is_first ∙ take-append-le k (take 8 bs) more (omega arith) ∙ take-take k 8 bs (omega arith) in
    ap (λ cs. cs ++ last) front ∙ ended bs last low is_last

-- sixteen to twenty-four bytes, from three words
pub three_words : (bs first middle last : List ℕ) → 16 ≤ length bs → length bs ≤ 24 → first ≡ take 8 bs → middle ≡ take 8 (drop 8 bs) → last ≡ take 8 (drop (length bs - 8) bs) → take (length bs - 8) (first ++ middle) ++ last ≡ bs
three_words bs first middle last low high is_first is_middle is_last =
    let k = length bs - 8 in
    let front : take k (first ++ middle) ≡ take k bs = ap (λ cs. take k (cs ++ middle)) is_first ∙ ap (λ cs. take k (take 8 bs ++ cs)) is_middle ∙ rejoined k 8 8 bs (omega arith) (omega arith) in
    ap (λ cs. cs ++ last) front ∙ ended bs last (omega arith) is_last
