-- The words of a header that is asked for, and the header that those make that name a column.
use Rattle.std.proofs.Common.{◌≡◌, ◌∙◌, ap, sym, refl, ℕ, ◌==◌, Bool, true, false, cond, List, [], ◌∷◌, ◌++◌, append_assoc, append-nil}
use Rattle.std.specs.Prelude.{filter}
use Rattle.std.specs.List.{onto_first, slice_split}
use Rattle.sw_headers.specs.Steps.{joined_after}
use Rattle.sw_headers.specs.Under.{Fields, is_named, onto, or_empty, words}

onto_same : (c : ℕ) (fs : Fields) → onto c fs ≡ onto_first c fs
onto_same c [] = refl
onto_same c (f ∷ fs) = refl

-- words are what std's `split` gives
pub words_split : (cs : List ℕ) → slice_split (λ b. b == 44) cs ≡ words cs
words_split [] = refl
words_split (c ∷ cs) =
    sym (ap (λ fs. cond (c == 44) ([] ∷ fs) (onto c fs)) (sym (words_split cs))
    ∙ ap (λ x. cond (c == 44) ([] ∷ slice_split (λ b. b == 44) cs) x) (onto_same c (slice_split (λ b. b == 44) cs)))

-- some text is the first word
abbrev HasWord : Fields → Type 0
HasWord fs = (f : List ℕ) × (gs : Fields) × (fs ≡ f ∷ gs)

some_word : (cs : List ℕ) → HasWord (words cs)
some_word [] = ([], [], refl)
some_word (c ∷ cs) = by (c == 44) (some_word cs)
  where
    by : (d : Bool) → HasWord (words cs) → HasWord (cond d ([] ∷ words cs) (onto c (words cs)))
    by true one = ([], words cs, refl)
    by false one = (c ∷ one.0, one.1, ap (onto c) one.2)

onto_append : (c : ℕ) (fs gs : Fields) → HasWord fs → onto c (fs ++ gs) ≡ onto c fs ++ gs
onto_append c fs gs one = ap (λ (xs : Fields). onto c (xs ++ gs)) one.2 ∙ sym (ap (λ (xs : Fields). onto c xs ++ gs) one.2)

-- texts joined by a comma have the words of both
words_join : (xs ys : List ℕ) → words (xs ++ 44 ∷ ys) ≡ words xs ++ words ys
words_join [] ys = refl
words_join (x ∷ xs) ys = by (x == 44) (words_join xs ys)
  where
    by : (d : Bool) → words (xs ++ 44 ∷ ys) ≡ words xs ++ words ys
        → cond d ([] ∷ words (xs ++ 44 ∷ ys)) (onto x (words (xs ++ 44 ∷ ys))) ≡ cond d ([] ∷ words xs) (onto x (words xs)) ++ words ys
    by true e = ap (λ (fs : Fields). [] ∷ fs) e
    by false e = ap (onto x) e ∙ onto_append x (words xs) (words ys) (some_word xs)

-- each is one word
abbrev AreWords : Fields → Type 0
AreWords [] = Unit {0}
AreWords (w ∷ ws) = (words w ≡ w ∷ []) × AreWords ws

onto_words : (c : ℕ) → (c == 44) ≡ false → (fs : Fields) → AreWords fs → AreWords (onto c fs)
onto_words c other [] all = (ap (λ d. cond d ([] ∷ words []) (onto c (words []))) other, tt)
onto_words c other (f ∷ fs) all = (ap (λ d. cond d ([] ∷ words f) (onto c (words f))) other ∙ ap (onto c) all.0, all.1)

are_words : (cs : List ℕ) → AreWords (words cs)
are_words [] = (refl, tt)
are_words (c ∷ cs) = by (c == 44) refl (are_words cs)
  where
    by : (d : Bool) → (c == 44) ≡ d → AreWords (words cs) → AreWords (cond d ([] ∷ words cs) (onto c (words cs)))
    by true comma all = (refl, all)
    by false other all = onto_words c other (words cs) all

joined_further : (ws : Fields) → AreWords ws → (header : List ℕ) → words (joined_after true header ws) ≡ words header ++ filter is_named ws
joined_further [] all header = sym (append-nil (words header))
joined_further (w ∷ ws) all header = by (is_named w) (joined_further ws all.1)
  where
    by : (d : Bool) → ((h : List ℕ) → words (joined_after true h ws) ≡ words h ++ filter is_named ws)
        → words (joined_after true (cond d (header ++ 44 ∷ w) header) ws) ≡ words header ++ cond d (w ∷ filter is_named ws) (filter is_named ws)
    by true more =
        more (header ++ 44 ∷ w)
        ∙ ap (λ (fs : Fields). fs ++ filter is_named ws) (words_join header w ∙ ap (λ (fs : Fields). words header ++ fs) all.0)
        ∙ append_assoc (words header) (w ∷ []) (filter is_named ws)
    by false more = more header

joined_first : (ws : Fields) → AreWords ws → words (joined_after false [] ws) ≡ or_empty (filter is_named ws)
joined_first [] all = refl
joined_first (w ∷ ws) all = by (is_named w) (joined_first ws all.1)
  where
    by : (d : Bool) → words (joined_after false [] ws) ≡ or_empty (filter is_named ws)
        → words (joined_after d (cond d w []) ws) ≡ or_empty (cond d (w ∷ filter is_named ws) (filter is_named ws))
    by true more = joined_further ws all.1 w ∙ ap (λ (fs : Fields). fs ++ filter is_named ws) all.0
    by false more = more

-- the words of the header are those that name a column
pub names_joined : (asked : List ℕ) → words (joined_after false [] (words asked)) ≡ or_empty (filter is_named (words asked))
names_joined asked = joined_first (words asked) (are_words asked)
