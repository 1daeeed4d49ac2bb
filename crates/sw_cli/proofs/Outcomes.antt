-- Calls in turn with what came of them, and their lines.
use Rattle.std.proofs.Common.{◌≡◌, ◌∙◌, sym, ap, refl, ℕ, zero, suc, ◌+◌, ◌<◌, List, [], ◌∷◌, ◌++◌, arith, drop, get_or, length, map, take, Ok, Err, IfOk, OnErr}
use Rattle.std.proofs.lemmas.List.{append-nil}
use Rattle.sw_rows.specs.Header.{Column}
use Rattle.sw_query.specs.declared.query.Call.{Call}
use Rattle.sw_query.specs.declared.reply.Reply.{Reply}
use Rattle.sw_cli.specs.Outcomes.{AreTold, Outcome, Told, answered, block_bytes, blocks_told, calls_of, divider, line_before, outcomes_of, text_of, told_bytes}

-- one call more, with what came of it, is one outcome more
pub outcomes_push : (xs : List Call) (ys : List Told) (x : Call) (y : Told) → length ys ≡ length xs → outcomes_of (xs ++ x ∷ []) (ys ++ y ∷ []) ≡ outcomes_of xs ys ++ (x, y) ∷ []
outcomes_push [] [] x y e = refl
outcomes_push [] (b ∷ ys) x y e = absurd (omega (arith, e))
outcomes_push (a ∷ xs) [] x y e = absurd (omega (arith, e))
outcomes_push (a ∷ xs) (b ∷ ys) x y e = ap (λ (os : List Outcome). (a, b) ∷ os) (outcomes_push xs ys x y (omega (arith, e)))

-- where as much came as there are calls, the outcomes are of these calls
pub calls_of_outcomes : (cs : List Call) (ts : List Told) → length ts ≡ length cs → calls_of (outcomes_of cs ts) ≡ cs
calls_of_outcomes [] ts e = refl
calls_of_outcomes (c ∷ cs) [] e = absurd (omega (arith, e))
calls_of_outcomes (c ∷ cs) (t ∷ ts) e = ap (λ l. c ∷ l) (calls_of_outcomes cs ts (omega (arith, e)))

-- one answered call more is the last of the answered ones
pub answered_ok : (os : List Outcome) (c : Call) (r : Reply) → answered (os ++ (c, Ok r) ∷ []) ≡ answered os ++ (c, r) ∷ []
answered_ok [] c r = refl
answered_ok ((a, Ok s) ∷ os) c r = ap (λ l. (a, s) ∷ l) (answered_ok os c r)
answered_ok ((a, Err e) ∷ os) c r = answered_ok os c r

-- one refused call more leaves the answered ones
pub answered_err : (os : List Outcome) (c : Call) (e : _) → answered (os ++ (c, Err e) ∷ []) ≡ answered os
answered_err [] c e = refl
answered_err ((a, Ok s) ∷ os) c e = ap (λ l. (a, s) ∷ l) (answered_err os c e)
answered_err ((a, Err d) ∷ os) c e = answered_err os c e

-- one call more
pub answered_push : (os : List Outcome) (c : Call) (t : Told) (old new : List (Call × Reply)) → old ≡ answered os → IfOk t (λ r. new ≡ old ++ (c, r) ∷ []) → OnErr t (new ≡ old) → new ≡ answered (os ++ (c, t) ∷ [])
answered_push os c (Ok r) old new is ok err = ok ∙ ap (λ l. l ++ (c, r) ∷ []) is ∙ sym (answered_ok os c r)
answered_push os c (Err e) old new is ok err = err ∙ is ∙ sym (answered_err os c e)

-- of more than n items the first n are n
pub length_take : {A : Type 0} (n : ℕ) (xs : List A) → n < length xs → length (take n xs) ≡ n
length_take zero xs l = refl
length_take (suc n) [] l = absurd (omega (arith, l))
length_take (suc n) (x ∷ xs) l = ap suc (length_take n xs (omega (arith, l)))

drop_first : {A : Type 0} (n : ℕ) (xs : List A) (x : A) → n < length xs → x ≡ get_or xs n x → drop n xs ≡ x ∷ drop (suc n) xs
drop_first n [] x l e = absurd (omega (arith, l))
drop_first zero (y ∷ xs) x l e = rw e refl
drop_first (suc n) (y ∷ xs) x l e = drop_first n xs x (omega (arith, l)) e

-- the lines of the call at a place, and of those after it
pub block_first : (columns : List Column) (cs : List Call) (ts : List Told) (n : ℕ) (c : Call) (t : Told) → n < length cs → n < length ts → c ≡ get_or cs n c → t ≡ get_or ts n t
    → block_bytes columns (outcomes_of (drop n cs) (drop n ts)) ≡ told_bytes columns c t ++ block_bytes columns (outcomes_of (drop (n + 1) cs) (drop (n + 1) ts))
block_first columns cs ts n c t lc lt ec et =
    let one : n + 1 ≡ suc n = omega arith in
    rw (drop_first n cs c lc ec, drop_first n ts t lt et, one) refl

-- the lines of blocks that come after so many others
abbrev pub text_from : List Column → ℕ → List (List Outcome) → List ℕ
text_from columns n [] = []
text_from columns n (b ∷ bs) = line_before n ++ (block_bytes columns b ++ text_from columns (suc n) bs)

text_after : (columns : List Column) (n : ℕ) (b : List Outcome) (bs : List (List Outcome)) → text_from columns (suc n) (b ∷ bs) ≡ divider ++ text_of columns (b ∷ bs)
text_after columns n b [] = ap (λ l. divider ++ l) (append-nil (block_bytes columns b))
text_after columns n b (c ∷ bs) = ap (λ l. divider ++ (block_bytes columns b ++ l)) (text_after columns (suc n) c bs)

-- the lines of blocks are those of blocks that come after none
pub text_is_from : (columns : List Column) (bs : List (List Outcome)) → text_of columns bs ≡ text_from columns 0 bs
text_is_from columns [] = refl
text_is_from columns (b ∷ []) = sym (append-nil (block_bytes columns b))
text_is_from columns (b ∷ c ∷ bs) = ap (λ l. block_bytes columns b ++ l) (sym (text_after columns zero c bs))

-- the lines of the block at a place, after the line before it, and of those after it
pub text_first : (columns : List Column) (bs : List (List Call)) (ts : List (List Told)) (n : ℕ) (b : List Call) (t : List Told) → n < length bs → n < length ts → b ≡ get_or bs n b → t ≡ get_or ts n t
    → text_from columns n (blocks_told (drop n bs) (drop n ts)) ≡ line_before n ++ (block_bytes columns (outcomes_of b t) ++ text_from columns (n + 1) (blocks_told (drop (n + 1) bs) (drop (n + 1) ts)))
text_first columns bs ts n b t lb lt eb et =
    let one : n + 1 ≡ suc n = omega arith in
    rw (drop_first n bs b lb eb, drop_first n ts t lt et, one) refl

-- what stands at a place of a list does not hang on what is told of places behind its end
pub at_default : {A : Type 0} (xs : List A) (n : ℕ) (d : A) → n < length xs → get_or xs n d ≡ get_or xs n (get_or xs n d)
at_default [] n d l = absurd (omega (arith, l))
at_default (x ∷ xs) zero d l = refl
at_default (x ∷ xs) (suc n) d l = at_default xs n d (omega (arith, l))

-- as much came of the first block, and of the others
pub told_first : (b : List Call) (t : List Told) (bs : List (List Call)) (ts : List (List Told)) → AreTold (b ∷ bs) (t ∷ ts) → (length t ≡ length b) × AreTold bs ts
told_first b t bs ts h = (ap (λ (l : List ℕ). get_or l 0 0) h, ap (λ (l : List ℕ). drop 1 l) h)

length_lengths : {A : Type 0} (xs : List (List A)) → length (map (λ x. length x) xs) ≡ length xs
length_lengths [] = refl
length_lengths (x ∷ xs) = ap suc (length_lengths xs)

-- as many blocks, and as much came of each as it has calls
pub told_many : (bs : List (List Call)) (ts : List (List Told)) → AreTold bs ts → length ts ≡ length bs
told_many bs ts h = sym (length_lengths ts) ∙ ap length h ∙ length_lengths bs

-- as much came of the block at a place as it has calls
pub told_at : (bs : List (List Call)) (ts : List (List Told)) (n : ℕ) (b : List Call) (t : List Told) → AreTold bs ts → n < length bs → b ≡ get_or bs n b → t ≡ get_or ts n t → length t ≡ length b
told_at [] ts n b t h l eb et = absurd (omega (arith, l))
told_at (x ∷ bs) [] n b t h l eb et = let k = told_many (x ∷ bs) [] h in absurd (omega (arith, k))
told_at (x ∷ bs) (y ∷ ts) zero b t h l eb et = rw (eb, et) (told_first x y bs ts h).0
told_at (x ∷ bs) (y ∷ ts) (suc n) b t h l eb et = told_at bs ts n b t (told_first x y bs ts h).1 (omega (arith, l)) eb et

-- the outcomes are of the calls of the blocks
pub blocks_calls : (bs : List (List Call)) (ts : List (List Told)) → AreTold bs ts → map calls_of (blocks_told bs ts) ≡ bs
blocks_calls [] ts h = refl
blocks_calls (b ∷ bs) [] h = let k = told_many (b ∷ bs) [] h in absurd (omega (arith, k))
blocks_calls (b ∷ bs) (t ∷ ts) h =
    let f = told_first b t bs ts h in
    ap (λ (l : List Call). l ∷ map calls_of (blocks_told bs ts)) (calls_of_outcomes b t f.0) ∙ ap (λ (l : List (List Call)). b ∷ l) (blocks_calls bs ts f.1)
