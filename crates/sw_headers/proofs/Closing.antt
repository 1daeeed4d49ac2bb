-- How a record ends, and what its fields are then.
use Rattle.std.proofs.Common.{◌≡◌, ◌∙◌, ap, sym, refl, subst, ℕ, zero, suc, ◌+◌, ◌<◌, ◌≤◌, ◌==◌, ◌||◌, ◌&&◌, ◌⊎◌, inl, inr, Bool, true, false, cond, not, List, [], ◌∷◌, ◌++◌, length, min, nat_lt, replicate, take, arith, add-one, append_assoc, append-nil, length-append, true≢false}
use Rattle.std.proofs.lemmas.Bool.Decides.{nat_tests}
use Rattle.std.specs.List.{list_all}
use Rattle.sw_headers.specs.declared.rewriting.Spot.{Spot}
use Rattle.sw_headers.specs.declared.rewriting.Spot.TheVariants.{Before, Field, Plain, Quoted, Closed}
use Rattle.sw_headers.specs.Steps.{commas, is_line_end, keeps_at, lacking, opened, or_quotes}
use Rattle.sw_headers.specs.Under.{Fields, is_plain_byte, kept, kept_in, onto, or_empty, record_under, spoiled, words}
use Rattle.sw_headers.proofs.Reading.{read, read_to}
use Rattle.sw_headers.proofs.Runs.{by_bool}

-- spots behind which a record can end
abbrev pub IsOpen : Spot → Type 0
IsOpen Before = ⊥
IsOpen Field = Unit {0}
IsOpen Plain = Unit {0}
IsOpen Quoted = ⊥
IsOpen Closed = Unit {0}

-- behind these bytes a record is over, and these are left
abbrev pub Ends : List ℕ → List Fields → Type 0
Ends t rs = (s : Spot) (fs : Fields) (f : List ℕ) → IsOpen s → read s fs f t ≡ (fs ++ f ∷ []) ∷ rs

-- where no byte is left a record is over, and no other one is left
pub ends_nil : Ends [] []
ends_nil Before fs f o = absurd o
ends_nil Field fs f o = refl
ends_nil Plain fs f o = refl
ends_nil Quoted fs f o = absurd o
ends_nil Closed fs f o = refl

ends_cr : (cs : List ℕ) → Ends (13 ∷ cs) (read Before [] [] cs)
ends_cr cs Before fs f o = absurd o
ends_cr cs Field fs f o = refl
ends_cr cs Plain fs f o = refl
ends_cr cs Quoted fs f o = absurd o
ends_cr cs Closed fs f o = refl

ends_feed : (cs : List ℕ) → Ends (10 ∷ cs) (read Before [] [] cs)
ends_feed cs Before fs f o = absurd o
ends_feed cs Field fs f o = refl
ends_feed cs Plain fs f o = refl
ends_feed cs Quoted fs f o = absurd o
ends_feed cs Closed fs f o = refl

same_number : (c n : ℕ) → (c == n) ≡ true → c ≡ n
same_number c n h = grind (arith, nat_tests, h)

-- a line end is a CR or an LF
pub line_end : (c : ℕ) → is_line_end c ≡ true → (c ≡ 13) ⊎ (c ≡ 10)
line_end c h = by_bool (c == 13) (λ e. inl (same_number c 13 e)) (λ e. inr (same_number c 10 (subst (λ b. (b || (c == 10)) ≡ true) e h)))

-- behind a line end a record is over, and what follows is read from there on
pub ends_line : (c : ℕ) (cs : List ℕ) → is_line_end c ≡ true → Ends (c ∷ cs) (read Before [] [] cs)
ends_line c cs h = by_end (line_end c h)
  where
    by_end : (c ≡ 13) ⊎ (c ≡ 10) → Ends (c ∷ cs) (read Before [] [] cs)
    by_end (inl e) = subst (λ b. Ends (b ∷ cs) (read Before [] [] cs)) (sym e) (ends_cr cs)
    by_end (inr e) = subst (λ b. Ends (b ∷ cs) (read Before [] [] cs)) (sym e) (ends_feed cs)

-- before a record line ends are passed by
pub line_before : (c : ℕ) (cs : List ℕ) → is_line_end c ≡ true → read Before [] [] (c ∷ cs) ≡ read Before [] [] cs
line_before c cs h = ap (λ b. read_to (λ s2 fs2 f2. read s2 fs2 f2 cs) Before (cond b Before (opened c)) [] [] c) h

-- so are LFs, however many
pub lines_before : (n : ℕ) (cs : List ℕ) → read Before [] [] (replicate n 10 ++ cs) ≡ read Before [] [] cs
lines_before zero cs = refl
lines_before (suc n) cs = lines_before n cs

-- commas behind a field
pub commas_read : (t : List ℕ) (rs : List Fields) → Ends t rs → (n : ℕ) (s : Spot) (fs : Fields) (f : List ℕ) → IsOpen s
    → read s fs f (replicate n 44 ++ t) ≡ ((fs ++ f ∷ []) ++ replicate n []) ∷ rs
commas_read t rs e zero s fs f o = e s fs f o ∙ ap (λ r. r ∷ rs) (sym (append-nil (fs ++ f ∷ [])))
commas_read t rs e (suc n) Before fs f o = absurd o
commas_read t rs e (suc n) Quoted fs f o = absurd o
commas_read t rs e (suc n) Field fs f o = commas_read t rs e n Field (fs ++ f ∷ []) [] tt ∙ ap (λ r. r ∷ rs) (append_assoc (fs ++ f ∷ []) ([] ∷ []) (replicate n []))
commas_read t rs e (suc n) Plain fs f o = commas_read t rs e n Field (fs ++ f ∷ []) [] tt ∙ ap (λ r. r ∷ rs) (append_assoc (fs ++ f ∷ []) ([] ∷ []) (replicate n []))
commas_read t rs e (suc n) Closed fs f o = commas_read t rs e n Field (fs ++ f ∷ []) [] tt ∙ ap (λ r. r ∷ rs) (append_assoc (fs ++ f ∷ []) ([] ∷ []) (replicate n []))

-- the same where nothing of the record went on
pub none_read : (t : List ℕ) (rs : List Fields) → Ends t rs → (n : ℕ) → read Before [] [] (or_quotes false (replicate n 44) ++ t) ≡ (([] ∷ []) ++ replicate n []) ∷ rs
none_read t rs e zero = e Closed [] [] tt
none_read t rs e (suc n) = commas_read t rs e n Field ([] ∷ []) [] tt

-- ---- the fields that are kept

-- of no fields none is kept
pub kept_nil : (keeps : List Bool) → kept keeps [] ≡ []
kept_nil [] = refl
kept_nil (k ∷ ks) = refl

-- the place of the field behind these; all behind the last column count as one place
abbrev pub at_end : List Bool → Fields → ℕ
at_end keeps fs = min (length fs) (length keeps)

-- one more field
pub kept_more : (keeps : List Bool) (fs : Fields) (f : List ℕ) → kept keeps (fs ++ f ∷ []) ≡ kept keeps fs ++ cond (keeps_at keeps (at_end keeps fs)) (f ∷ []) []
kept_more [] fs f = refl
kept_more (k ∷ ks) [] f =
    let none : min 0 (suc (length ks)) ≡ 0 = omega arith in
    subst (λ n. kept (k ∷ ks) (f ∷ []) ≡ cond (keeps_at (k ∷ ks) n) (f ∷ []) []) (sym none) (by_keep k)
  where
    by_keep : (b : Bool) → cond b (f ∷ kept ks []) (kept ks []) ≡ cond b (f ∷ []) []
    by_keep true = ap (λ r. f ∷ r) (kept_nil ks)
    by_keep false = kept_nil ks
kept_more (k ∷ ks) (g ∷ fs) f =
    let next : min (suc (length fs)) (suc (length ks)) ≡ suc (min (length fs) (length ks)) = omega arith in
    subst (λ n. kept (k ∷ ks) (g ∷ fs ++ f ∷ []) ≡ kept (k ∷ ks) (g ∷ fs) ++ cond (keeps_at (k ∷ ks) n) (f ∷ []) []) (sym next) (by_keep k (kept_more ks fs f))
  where
    by_keep : (b : Bool) → kept ks (fs ++ f ∷ []) ≡ kept ks fs ++ cond (keeps_at ks (at_end ks fs)) (f ∷ []) []
        → cond b (g ∷ kept ks (fs ++ f ∷ [])) (kept ks (fs ++ f ∷ [])) ≡ cond b (g ∷ kept ks fs) (kept ks fs) ++ cond (keeps_at ks (at_end ks fs)) (f ∷ []) []
    by_keep true h = ap (λ r. g ∷ r) h
    by_keep false h = h

-- how many of the columns of a short record are kept
kept_count : (keeps : List Bool) (fields : Fields) → length fields ≤ length keeps → kept_in (take (length fields) keeps) ≡ length (kept keeps fields)
kept_count [] [] h = refl
kept_count [] (f ∷ fs) h = absurd (omega (arith, h))
kept_count (k ∷ ks) [] h = refl
kept_count (k ∷ ks) (f ∷ fs) h = by_keep k (kept_count ks fs (omega (arith, h)))
  where
    by_keep : (b : Bool) → kept_in (take (length fs) ks) ≡ length (kept ks fs) → cond b (kept_in (take (length fs) ks) + 1) (kept_in (take (length fs) ks)) ≡ length (cond b (f ∷ kept ks fs) (kept ks fs))
    by_keep true h = add-one (kept_in (take (length fs) ks)) ∙ ap suc h
    by_keep false h = h

spoil : (all : ℕ) (g : Fields) → spoiled all g ≡ or_empty g ++ replicate (lacking (length g) all) []
spoil all [] = ap (λ n. replicate n []) (add-one all)
spoil all (f ∷ fs) = by_tests (length (f ∷ fs) == 0) (length (f ∷ fs) == all) some
  where
    some : (length (f ∷ fs) == 0) ≡ false
    some = grind (arith, nat_tests)

    by_tests : (z b : Bool) → z ≡ false → cond b ((f ∷ fs) ++ [] ∷ []) (f ∷ fs) ≡ (f ∷ fs) ++ replicate (cond z all (cond b 1 0)) []
    by_tests true b h = absurd (true≢false h)
    by_tests false true h = refl
    by_tests false false h = sym (append-nil (f ∷ fs))

-- a record is its fields that are kept, with the commas that make it another one's
pub record_is : (keeps : List Bool) (fs : Fields) (f : List ℕ)
    → record_under keeps (fs ++ f ∷ []) ≡ or_empty (kept keeps (fs ++ f ∷ [])) ++ replicate (commas keeps (at_end keeps fs)) []
record_is keeps fs f =
    let g = kept keeps (fs ++ f ∷ []) in
    let many : length (fs ++ f ∷ []) ≡ length fs + 1 = length-append fs (f ∷ []) in
    by_bool (nat_lt (length (fs ++ f ∷ [])) (length keeps))
    (λ e.
    let short : length fs + 1 < length keeps = grind (arith, nat_tests, e, many) in
    let at : at_end keeps fs + 1 ≡ length (fs ++ f ∷ []) = omega (arith, short, many) in
    let test : nat_lt (at_end keeps fs + 1) (length keeps) ≡ true = ap (λ n. nat_lt n (length keeps)) at ∙ e in
    let count : kept_in (take (at_end keeps fs + 1) keeps) ≡ length g = ap (λ n. kept_in (take n keeps)) at ∙ kept_count keeps (fs ++ f ∷ []) (omega (arith, short, many)) in
    ap (λ b. cond b (spoiled (kept_in keeps) g) (or_empty g)) e ∙ spoil (kept_in keeps) g
    ∙ ap (λ n. or_empty g ++ replicate n []) (ap (λ n. lacking n (kept_in keeps)) (sym count) ∙ ap (λ b. cond b (lacking (kept_in (take (at_end keeps fs + 1) keeps)) (kept_in keeps)) 0) (sym test)))
    (λ e.
    let long : length keeps ≤ length fs + 1 = grind (arith, nat_tests, e, many) in
    let test : nat_lt (at_end keeps fs + 1) (length keeps) ≡ false = grind (arith, nat_tests, long) in
    ap (λ b. cond b (spoiled (kept_in keeps) g) (or_empty g)) e ∙ sym (append-nil (or_empty g))
    ∙ ap (λ n. or_empty g ++ replicate n []) (ap (λ b. cond b (lacking (kept_in (take (at_end keeps fs + 1) keeps)) (kept_in keeps)) 0) (sym test)))

-- ---- the header

abbrev prefixed : List ℕ → Fields → Fields
prefixed f [] = f ∷ []
prefixed f (w ∷ ws) = (f ++ w) ∷ ws

whole : (cs : List ℕ) → prefixed [] (words cs) ≡ words cs
whole [] = refl
whole (c ∷ cs) = by_comma (c == 44) (words cs)
  where
    by_comma : (b : Bool) (ws : Fields) → prefixed [] (cond b ([] ∷ ws) (onto c ws)) ≡ cond b ([] ∷ ws) (onto c ws)
    by_comma true ws = refl
    by_comma false [] = refl
    by_comma false (w ∷ ws) = refl

put_on : (f : List ℕ) (c : ℕ) (ws : Fields) → prefixed (f ++ c ∷ []) ws ≡ prefixed f (onto c ws)
put_on f c [] = refl
put_on f c (w ∷ ws) = ap (λ x. x ∷ ws) (append_assoc f (c ∷ []) w)

-- a byte of a header at a spot
abbrev InHeader : Spot → Type 0
InHeader Before = ⊥
InHeader Field = Unit {0}
InHeader Plain = Unit {0}
InHeader Quoted = ⊥
InHeader Closed = ⊥

plain_tests : (q r n : Bool) → not (q || (r || n)) ≡ true → (q ≡ false) × ((r || n) ≡ false)
plain_tests true r n h = absurd (true≢false (sym h))
plain_tests false true n h = absurd (true≢false (sym h))
plain_tests false false true h = absurd (true≢false (sym h))
plain_tests false false false h = (refl, refl)

both_true : (a b : Bool) → (a && b) ≡ true → (a ≡ true) × (b ≡ true)
both_true true b h = (refl, h)
both_true false b h = absurd (true≢false (sym h))

-- where a plain byte leads
abbrev plain_to : Bool → Spot
plain_to d = cond d Field Plain

abbrev spot_by : Bool → Bool → Bool → Spot
spot_by q d l = cond q Quoted (cond d Field (cond l Before Plain))

plain_spot : (q d l : Bool) → q ≡ false → l ≡ false → spot_by q d l ≡ plain_to d
plain_spot true d l h k = absurd (true≢false h)
plain_spot false true l h k = refl
plain_spot false false true h k = absurd (true≢false k)
plain_spot false false false h k = refl

plain_outside : (d l : Bool) → l ≡ false → cond d Field (cond l Before Plain) ≡ plain_to d
plain_outside true l k = refl
plain_outside false true k = absurd (true≢false k)
plain_outside false false k = refl

header_read : (t : List ℕ) (rs : List Fields) → Ends t rs → (hs : List ℕ) → list_all is_plain_byte hs ≡ true → (s : Spot) (fs : Fields) (f : List ℕ) → InHeader s
    → read s fs f (hs ++ t) ≡ (fs ++ prefixed f (words hs)) ∷ rs
header_read t rs e [] h Before fs f o = absurd o
header_read t rs e [] h Quoted fs f o = absurd o
header_read t rs e [] h Closed fs f o = absurd o
header_read t rs e [] h Field fs f o = e Field fs f tt ∙ ap (λ x. (fs ++ x ∷ []) ∷ rs) (sym (append-nil f))
header_read t rs e [] h Plain fs f o = e Plain fs f tt ∙ ap (λ x. (fs ++ x ∷ []) ∷ rs) (sym (append-nil f))
header_read t rs e (c ∷ cs) h Before fs f o = absurd o
header_read t rs e (c ∷ cs) h Quoted fs f o = absurd o
header_read t rs e (c ∷ cs) h Closed fs f o = absurd o
header_read t rs e (c ∷ cs) h Field fs f o =
    let each = both_true (is_plain_byte c) (list_all is_plain_byte cs) h in
    let tests = plain_tests (c == 34) (c == 13) (c == 10) each.0 in
    ap (λ s. read_to (λ s2 fs2 f2. read s2 fs2 f2 (cs ++ t)) Field s fs f c) (plain_spot (c == 34) (c == 44) (is_line_end c) tests.0 tests.1)
    ∙ by_comma (c == 44) (header_read t rs e cs each.1)
  where
    by_comma : (d : Bool) → ((s : Spot) (fs : Fields) (f : List ℕ) → InHeader s → read s fs f (cs ++ t) ≡ (fs ++ prefixed f (words cs)) ∷ rs)
        → read_to (λ s2 fs2 f2. read s2 fs2 f2 (cs ++ t)) Field (plain_to d) fs f c ≡ (fs ++ prefixed f (cond d ([] ∷ words cs) (onto c (words cs)))) ∷ rs
    by_comma true more = more Field (fs ++ f ∷ []) [] tt ∙ ap (λ x. x ∷ rs) (append_assoc fs (f ∷ []) (prefixed [] (words cs)) ∙ ap (λ x. fs ++ f ∷ x) (whole cs) ∙ ap (λ x. fs ++ x ∷ words cs) (sym (append-nil f)))
    by_comma false more = more Plain fs (f ++ c ∷ []) tt ∙ ap (λ x. (fs ++ x) ∷ rs) (put_on f c (words cs))
header_read t rs e (c ∷ cs) h Plain fs f o =
    let each = both_true (is_plain_byte c) (list_all is_plain_byte cs) h in
    let tests = plain_tests (c == 34) (c == 13) (c == 10) each.0 in
    ap (λ s. read_to (λ s2 fs2 f2. read s2 fs2 f2 (cs ++ t)) Plain s fs f c) (plain_outside (c == 44) (is_line_end c) tests.1)
    ∙ by_comma (c == 44) (header_read t rs e cs each.1)
  where
    by_comma : (d : Bool) → ((s : Spot) (fs : Fields) (f : List ℕ) → InHeader s → read s fs f (cs ++ t) ≡ (fs ++ prefixed f (words cs)) ∷ rs)
        → read_to (λ s2 fs2 f2. read s2 fs2 f2 (cs ++ t)) Plain (plain_to d) fs f c ≡ (fs ++ prefixed f (cond d ([] ∷ words cs) (onto c (words cs)))) ∷ rs
    by_comma true more = more Field (fs ++ f ∷ []) [] tt ∙ ap (λ x. x ∷ rs) (append_assoc fs (f ∷ []) (prefixed [] (words cs)) ∙ ap (λ x. fs ++ f ∷ x) (whole cs) ∙ ap (λ x. fs ++ x ∷ words cs) (sym (append-nil f)))
    by_comma false more = more Plain fs (f ++ c ∷ []) tt ∙ ap (λ x. (fs ++ x) ∷ rs) (put_on f c (words cs))

from_tests : (fs : Fields) (f : List ℕ) (c : ℕ) (cs : List ℕ) (q d l : Bool) → l ≡ false
    → read_to (λ s2 fs2 f2. read s2 fs2 f2 cs) Before (cond l Before (spot_by q d l)) fs f c ≡ read_to (λ s2 fs2 f2. read s2 fs2 f2 cs) Field (spot_by q d l) fs f c
from_tests fs f c cs q d true e = absurd (true≢false e)
from_tests fs f c cs true d false e = refl
from_tests fs f c cs false true false e = refl
from_tests fs f c cs false false false e = refl

-- a byte that ends no line begins a record with a field
pub from_field : (c : ℕ) (cs : List ℕ) (fs : Fields) (f : List ℕ) → is_line_end c ≡ false → read Before fs f (c ∷ cs) ≡ read Field fs f (c ∷ cs)
from_field c cs fs f h = from_tests fs f c cs (c == 34) (c == 44) (is_line_end c) h

-- the same where nothing was read yet
pub begins_field : (c : ℕ) (cs : List ℕ) → is_line_end c ≡ false → read Before [] [] (c ∷ cs) ≡ read Field [] [] (c ∷ cs)
begins_field c cs h = from_field c cs [] [] h

-- a plain header stands for a record of its words
pub header_first : (t : List ℕ) (rs : List Fields) → Ends t rs → (header : List ℕ) → list_all is_plain_byte header ≡ true → read Before [] [] (or_quotes false header ++ t) ≡ words header ∷ rs
header_first t rs e [] h = e Closed [] [] tt
header_first t rs e (c ∷ cs) h =
    let each = both_true (is_plain_byte c) (list_all is_plain_byte cs) h in
    let tests = plain_tests (c == 34) (c == 13) (c == 10) each.0 in
    begins_field c (cs ++ t) tests.1 ∙ header_read t rs e (c ∷ cs) h Field [] [] tt ∙ ap (λ x. x ∷ rs) (whole (c ∷ cs))
