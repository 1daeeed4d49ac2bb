-- The bytes that go on of a whole text, with and without a byte order mark.
use Rattle.std.proofs.Common.{◌≡◌, ◌∙◌, ap, sym, refl, subst, ℕ, ◌+◌, ◌==◌, ◌&&◌, ◌⊎◌, inl, inr, Bool, true, false, cond, not, get_or, List, [], ◌∷◌, ◌++◌, replicate, arith, append_assoc, append-nil, true≢false, IfOk, Result, Ok, Err}
use Rattle.std.proofs.lemmas.Bool.Decides.{nat_tests}
use Rattle.std.specs.Global.{Vec}
use Rattle.std.specs.List.{list_all}
use Rattle.csv.specs.Reading.{default_config, is_bom, records, strip_bom}
use Rattle.sw_headers.specs.declared.rewriting.Place.{Place}
use Rattle.sw_headers.specs.declared.rewriting.Spot.{Spot}
use Rattle.sw_headers.specs.declared.rewriting.Spot.TheVariants.{Before, Field, Plain, Quoted, Closed}
use Rattle.sw_headers.specs.Steps.{Step, entered, finished, going_on, inside, is_kept, is_line_end, missed_after, next_field, next_spot, opened, or_quotes, place_after, rewritten, start, stepped, stepped_at, taken, unmarked}
use Rattle.sw_headers.specs.Under.{IsUnder, is_plain_byte, records_under}
use Rattle.sw_headers.proofs.Closing.{line_end}
use Rattle.sw_headers.proofs.Law.{after, at, out, out_read}
use Rattle.sw_headers.proofs.Reading.{records_read}
use Rattle.sw_headers.proofs.Runs.{by_bool}

-- ---- a step leaves how many bytes of a mark went by

copied_marked : (keeps : List Bool) (p : Place) (c : ℕ) (b : Bool) → (cond {A = Step} b (record p { has_bytes = true }, c ∷ []) (record p { missed = missed_after p.missed c }, [])).0.marked ≡ p.marked
copied_marked keeps p c true = refl
copied_marked keeps p c false = refl

begun_marked : (p : Place) (b g : Bool) → (cond {A = Step} b (cond {A = Step} g (record p { has_bytes = true }, 44 ∷ []) (record p { has_given = true }, [])) (p, [])).0.marked ≡ p.marked
begun_marked p true true = refl
begun_marked p true false = refl
begun_marked p false g = refl

inside_marked : (header : List ℕ) (keeps : List Bool) (p : Place) (s : Spot) (c : ℕ) → (inside header keeps p s c).0.marked ≡ p.marked
inside_marked header keeps p Before c = refl
inside_marked header keeps p Field c = begun_marked (record p { spot = Field; field = next_field keeps p.field }) _ _
inside_marked header keeps p Plain c = copied_marked keeps (record p { spot = Plain }) c _
inside_marked header keeps p Quoted c = copied_marked keeps (record p { spot = Quoted }) c _
inside_marked header keeps p Closed c = copied_marked keeps (record p { spot = Closed }) c _

entered_marked : (header : List ℕ) (keeps : List Bool) (p : Place) (s : Spot) (c : ℕ) → (entered header keeps p s c).0.marked ≡ p.marked
entered_marked header keeps p Before c = refl
entered_marked header keeps p Field c = inside_marked header keeps (record p { has_given = is_kept keeps p }) Field c
entered_marked header keeps p Plain c = inside_marked header keeps (record p { has_given = is_kept keeps p }) Plain c
entered_marked header keeps p Quoted c = inside_marked header keeps (record p { has_given = is_kept keeps p }) Quoted c
entered_marked header keeps p Closed c = inside_marked header keeps (record p { has_given = is_kept keeps p }) Closed c

stepped_marked : (header : List ℕ) (keeps : List Bool) (p : Place) (s : Spot) (c : ℕ) → (stepped_at header keeps p s c).0.marked ≡ p.marked
stepped_marked header keeps p Before c = entered_marked header keeps p (next_spot Before c) c
stepped_marked header keeps p Field c = inside_marked header keeps p (next_spot Field c) c
stepped_marked header keeps p Plain c = inside_marked header keeps p (next_spot Plain c) c
stepped_marked header keeps p Quoted c = inside_marked header keeps p (next_spot Quoted c) c
stepped_marked header keeps p Closed c = inside_marked header keeps p (next_spot Closed c) c

-- behind the mark a place stays
pub unmarked_same : (p : Place) → p.marked ≡ 3 → unmarked p ≡ p
unmarked_same p m = subst (λ n. unmarked (record p { marked = n }) ≡ record p { marked = n }) (sym m) refl

-- and a byte is taken as a step
pub taken_stepped : (header : List ℕ) (keeps : List Bool) (p : Place) (c : ℕ) → p.marked ≡ 3 → taken header keeps p c ≡ stepped header keeps p c
taken_stepped header keeps p c m = subst (λ n. taken header keeps (record p { marked = n }) c ≡ stepped header keeps (record p { marked = n }) c) (sym m) refl

-- what goes on from a place on
abbrev pub all : List ℕ → List Bool → Place → List ℕ → List ℕ
all header keeps p xs = going_on header keeps p xs ++ finished header keeps (place_after header keeps p xs)

-- what goes on of one byte more
pub all_step : (header : List ℕ) (keeps : List Bool) (p : Place) (c : ℕ) (cs : List ℕ) → all header keeps p (c ∷ cs) ≡ (taken header keeps p c).1 ++ all header keeps (taken header keeps p c).0 cs
all_step header keeps p c cs = append_assoc (taken header keeps p c).1 _ _

all_out : (header : List ℕ) (keeps : List Bool) (xs : List ℕ) (p : Place) → p.marked ≡ 3 → all header keeps p xs ≡ out header keeps p xs
all_out header keeps [] p m = ap (λ q. out header keeps q []) (unmarked_same p m)
all_out header keeps (c ∷ cs) p m =
    let s = stepped header keeps p c in
    all_step header keeps p c cs
    ∙ ap (λ (t : Step). t.1 ++ all header keeps t.0 cs) (taken_stepped header keeps p c m)
    ∙ ap (λ ys. s.1 ++ ys) (all_out header keeps cs s.0 (stepped_marked header keeps p p.spot c ∙ m))

-- ---- the beginning of a text

abbrev begin : Place
begin = at Before true 0 false false 0

-- a byte that is none of a mark
all_unmarked : (header : List ℕ) (keeps : List Bool) (p : Place) (c : ℕ) (cs : List ℕ) → (t : Bool) → t ≡ false
    → (cond {A = Step} t (record p { marked = p.marked + 1 }, []) (stepped header keeps (unmarked p) c)).1 ++ all header keeps (cond {A = Step} t (record p { marked = p.marked + 1 }, []) (stepped header keeps (unmarked p) c)).0 cs
    ≡ out header keeps (unmarked p) (c ∷ cs)
all_unmarked header keeps p c cs true h = absurd (true≢false h)
all_unmarked header keeps p c cs false h =
    let s = stepped header keeps (unmarked p) c in
    ap (λ ys. s.1 ++ ys) (all_out header keeps cs s.0 (stepped_marked header keeps (unmarked p) (unmarked p).spot c))

same_number : (c n : ℕ) → (c == n) ≡ true → c ≡ n
same_number c n h = grind (arith, nat_tests, h)

no_bom : (a b c : ℕ) (rest : List ℕ) → is_bom a b c ≡ false → strip_bom (a ∷ b ∷ c ∷ rest) ≡ a ∷ b ∷ c ∷ rest
unfolding strip_bom
no_bom a b c rest h = ap (λ t. cond t rest (a ∷ b ∷ c ∷ rest)) h

first_bom : (a : ℕ) (rest : List ℕ) → (a == 239) ≡ false → strip_bom (a ∷ rest) ≡ a ∷ rest
unfolding strip_bom
first_bom a [] h = refl
first_bom a (b ∷ []) h = refl
first_bom a (b ∷ c ∷ rest) h = no_bom a b c rest (ap (λ t. (t && (b == 187)) && (c == 191)) h)

second_bom : (b : ℕ) (rest : List ℕ) → (b == 187) ≡ false → strip_bom (239 ∷ b ∷ rest) ≡ 239 ∷ b ∷ rest
unfolding strip_bom
second_bom b [] h = refl
second_bom b (c ∷ rest) h = no_bom 239 b c rest (ap (λ t. t && (c == 191)) h)

third_bom : (c : ℕ) (rest : List ℕ) → (c == 191) ≡ false → strip_bom (239 ∷ 187 ∷ c ∷ rest) ≡ 239 ∷ 187 ∷ c ∷ rest
third_bom c rest h = no_bom 239 187 c rest h

whole_bom : (rest : List ℕ) → strip_bom (239 ∷ 187 ∷ 191 ∷ rest) ≡ rest
unfolding strip_bom
whole_bom rest = refl

short_bom : (xs : List ℕ) → strip_bom [] ≡ []
unfolding strip_bom
short_bom xs = refl

one_bom : strip_bom (239 ∷ []) ≡ 239 ∷ []
unfolding strip_bom
one_bom = refl

two_bom : strip_bom (239 ∷ 187 ∷ []) ≡ 239 ∷ 187 ∷ []
unfolding strip_bom
two_bom = refl

third : (header : List ℕ) (keeps : List Bool) (rest : List ℕ) → all header keeps (record start { marked = 2 }) rest ≡ out header keeps begin (strip_bom (239 ∷ 187 ∷ rest))
third header keeps [] = ap (out header keeps begin) (sym two_bom)
third header keeps (c ∷ cs) = by_bool (c == 191)
    (λ e. subst (λ b. all header keeps (record start { marked = 2 }) (b ∷ cs) ≡ out header keeps begin (strip_bom (239 ∷ 187 ∷ b ∷ cs))) (sym (same_number c 191 e))
    (all_out header keeps cs begin refl ∙ ap (out header keeps begin) (sym (whole_bom cs))))
    (λ e. all_step header keeps (record start { marked = 2 }) c cs ∙ all_unmarked header keeps (record start { marked = 2 }) c cs (c == 191) e ∙ ap (out header keeps begin) (sym (third_bom c cs e)))

second : (header : List ℕ) (keeps : List Bool) (rest : List ℕ) → all header keeps (record start { marked = 1 }) rest ≡ out header keeps begin (strip_bom (239 ∷ rest))
second header keeps [] = ap (out header keeps begin) (sym one_bom)
second header keeps (c ∷ cs) = by_bool (c == 187)
    (λ e. subst (λ b. all header keeps (record start { marked = 1 }) (b ∷ cs) ≡ out header keeps begin (strip_bom (239 ∷ b ∷ cs))) (sym (same_number c 187 e)) (third header keeps cs))
    (λ e. all_step header keeps (record start { marked = 1 }) c cs ∙ all_unmarked header keeps (record start { marked = 1 }) c cs (c == 187) e ∙ ap (out header keeps begin) (sym (second_bom c cs e)))

begun_out : (header : List ℕ) (keeps : List Bool) (text : List ℕ) → rewritten header keeps text ≡ out header keeps begin (strip_bom text)
begun_out header keeps [] = ap (out header keeps begin) (sym (short_bom []))
begun_out header keeps (c ∷ cs) = by_bool (c == 239)
    (λ e. subst (λ b. all header keeps start (b ∷ cs) ≡ out header keeps begin (strip_bom (b ∷ cs))) (sym (same_number c 239 e)) (second header keeps cs))
    (λ e. all_step header keeps start c cs ∙ all_unmarked header keeps start c cs (c == 239) e ∙ ap (out header keeps begin) (sym (first_bom c cs e)))

-- ---- no mark goes on

abbrev Starts : List ℕ → Type 0
Starts ys = (get_or ys 0 0 == 239) ≡ false

starts_line : (c : ℕ) (ys : List ℕ) → is_line_end c ≡ true → Starts (c ∷ ys)
starts_line c ys h = by_end (line_end c h)
  where
    by_end : (c ≡ 13) ⊎ (c ≡ 10) → Starts (c ∷ ys)
    by_end (inl e) = ap (λ b. b == 239) e
    by_end (inr e) = ap (λ b. b == 239) e

starts_header : (header : List ℕ) → Starts header → (ys : List ℕ) → Starts (or_quotes false header ++ ys)
starts_header [] h ys = refl
starts_header (c ∷ cs) h ys = h

strip_starts : (ys : List ℕ) → Starts ys → strip_bom ys ≡ ys
unfolding strip_bom
strip_starts [] h = refl
strip_starts (y ∷ ys) h = first_bom y ys h

module _ (header : List ℕ) (keeps : List Bool) (plain : Starts header) where
  abbrev Quiet : List ℕ → Type 0
  Quiet xs = (s : Spot) (field missed : ℕ) → Starts (out header keeps (at s true field false false missed) xs)

  quiet_inside : (cs : List ℕ) → Quiet cs → (s s2 : Spot) (field missed c : ℕ) → Starts (after header keeps (inside header keeps (at s true field false false missed) s2 c) cs)
  quiet_inside cs h s Before field missed c =
      let later = out header keeps (at Before false 0 false false 0) cs in
      ap (λ ys. get_or ys 0 0 == 239) (append_assoc (or_quotes false header) (c ∷ replicate missed 10) later) ∙ starts_header header plain ((c ∷ replicate missed 10) ++ later)
  quiet_inside cs h s Field field missed c = h Field (next_field keeps field) missed
  quiet_inside cs h s Plain field missed c = h Plain field (missed_after missed c)
  quiet_inside cs h s Quoted field missed c = h Quoted field (missed_after missed c)
  quiet_inside cs h s Closed field missed c = h Closed field (missed_after missed c)

  quiet_entered : (cs : List ℕ) → Quiet cs → (b : Bool) (field missed c : ℕ) → is_line_end c ≡ b → Starts (after header keeps (entered header keeps (at Before true field false false missed) (cond b Before (opened c)) c) cs)
  quiet_entered cs h true field missed c e = starts_line c (out header keeps (at Before true field false false missed) cs) e
  quiet_entered cs h false field missed c e = by_tests (c == 34) (c == 44) (is_line_end c) e
    where
      by_tests : (q d l : Bool) → l ≡ false → Starts (after header keeps (entered header keeps (at Before true field false false missed) (cond q Quoted (cond d Field (cond l Before Plain))) c) cs)
      by_tests q d true k = absurd (true≢false k)
      by_tests true d false k = quiet_inside cs h Before Quoted field missed c
      by_tests false true false k = quiet_inside cs h Before Field field missed c
      by_tests false false false k = quiet_inside cs h Before Plain field missed c

  quiet_end : (s : Spot) (field missed : ℕ) → Starts (out header keeps (at s true field false false missed) [])
  quiet_end Before field missed = refl
  quiet_end Field field missed = ap (λ ys. get_or ys 0 0 == 239) (sym (append-nil (or_quotes false header))) ∙ starts_header header plain []
  quiet_end Plain field missed = ap (λ ys. get_or ys 0 0 == 239) (sym (append-nil (or_quotes false header))) ∙ starts_header header plain []
  quiet_end Quoted field missed = ap (λ ys. get_or ys 0 0 == 239) (sym (append-nil (or_quotes false header))) ∙ starts_header header plain []
  quiet_end Closed field missed = ap (λ ys. get_or ys 0 0 == 239) (sym (append-nil (or_quotes false header))) ∙ starts_header header plain []

  quiet : (xs : List ℕ) → Quiet xs
  quiet [] s field missed = quiet_end s field missed
  quiet (c ∷ cs) Before field missed = quiet_entered cs (quiet cs) (is_line_end c) field missed c refl
  quiet (c ∷ cs) Field field missed = quiet_inside cs (quiet cs) Field (next_spot Field c) field missed c
  quiet (c ∷ cs) Plain field missed = quiet_inside cs (quiet cs) Plain (next_spot Plain c) field missed c
  quiet (c ∷ cs) Quoted field missed = quiet_inside cs (quiet cs) Quoted (next_spot Quoted c) field missed c
  quiet (c ∷ cs) Closed field missed = quiet_inside cs (quiet cs) Closed (next_spot Closed c) field missed c

both_true : (a b : Bool) → (a && b) ≡ true → (a ≡ true) × (b ≡ true)
both_true true b h = (refl, h)
both_true false b h = absurd (true≢false (sym h))

not_true : (b : Bool) → not b ≡ true → b ≡ false
not_true true h = absurd (true≢false (sym h))
not_true false h = refl

-- what goes on of a text are its records under the header
pub is_under : (header : List ℕ) (keeps : List Bool) (text : List ℕ) → IsUnder header keeps text (rewritten header keeps text)
is_under header keeps text plain =
    let each = both_true (list_all is_plain_byte header) (not (get_or header 0 0 == 239)) plain in
    let same = begun_out header keeps text in
    let starts = quiet header keeps (not_true (get_or header 0 0 == 239) each.1) (strip_bom text) Before 0 0 in
    let whole = out header keeps begin (strip_bom text) in
    ap (λ ys. records default_config (strip_bom ys)) same
    ∙ ap (records default_config) (strip_starts whole starts)
    ∙ records_read whole
    ∙ out_read header keeps each.0 (strip_bom text)
    ∙ ap (records_under header keeps) (sym (records_read (strip_bom text)))

-- the same of what is made of a text
pub under_of : {E : Type 0} (header : List ℕ) (keeps : List Bool) (text : List ℕ) (made : Result (Vec ℕ) E) → IfOk made (λ out. out.items ≡ rewritten header keeps text)
    → IfOk made (λ out. IsUnder header keeps text out.items)
under_of header keeps text (Ok out) h = subst (IsUnder header keeps text) (sym h) (is_under header keeps text)
under_of header keeps text (Err e) h = tt
