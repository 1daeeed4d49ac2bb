-- What goes on of a text reads as its records under the header.
use Rattle.std.proofs.Common.{◌≡◌, ◌∙◌, ap, sym, refl, subst, ℕ, ◌+◌, ◌==◌, ◌||◌, ◌⊎◌, inl, inr, Bool, true, false, cond, List, [], ◌∷◌, ◌++◌, length, map, nat_lt, replicate, arith, append_assoc, append-nil, length-append, true≢false}
use Rattle.std.proofs.lemmas.Bool.Decides.{nat_tests}
use Rattle.std.specs.List.{list_all}
use Rattle.sw_headers.specs.declared.rewriting.Place.{Place}
use Rattle.sw_headers.specs.declared.rewriting.Spot.{Spot}
use Rattle.sw_headers.specs.declared.rewriting.Spot.TheVariants.{Before, Field, Plain, Quoted, Closed}
use Rattle.sw_headers.specs.Steps.{Step, begun, closing, commas, copied, entered, finished_at, inside, is_kept, is_line_end, keeps_at, missed_after, next_field, next_spot, opened, or_quotes, stepped}
use Rattle.sw_headers.specs.Under.{Fields, is_plain_byte, kept, or_empty, record_under, records_under, words}
use Rattle.sw_headers.proofs.Closing.{Ends, IsOpen, at_end, begins_field, commas_read, ends_line, ends_nil, from_field, header_first, kept_more, kept_nil, line_before, line_end, lines_before, none_read, record_is}
use Rattle.sw_headers.proofs.Reading.{joined, read, read_to}
use Rattle.sw_headers.proofs.Runs.{by_bool}
use Rattle.sw_headers.proofs.Whole.{commas_none, keeps_all, not_all}

-- what goes on of the rest of a text from a place on
abbrev pub out : List ℕ → List Bool → Place → List ℕ → List ℕ
out header keeps p [] = finished_at header keeps p p.spot
out header keeps p (c ∷ cs) = (stepped header keeps p c).1 ++ out header keeps (stepped header keeps p c).0 cs

-- what goes on in a step, and then of the rest of a text
abbrev pub after : List ℕ → List Bool → Step → List ℕ → List ℕ
after header keeps s cs = s.1 ++ out header keeps s.0 cs

-- a place behind where a byte order mark may stand
abbrev pub at : Spot → Bool → ℕ → Bool → Bool → ℕ → Place
at s first field given bytes missed = record {
  spot = s;
  marked = 3;
  is_first = first;
  field = field;
  has_given = given;
  has_bytes = bytes;
  missed = missed;
}

-- a spot in a record
abbrev IsIn : Spot → Type 0
IsIn Before = ⊥
IsIn Field = Unit {0}
IsIn Plain = Unit {0}
IsIn Quoted = Unit {0}
IsIn Closed = Unit {0}

-- what the bytes that go on read as, in each case, of a rest of a text
record Laws (header : List ℕ) (keeps : List Bool) (xs : List ℕ) : Type 0 where
  -- in the first record, of which nothing goes on
  pub first : (s : Spot) (field missed : ℕ) (fs : Fields) (f : List ℕ)
      → read Before [] [] (out header keeps (at s true field false false missed) xs) ≡ records_under header keeps (read s fs f xs)
  -- before a later record
  pub before : read Before [] [] (out header keeps (at Before false 0 false false 0) xs) ≡ map (record_under keeps) (read Before [] [] xs)
  -- in a field that is kept, where some bytes of the record went on
  pub in_kept : (s : Spot) (field missed : ℕ) (fs : Fields) (f : List ℕ) → IsIn s → field ≡ at_end keeps fs → keeps_at keeps field ≡ true
      → read s (kept keeps fs) f (out header keeps (at s false field true true missed) xs) ≡ map (record_under keeps) (read s fs f xs)
  -- at the beginning of the first field that is kept
  pub at_kept : (field missed : ℕ) (fs : Fields) → kept keeps fs ≡ [] → field ≡ at_end keeps fs → keeps_at keeps field ≡ true
      → read Before [] [] (out header keeps (at Field false field true false missed) xs) ≡ map (record_under keeps) (read Field fs [] xs)
  -- in a field that is passed by, where some bytes of the record went on
  pub in_passed : (s : Spot) (field missed : ℕ) (fs : Fields) (f : List ℕ) (t : Spot) (gs : Fields) (g : List ℕ) → IsIn s → IsOpen t
      → kept keeps fs ≡ gs ++ g ∷ [] → field ≡ at_end keeps fs → keeps_at keeps field ≡ false
      → read t gs g (out header keeps (at s false field true true missed) xs) ≡ map (record_under keeps) (read s fs f xs)
  -- in one before which nothing of the record went on
  pub at_passed : (s : Spot) (given : Bool) (field missed : ℕ) (fs : Fields) (f : List ℕ) → IsIn s
      → kept keeps fs ≡ cond given ([] ∷ []) [] → field ≡ at_end keeps fs → keeps_at keeps field ≡ false
      → read Before [] [] (out header keeps (at s false field given false missed) xs) ≡ map (record_under keeps) (read s fs f xs)

-- ---- places in a record

-- a byte of a field that is kept goes on
pub copied_kept : (keeps : List Bool) (p : Place) (c : ℕ) → is_kept keeps p ≡ true → copied keeps p c ≡ (record p { has_bytes = true }, c ∷ [])
copied_kept keeps p c h = ap (λ b. cond b (record p { has_bytes = true }, c ∷ []) (record p { missed = missed_after p.missed c }, [])) h

-- a byte of a field that is passed by does not
pub copied_passed : (keeps : List Bool) (p : Place) (c : ℕ) → is_kept keeps p ≡ false → copied keeps p c ≡ (record p { missed = missed_after p.missed c }, [])
copied_passed keeps p c h = ap (λ b. cond b (record p { has_bytes = true }, c ∷ []) (record p { missed = missed_after p.missed c }, [])) h

-- what a field begins with, by whether it is kept
abbrev pub begun_by : Bool → Place → Step
begun_by b p = cond b (cond p.has_given (record p { has_bytes = true }, 44 ∷ []) (record p { has_given = true }, [])) (p, [])

-- so a field is begun
pub begun_is : (keeps : List Bool) (p : Place) (b : Bool) → is_kept keeps p ≡ b → begun keeps p ≡ begun_by b p
begun_is keeps p b h = ap (λ k. begun_by k p) h

-- the place behind a field, and one more
next_end : (keeps : List Bool) (fs : Fields) (f : List ℕ) (field : ℕ) → field ≡ at_end keeps fs → next_field keeps field ≡ at_end keeps (fs ++ f ∷ [])
next_end keeps fs f field h =
    let many : length (fs ++ f ∷ []) ≡ length fs + 1 = length-append fs (f ∷ []) in
    by_bool (nat_lt field (length keeps))
    (λ e. ap (λ b. cond b (field + 1) field) e ∙ grind (arith, nat_tests, e, h, many))
    (λ e. ap (λ b. cond b (field + 1) field) e ∙ grind (arith, nat_tests, e, h, many))

kept_true : (keeps : List Bool) (fs : Fields) (f : List ℕ) (field : ℕ) → field ≡ at_end keeps fs → keeps_at keeps field ≡ true → kept keeps (fs ++ f ∷ []) ≡ kept keeps fs ++ f ∷ []
kept_true keeps fs f field h k = kept_more keeps fs f ∙ ap (λ b. kept keeps fs ++ cond b (f ∷ []) []) (ap (keeps_at keeps) (sym h) ∙ k)

kept_false : (keeps : List Bool) (fs : Fields) (f : List ℕ) (field : ℕ) → field ≡ at_end keeps fs → keeps_at keeps field ≡ false → kept keeps (fs ++ f ∷ []) ≡ kept keeps fs
kept_false keeps fs f field h k = kept_more keeps fs f ∙ ap (λ b. kept keeps fs ++ cond b (f ∷ []) []) (ap (keeps_at keeps) (sym h) ∙ k) ∙ append-nil (kept keeps fs)

-- ---- spots

-- whether a spot stands before a record
abbrev pub is_before : Spot → Bool
is_before Before = true
is_before Field = false
is_before Plain = false
is_before Quoted = false
is_before Closed = false

-- whether a spot stands at the beginning of a field
abbrev pub is_field : Spot → Bool
is_field Before = false
is_field Field = true
is_field Plain = false
is_field Quoted = false
is_field Closed = false

-- a record or a field ends behind an open spot alone
abbrev leaves : Spot → Bool
leaves s = is_before s || is_field s

quoted_stays : (q : Bool) → leaves (cond q Closed Quoted) ≡ true → ⊥
quoted_stays true h = true≢false (sym h)
quoted_stays false h = true≢false (sym h)

open_from : (s : Spot) (c : ℕ) → IsIn s → leaves (next_spot s c) ≡ true → IsOpen s
open_from Before c i h = absurd i
open_from Field c i h = tt
open_from Plain c i h = tt
open_from Quoted c i h = absurd (quoted_stays (c == 34) h)
open_from Closed c i h = tt

ends_only : (d l : Bool) → is_before (cond d Field (cond l Before Plain)) ≡ true → l ≡ true
ends_only true l h = absurd (true≢false (sym h))
ends_only false true h = refl
ends_only false false h = absurd (true≢false (sym h))

ends_behind : (q : Bool) (s : Spot) (d l : Bool) → is_before s ≡ false → is_before (cond q s (cond d Field (cond l Before Plain))) ≡ true → l ≡ true
ends_behind true s d l e h = absurd (true≢false (sym h ∙ e))
ends_behind false s d l e h = ends_only d l h

end_from : (s : Spot) (c : ℕ) → IsIn s → is_before (next_spot s c) ≡ true → is_line_end c ≡ true
end_from Before c i h = absurd i
end_from Field c i h = ends_behind (c == 34) Quoted (c == 44) (is_line_end c) refl h
end_from Plain c i h = ends_only (c == 44) (is_line_end c) h
end_from Quoted c i h = absurd (no_end (c == 34) h)
  where
    no_end : (q : Bool) → is_before (cond q Closed Quoted) ≡ true → ⊥
    no_end true e = true≢false (sym e)
    no_end false e = true≢false (sym e)
end_from Closed c i h = ends_behind (c == 34) Quoted (c == 44) (is_line_end c) refl h

-- a comma behind an open spot
comma_read : (s : Spot) (fs : Fields) (f cs : List ℕ) → IsOpen s → read s fs f (44 ∷ cs) ≡ read Field (fs ++ f ∷ []) [] cs
comma_read Before fs f cs o = absurd o
comma_read Field fs f cs o = refl
comma_read Plain fs f cs o = refl
comma_read Quoted fs f cs o = absurd o
comma_read Closed fs f cs o = refl

-- what is read of the text, by the spot behind its first byte
read_by : (s s2 : Spot) (fs : Fields) (f : List ℕ) (c : ℕ) (cs : List ℕ) → next_spot s c ≡ s2 → read s fs f (c ∷ cs) ≡ read_to (λ t fs2 f2. read t fs2 f2 cs) s s2 fs f c
read_by s s2 fs f c cs h = ap (λ t. read_to (λ t fs2 f2. read t fs2 f2 cs) s t fs f c) h

ends_read : (s : Spot) (fs : Fields) (f : List ℕ) (c : ℕ) (cs : List ℕ) → IsIn s → read_to (λ t fs2 f2. read t fs2 f2 cs) s Before fs f c ≡ (fs ++ f ∷ []) ∷ read Before [] [] cs
ends_read Before fs f c cs i = absurd i
ends_read Field fs f c cs i = refl
ends_read Plain fs f c cs i = refl
ends_read Quoted fs f c cs i = refl
ends_read Closed fs f c cs i = refl

field_read : (s : Spot) (fs : Fields) (f : List ℕ) (c : ℕ) (cs : List ℕ) → read_to (λ t fs2 f2. read t fs2 f2 cs) s Field fs f c ≡ read Field (fs ++ f ∷ []) [] cs
field_read Before fs f c cs = refl
field_read Field fs f c cs = refl
field_read Plain fs f c cs = refl
field_read Quoted fs f c cs = refl
field_read Closed fs f c cs = refl

-- what goes on, by the spot behind the byte
out_by : (header : List ℕ) (keeps : List Bool) (s s2 : Spot) (first : Bool) (field : ℕ) (given bytes : Bool) (missed c : ℕ) (cs : List ℕ) → IsIn s → next_spot s c ≡ s2
    → out header keeps (at s first field given bytes missed) (c ∷ cs) ≡ after header keeps (inside header keeps (at s first field given bytes missed) s2 c) cs
out_by header keeps Before s2 first field given bytes missed c cs i h = absurd i
out_by header keeps Field s2 first field given bytes missed c cs i h = ap (λ t. after header keeps (inside header keeps (at Field first field given bytes missed) t c) cs) h
out_by header keeps Plain s2 first field given bytes missed c cs i h = ap (λ t. after header keeps (inside header keeps (at Plain first field given bytes missed) t c) cs) h
out_by header keeps Quoted s2 first field given bytes missed c cs i h = ap (λ t. after header keeps (inside header keeps (at Quoted first field given bytes missed) t c) cs) h
out_by header keeps Closed s2 first field given bytes missed c cs i h = ap (λ t. after header keeps (inside header keeps (at Closed first field given bytes missed) t c) cs) h

-- ---- a record ends

-- what was given on of a record closes as these fields
abbrev Shuts : Spot → Fields → List ℕ → Bool → Fields → Type 0
Shuts s fs f bytes g = (t : List ℕ) (rs : List Fields) → Ends t rs → (n : ℕ) → read s fs f (or_quotes bytes (replicate n 44) ++ t) ≡ (or_empty g ++ replicate n []) ∷ rs

nonempty : (fs : Fields) (f : List ℕ) → or_empty (fs ++ f ∷ []) ≡ fs ++ f ∷ []
nonempty [] f = refl
nonempty (g ∷ fs) f = refl

shuts_some : (s : Spot) (fs : Fields) (f : List ℕ) (g : Fields) → IsOpen s → g ≡ fs ++ f ∷ [] → Shuts s fs f true g
shuts_some s fs f g o h t rs e n = commas_read t rs e n s fs f o ∙ ap (λ x. (x ++ replicate n []) ∷ rs) (sym (nonempty fs f) ∙ ap or_empty (sym h))

shuts_none : (given : Bool) (g : Fields) → g ≡ cond given ([] ∷ []) [] → Shuts Before [] [] false g
shuts_none true g h t rs e n = none_read t rs e n ∙ ap (λ x. (or_empty x ++ replicate n []) ∷ rs) (sym h)
shuts_none false g h t rs e n = none_read t rs e n ∙ ap (λ x. (or_empty x ++ replicate n []) ∷ rs) (sym h)

-- a later record closes as the record that it is
closes : (header : List ℕ) (keeps : List Bool) (t : Spot) (gs : Fields) (g : List ℕ) (s : Spot) (field : ℕ) (given bytes : Bool) (missed : ℕ) (fs : Fields) (f : List ℕ)
    → Shuts t gs g bytes (kept keeps (fs ++ f ∷ [])) → field ≡ at_end keeps fs → (more : List ℕ) (rs : List Fields) → Ends more rs
    → read t gs g (closing header keeps (at s false field given bytes missed) ++ more) ≡ record_under keeps (fs ++ f ∷ []) ∷ rs
closes header keeps t gs g s field given bytes missed fs f shuts h more rs e =
    shuts more rs e (commas keeps field)
    ∙ ap (λ n. (or_empty (kept keeps (fs ++ f ∷ [])) ++ replicate (commas keeps n) []) ∷ rs) h
    ∙ ap (λ x. x ∷ rs) (sym (record_is keeps fs f))

-- and then those behind it
line_ends : (header : List ℕ) (keeps : List Bool) (cs : List ℕ) → Laws header keeps cs → (t : Spot) (gs : Fields) (g : List ℕ) (s : Spot) (field : ℕ) (given bytes : Bool) (missed : ℕ) (fs : Fields) (f : List ℕ) (c : ℕ)
    → Shuts t gs g bytes (kept keeps (fs ++ f ∷ [])) → field ≡ at_end keeps fs → is_line_end c ≡ true
    → read t gs g (after header keeps (inside header keeps (at s false field given bytes missed) Before c) cs) ≡ record_under keeps (fs ++ f ∷ []) ∷ map (record_under keeps) (read Before [] [] cs)
line_ends header keeps cs laws t gs g s field given bytes missed fs f c shuts h l =
    let p = at s false field given bytes missed in
    let later = out header keeps (at Before false 0 false false 0) cs in
    ap (read t gs g) (append_assoc (closing header keeps p) (c ∷ replicate missed 10) later)
    ∙ closes header keeps t gs g s field given bytes missed fs f shuts h (c ∷ replicate missed 10 ++ later) (read Before [] [] (replicate missed 10 ++ later)) (ends_line c (replicate missed 10 ++ later) l)
    ∙ ap (λ rs. record_under keeps (fs ++ f ∷ []) ∷ rs) (lines_before missed later ∙ laws.before)

-- the text ends in a later record
text_ends : (header : List ℕ) (keeps : List Bool) (t : Spot) (gs : Fields) (g : List ℕ) (s : Spot) (field : ℕ) (given bytes : Bool) (missed : ℕ) (fs : Fields) (f : List ℕ)
    → Shuts t gs g bytes (kept keeps (fs ++ f ∷ [])) → field ≡ at_end keeps fs → read t gs g (closing header keeps (at s false field given bytes missed)) ≡ record_under keeps (fs ++ f ∷ []) ∷ []
text_ends header keeps t gs g s field given bytes missed fs f shuts h =
    ap (read t gs g) (sym (append-nil (closing header keeps (at s false field given bytes missed))))
    ∙ closes header keeps t gs g s field given bytes missed fs f shuts h [] [] ends_nil

-- ---- one byte more, in each case

-- spots of bytes that belong to a field
abbrev IsOn : Spot → Type 0
IsOn Before = ⊥
IsOn Field = ⊥
IsOn Plain = Unit {0}
IsOn Quoted = Unit {0}
IsOn Closed = Unit {0}

copy_read : (s s2 : Spot) (fs : Fields) (f : List ℕ) (c : ℕ) (cs : List ℕ) → IsOn s2 → read_to (λ t fs2 f2. read t fs2 f2 cs) s s2 fs f c ≡ read s2 fs (joined s s2 f c) cs
copy_read s Before fs f c cs o = absurd o
copy_read s Field fs f c cs o = absurd o
copy_read Before Plain fs f c cs o = refl
copy_read Field Plain fs f c cs o = refl
copy_read Plain Plain fs f c cs o = refl
copy_read Quoted Plain fs f c cs o = refl
copy_read Closed Plain fs f c cs o = refl
copy_read Before Quoted fs f c cs o = refl
copy_read Field Quoted fs f c cs o = refl
copy_read Plain Quoted fs f c cs o = refl
copy_read Quoted Quoted fs f c cs o = refl
copy_read Closed Quoted fs f c cs o = refl
copy_read Before Closed fs f c cs o = refl
copy_read Field Closed fs f c cs o = refl
copy_read Plain Closed fs f c cs o = refl
copy_read Quoted Closed fs f c cs o = refl
copy_read Closed Closed fs f c cs o = refl

is_in : (s : Spot) → IsOn s → IsIn s
is_in Before o = absurd o
is_in Field o = absurd o
is_in Plain o = tt
is_in Quoted o = tt
is_in Closed o = tt

on_before : (s : Spot) → IsOn s → is_before s ≡ false
on_before Before o = absurd o
on_before Field o = absurd o
on_before Plain o = refl
on_before Quoted o = refl
on_before Closed o = refl

inside_on : (header : List ℕ) (keeps : List Bool) (s s2 : Spot) (first : Bool) (field : ℕ) (given bytes : Bool) (missed c : ℕ) → IsOn s2
    → inside header keeps (at s first field given bytes missed) s2 c ≡ copied keeps (at s2 first field given bytes missed) c
inside_on header keeps s Before first field given bytes missed c o = absurd o
inside_on header keeps s Field first field given bytes missed c o = absurd o
inside_on header keeps s Plain first field given bytes missed c o = refl
inside_on header keeps s Quoted first field given bytes missed c o = refl
inside_on header keeps s Closed first field given bytes missed c o = refl

-- no line ends where a byte belongs to a field
line_next : (c : ℕ) → is_line_end c ≡ true → next_spot Field c ≡ Before
line_next c h = by_end (line_end c h)
  where
    by_end : (c ≡ 13) ⊎ (c ≡ 10) → next_spot Field c ≡ Before
    by_end (inl e) = subst (λ b. next_spot Field b ≡ Before) (sym e) refl
    by_end (inr e) = subst (λ b. next_spot Field b ≡ Before) (sym e) refl

no_line : (c : ℕ) → is_before (next_spot Field c) ≡ false → is_line_end c ≡ false
no_line c h = by_bool (is_line_end c) (λ e. absurd (true≢false (sym (ap is_before (line_next c e)) ∙ h))) (λ e. e)

-- a field begins, in a record that is not the first
field_after : (header : List ℕ) (keeps : List Bool) (s : Spot) (field : ℕ) (given bytes : Bool) (missed c : ℕ) (b : Bool) → keeps_at keeps (next_field keeps field) ≡ b
    → inside header keeps (at s false field given bytes missed) Field c ≡ begun_by b (at Field false (next_field keeps field) given bytes missed)
field_after header keeps s field given bytes missed c b h = begun_is keeps (at Field false (next_field keeps field) given bytes missed) b h

module _ (header : List ℕ) (keeps : List Bool) (cs : List ℕ) (laws : Laws header keeps cs) where
  abbrev To : Spot → Spot → Fields → List ℕ → ℕ → List Fields
  To s s2 fs f c = map (record_under keeps) (read_to (λ t fs2 f2. read t fs2 f2 cs) s s2 fs f c)

  kept_on : (s s2 : Spot) (field missed : ℕ) (fs : Fields) (f : List ℕ) (c : ℕ) → IsOn s2 → field ≡ at_end keeps fs → keeps_at keeps field ≡ true → next_spot s c ≡ s2
      → read s (kept keeps fs) f (after header keeps (inside header keeps (at s false field true true missed) s2 c) cs) ≡ To s s2 fs f c
  kept_on s s2 field missed fs f c o h k e =
      let p = at s2 false field true true missed in
      let more = out header keeps p cs in
      ap (λ x. read s (kept keeps fs) f (after header keeps x cs)) (inside_on header keeps s s2 false field true true missed c o ∙ copied_kept keeps p c k)
      ∙ read_by s s2 (kept keeps fs) f c more e ∙ copy_read s s2 (kept keeps fs) f c more o
      ∙ laws.in_kept s2 field missed fs (joined s s2 f c) (is_in s2 o) h k
      ∙ ap (map (record_under keeps)) (sym (copy_read s s2 fs f c cs o))

  kept_field : (s : Spot) (field missed : ℕ) (fs : Fields) (f : List ℕ) (c : ℕ) → IsOpen s → field ≡ at_end keeps fs → keeps_at keeps field ≡ true
      → read s (kept keeps fs) f (after header keeps (inside header keeps (at s false field true true missed) Field c) cs) ≡ To s Field fs f c
  kept_field s field missed fs f c o h k =
      let n = next_field keeps field in
      let next = next_end keeps fs f field h in
      let all = kept_true keeps fs f field h k in
      let p = at Field false n true true missed in
      let back = ap (map (record_under keeps)) (sym (field_read s fs f c cs)) in
      let go = λ (b : Bool) (e : keeps_at keeps n ≡ b). ap (λ x. read s (kept keeps fs) f (after header keeps x cs)) (field_after header keeps s field true true missed c b e) in
      by_bool (keeps_at keeps n)
      (λ e. go true e ∙ comma_read s (kept keeps fs) f (out header keeps p cs) o ∙ ap (λ gs. read Field gs [] (out header keeps p cs)) (sym all) ∙ laws.in_kept Field n missed (fs ++ f ∷ []) [] tt next e ∙ back)
      (λ e. go false e ∙ laws.in_passed Field n missed (fs ++ f ∷ []) [] s (kept keeps fs) f tt o all next e ∙ back)

  kept_step : (s s2 : Spot) (field missed : ℕ) (fs : Fields) (f : List ℕ) (c : ℕ) → IsIn s → field ≡ at_end keeps fs → keeps_at keeps field ≡ true → next_spot s c ≡ s2
      → read s (kept keeps fs) f (after header keeps (inside header keeps (at s false field true true missed) s2 c) cs) ≡ To s s2 fs f c
  kept_step s Before field missed fs f c i h k e =
      line_ends header keeps cs laws s (kept keeps fs) f s field true true missed fs f c (shuts_some s (kept keeps fs) f (kept keeps (fs ++ f ∷ [])) (open_from s c i (ap leaves e)) (kept_true keeps fs f field h k)) h (end_from s c i (ap is_before e))
      ∙ ap (map (record_under keeps)) (sym (ends_read s fs f c cs i))
  kept_step s Field field missed fs f c i h k e = kept_field s field missed fs f c (open_from s c i (ap leaves e)) h k
  kept_step s Plain field missed fs f c i h k e = kept_on s Plain field missed fs f c tt h k e
  kept_step s Quoted field missed fs f c i h k e = kept_on s Quoted field missed fs f c tt h k e
  kept_step s Closed field missed fs f c i h k e = kept_on s Closed field missed fs f c tt h k e

  first_on : (s2 : Spot) (field missed : ℕ) (fs : Fields) (c : ℕ) → IsOn s2 → kept keeps fs ≡ [] → field ≡ at_end keeps fs → keeps_at keeps field ≡ true → next_spot Field c ≡ s2
      → read Before [] [] (after header keeps (inside header keeps (at Field false field true false missed) s2 c) cs) ≡ To Field s2 fs [] c
  first_on s2 field missed fs c o none h k e =
      let more = out header keeps (at s2 false field true true missed) cs in
      ap (λ x. read Before [] [] (after header keeps x cs)) (inside_on header keeps Field s2 false field true false missed c o ∙ copied_kept keeps (at s2 false field true false missed) c k)
      ∙ begins_field c more (no_line c (ap is_before e ∙ on_before s2 o))
      ∙ read_by Field s2 [] [] c more e ∙ copy_read Field s2 [] [] c more o
      ∙ ap (λ gs. read s2 gs (joined Field s2 [] c) more) (sym none)
      ∙ laws.in_kept s2 field missed fs (joined Field s2 [] c) (is_in s2 o) h k
      ∙ ap (map (record_under keeps)) (sym (copy_read Field s2 fs [] c cs o))

  begin_step : (s2 : Spot) (field missed : ℕ) (fs : Fields) (c : ℕ) → kept keeps fs ≡ [] → field ≡ at_end keeps fs → keeps_at keeps field ≡ true → next_spot Field c ≡ s2
      → read Before [] [] (after header keeps (inside header keeps (at Field false field true false missed) s2 c) cs) ≡ To Field s2 fs [] c
  begin_step Before field missed fs c none h k e =
      let all : kept keeps (fs ++ [] ∷ []) ≡ [] ∷ [] = kept_true keeps fs [] field h k ∙ ap (λ gs. gs ++ [] ∷ []) none in
      line_ends header keeps cs laws Before [] [] Field field true false missed fs [] c (shuts_none true (kept keeps (fs ++ [] ∷ [])) all) h (end_from Field c tt (ap is_before e))
  begin_step Field field missed fs c none h k e =
      let n = next_field keeps field in
      let next = next_end keeps fs [] field h in
      let all : kept keeps (fs ++ [] ∷ []) ≡ [] ∷ [] = kept_true keeps fs [] field h k ∙ ap (λ gs. gs ++ [] ∷ []) none in
      let go = λ (b : Bool) (q : keeps_at keeps n ≡ b). ap (λ x. read Before [] [] (after header keeps x cs)) (field_after header keeps Field field true false missed c b q) in
      by_bool (keeps_at keeps n)
      (λ q. go true q ∙ ap (λ gs. read Field gs [] (out header keeps (at Field false n true true missed) cs)) (sym all) ∙ laws.in_kept Field n missed (fs ++ [] ∷ []) [] tt next q)
      (λ q. go false q ∙ laws.at_passed Field true n missed (fs ++ [] ∷ []) [] tt all next q)
  begin_step Plain field missed fs c none h k e = first_on Plain field missed fs c tt none h k e
  begin_step Quoted field missed fs c none h k e = first_on Quoted field missed fs c tt none h k e
  begin_step Closed field missed fs c none h k e = first_on Closed field missed fs c tt none h k e

  passed_on : (s s2 : Spot) (field missed : ℕ) (fs : Fields) (f : List ℕ) (t : Spot) (gs : Fields) (g : List ℕ) (c : ℕ) → IsOn s2 → IsOpen t → kept keeps fs ≡ gs ++ g ∷ [] → field ≡ at_end keeps fs → keeps_at keeps field ≡ false
      → read t gs g (after header keeps (inside header keeps (at s false field true true missed) s2 c) cs) ≡ To s s2 fs f c
  passed_on s s2 field missed fs f t gs g c o able all h k =
      ap (λ x. read t gs g (after header keeps x cs)) (inside_on header keeps s s2 false field true true missed c o ∙ copied_passed keeps (at s2 false field true true missed) c k)
      ∙ laws.in_passed s2 field (missed_after missed c) fs (joined s s2 f c) t gs g (is_in s2 o) able all h k
      ∙ ap (map (record_under keeps)) (sym (copy_read s s2 fs f c cs o))

  passed_step : (s s2 : Spot) (field missed : ℕ) (fs : Fields) (f : List ℕ) (t : Spot) (gs : Fields) (g : List ℕ) (c : ℕ) → IsIn s → IsOpen t → kept keeps fs ≡ gs ++ g ∷ [] → field ≡ at_end keeps fs → keeps_at keeps field ≡ false → next_spot s c ≡ s2
      → read t gs g (after header keeps (inside header keeps (at s false field true true missed) s2 c) cs) ≡ To s s2 fs f c
  passed_step s Before field missed fs f t gs g c i able all h k e =
      line_ends header keeps cs laws t gs g s field true true missed fs f c (shuts_some t gs g (kept keeps (fs ++ f ∷ [])) able (kept_false keeps fs f field h k ∙ all)) h (end_from s c i (ap is_before e))
      ∙ ap (map (record_under keeps)) (sym (ends_read s fs f c cs i))
  passed_step s Field field missed fs f t gs g c i able all h k e =
      let n = next_field keeps field in
      let next = next_end keeps fs f field h in
      let same : kept keeps (fs ++ f ∷ []) ≡ gs ++ g ∷ [] = kept_false keeps fs f field h k ∙ all in
      let p = at Field false n true true missed in
      let back = ap (map (record_under keeps)) (sym (field_read s fs f c cs)) in
      let go = λ (b : Bool) (q : keeps_at keeps n ≡ b). ap (λ x. read t gs g (after header keeps x cs)) (field_after header keeps s field true true missed c b q) in
      by_bool (keeps_at keeps n)
      (λ q. go true q ∙ comma_read t gs g (out header keeps p cs) able ∙ ap (λ x. read Field x [] (out header keeps p cs)) (sym same) ∙ laws.in_kept Field n missed (fs ++ f ∷ []) [] tt next q ∙ back)
      (λ q. go false q ∙ laws.in_passed Field n missed (fs ++ f ∷ []) [] t gs g tt able same next q ∙ back)
  passed_step s Plain field missed fs f t gs g c i able all h k e = passed_on s Plain field missed fs f t gs g c tt able all h k
  passed_step s Quoted field missed fs f t gs g c i able all h k e = passed_on s Quoted field missed fs f t gs g c tt able all h k
  passed_step s Closed field missed fs f t gs g c i able all h k e = passed_on s Closed field missed fs f t gs g c tt able all h k

  none_on : (s s2 : Spot) (given : Bool) (field missed : ℕ) (fs : Fields) (f : List ℕ) (c : ℕ) → IsOn s2 → kept keeps fs ≡ cond given ([] ∷ []) [] → field ≡ at_end keeps fs → keeps_at keeps field ≡ false
      → read Before [] [] (after header keeps (inside header keeps (at s false field given false missed) s2 c) cs) ≡ To s s2 fs f c
  none_on s s2 given field missed fs f c o all h k =
      ap (λ x. read Before [] [] (after header keeps x cs)) (inside_on header keeps s s2 false field given false missed c o ∙ copied_passed keeps (at s2 false field given false missed) c k)
      ∙ laws.at_passed s2 given field (missed_after missed c) fs (joined s s2 f c) (is_in s2 o) all h k
      ∙ ap (map (record_under keeps)) (sym (copy_read s s2 fs f c cs o))

  none_step : (given : Bool) (s s2 : Spot) (field missed : ℕ) (fs : Fields) (f : List ℕ) (c : ℕ) → IsIn s → kept keeps fs ≡ cond given ([] ∷ []) [] → field ≡ at_end keeps fs → keeps_at keeps field ≡ false → next_spot s c ≡ s2
      → read Before [] [] (after header keeps (inside header keeps (at s false field given false missed) s2 c) cs) ≡ To s s2 fs f c
  none_step given s Before field missed fs f c i all h k e =
      line_ends header keeps cs laws Before [] [] s field given false missed fs f c (shuts_none given (kept keeps (fs ++ f ∷ [])) (kept_false keeps fs f field h k ∙ all)) h (end_from s c i (ap is_before e))
      ∙ ap (map (record_under keeps)) (sym (ends_read s fs f c cs i))
  none_step true s Field field missed fs f c i all h k e =
      let n = next_field keeps field in
      let next = next_end keeps fs f field h in
      let same : kept keeps (fs ++ f ∷ []) ≡ [] ∷ [] = kept_false keeps fs f field h k ∙ all in
      let back = ap (map (record_under keeps)) (sym (field_read s fs f c cs)) in
      let go = λ (b : Bool) (q : keeps_at keeps n ≡ b). ap (λ x. read Before [] [] (after header keeps x cs)) (field_after header keeps s field true false missed c b q) in
      by_bool (keeps_at keeps n)
      (λ q. go true q ∙ ap (λ x. read Field x [] (out header keeps (at Field false n true true missed) cs)) (sym same) ∙ laws.in_kept Field n missed (fs ++ f ∷ []) [] tt next q ∙ back)
      (λ q. go false q ∙ laws.at_passed Field true n missed (fs ++ f ∷ []) [] tt same next q ∙ back)
  none_step false s Field field missed fs f c i all h k e =
      let n = next_field keeps field in
      let next = next_end keeps fs f field h in
      let same : kept keeps (fs ++ f ∷ []) ≡ [] = kept_false keeps fs f field h k ∙ all in
      let back = ap (map (record_under keeps)) (sym (field_read s fs f c cs)) in
      let go = λ (b : Bool) (q : keeps_at keeps n ≡ b). ap (λ x. read Before [] [] (after header keeps x cs)) (field_after header keeps s field false false missed c b q) in
      by_bool (keeps_at keeps n)
      (λ q. go true q ∙ laws.at_kept n missed (fs ++ f ∷ []) same next q ∙ back)
      (λ q. go false q ∙ laws.at_passed Field false n missed (fs ++ f ∷ []) [] tt same next q ∙ back)
  none_step given s Plain field missed fs f c i all h k e = none_on s Plain given field missed fs f c tt all h k
  none_step given s Quoted field missed fs f c i all h k e = none_on s Quoted given field missed fs f c tt all h k
  none_step given s Closed field missed fs f c i all h k e = none_on s Closed given field missed fs f c tt all h k

  -- nothing goes on of the first record before its end
  abbrev Under : Spot → Spot → Fields → List ℕ → ℕ → List Fields
  Under s s2 fs f c = records_under header keeps (read_to (λ t fs2 f2. read t fs2 f2 cs) s s2 fs f c)

  title_on : (s s2 : Spot) (field missed : ℕ) (fs : Fields) (f : List ℕ) (c : ℕ) → IsOn s2
      → read Before [] [] (after header keeps (inside header keeps (at s true field false false missed) s2 c) cs) ≡ Under s s2 fs f c
  title_on s s2 field missed fs f c o =
      ap (λ x. read Before [] [] (after header keeps x cs)) (inside_on header keeps s s2 true field false false missed c o ∙ copied_passed keeps (at s2 true field false false missed) c refl)
      ∙ laws.first s2 field (missed_after missed c) fs (joined s s2 f c)
      ∙ ap (records_under header keeps) (sym (copy_read s s2 fs f c cs o))

  title_end : list_all is_plain_byte header ≡ true → (s : Spot) (field missed : ℕ) (c : ℕ) → is_line_end c ≡ true
      → read Before [] [] (after header keeps (inside header keeps (at s true field false false missed) Before c) cs) ≡ words header ∷ map (record_under keeps) (read Before [] [] cs)
  title_end plain s field missed c l =
      let later = out header keeps (at Before false 0 false false 0) cs in
      ap (read Before [] []) (append_assoc (or_quotes false header) (c ∷ replicate missed 10) later)
      ∙ header_first (c ∷ replicate missed 10 ++ later) (read Before [] [] (replicate missed 10 ++ later)) (ends_line c (replicate missed 10 ++ later) l) header plain
      ∙ ap (λ rs. words header ∷ rs) (lines_before missed later ∙ laws.before)

  title_step : list_all is_plain_byte header ≡ true → (s s2 : Spot) (field missed : ℕ) (fs : Fields) (f : List ℕ) (c : ℕ) → IsIn s → next_spot s c ≡ s2
      → read Before [] [] (after header keeps (inside header keeps (at s true field false false missed) s2 c) cs) ≡ Under s s2 fs f c
  title_step plain s Before field missed fs f c i e = title_end plain s field missed c (end_from s c i (ap is_before e)) ∙ ap (records_under header keeps) (sym (ends_read s fs f c cs i))
  title_step plain s Field field missed fs f c i e = laws.first Field (next_field keeps field) missed (fs ++ f ∷ []) [] ∙ ap (records_under header keeps) (sym (field_read s fs f c cs))
  title_step plain s Plain field missed fs f c i e = title_on s Plain field missed fs f c tt
  title_step plain s Quoted field missed fs f c i e = title_on s Quoted field missed fs f c tt
  title_step plain s Closed field missed fs f c i e = title_on s Closed field missed fs f c tt

-- before a record, the byte that begins one does what it does at the beginning of a field
before_spot : (c : ℕ) → is_line_end c ≡ false → next_spot Before c ≡ next_spot Field c
before_spot c h = ap (λ b. cond b Before (opened c)) h

field_in : (c : ℕ) → is_line_end c ≡ false → is_before (next_spot Field c) ≡ false
field_in c h = by_tests (c == 34) (c == 44) (is_line_end c) h
  where
    by_tests : (q d l : Bool) → l ≡ false → is_before (cond q Quoted (cond d Field (cond l Before Plain))) ≡ false
    by_tests q d true e = absurd (true≢false e)
    by_tests true d false e = refl
    by_tests false true false e = refl
    by_tests false false false e = refl

-- inside a record a byte is what it is there
pub entered_is : (header : List ℕ) (keeps : List Bool) (p : Place) (s : Spot) (c : ℕ) → is_before s ≡ false → entered header keeps p s c ≡ inside header keeps (record p { has_given = is_kept keeps p }) s c
entered_is header keeps p Before c h = absurd (true≢false h)
entered_is header keeps p Field c h = refl
entered_is header keeps p Plain c h = refl
entered_is header keeps p Quoted c h = refl
entered_is header keeps p Closed c h = refl

inside_same : (header : List ℕ) (keeps : List Bool) (s t s2 : Spot) (first : Bool) (field : ℕ) (given bytes : Bool) (missed c : ℕ)
    → inside header keeps (at s first field given bytes missed) s2 c ≡ inside header keeps (at t first field given bytes missed) s2 c
inside_same header keeps s t Before first field given bytes missed c = refl
inside_same header keeps s t Field first field given bytes missed c = refl
inside_same header keeps s t Plain first field given bytes missed c = refl
inside_same header keeps s t Quoted first field given bytes missed c = refl
inside_same header keeps s t Closed first field given bytes missed c = refl

-- what goes on from before a record, where a record begins
entering : (header : List ℕ) (keeps : List Bool) (first : Bool) (missed c : ℕ) (cs : List ℕ) (field : ℕ) (b : Bool) → is_kept keeps (at Before first field false false missed) ≡ b → is_line_end c ≡ false
    → out header keeps (at Before first field false false missed) (c ∷ cs) ≡ after header keeps (inside header keeps (at Field first field b false missed) (next_spot Field c) c) cs
entering header keeps first missed c cs field b k h =
    let p = at Before first field false false missed in
    let s = next_spot Field c in
    ap (λ t. after header keeps (entered header keeps p t c) cs) (before_spot c h)
    ∙ ap (λ x. after header keeps x cs) (entered_is header keeps p s c (field_in c h) ∙ ap (λ g. inside header keeps (at Before first field g false missed) s c) k ∙ inside_same header keeps Before Field s first field b false missed c)

-- where a line ends before a record, that byte goes on
passing : (header : List ℕ) (keeps : List Bool) (p : Place) (c : ℕ) (cs : List ℕ) → is_line_end c ≡ true
    → after header keeps (entered header keeps p (next_spot Before c) c) cs ≡ c ∷ out header keeps p cs
passing header keeps p c cs h = ap (λ b. after header keeps (entered header keeps p (cond b Before (opened c)) c) cs) h

-- ---- all of it

none_left : (header : List ℕ) (keeps : List Bool) → list_all is_plain_byte header ≡ true → Laws header keeps []
none_left header keeps plain = record {
  first = title;
  before = refl;
  in_kept = kept_end;
  at_kept = λ field missed fs none h k. text_ends header keeps Before [] [] Field field true false missed fs [] (shuts_none true (kept keeps (fs ++ [] ∷ [])) (kept_true keeps fs [] field h k ∙ ap (λ gs. gs ++ [] ∷ []) none)) h;
  in_passed = passed_end;
  at_passed = none_end;
}
  where
    closed : read Before [] [] (or_quotes false header) ≡ words header ∷ []
    closed = ap (read Before [] []) (sym (append-nil (or_quotes false header))) ∙ header_first [] [] ends_nil header plain

    title : (s : Spot) (field missed : ℕ) (fs : Fields) (f : List ℕ) → read Before [] [] (out header keeps (at s true field false false missed) []) ≡ records_under header keeps (read s fs f [])
    title Before field missed fs f = refl
    title Field field missed fs f = closed
    title Plain field missed fs f = closed
    title Quoted field missed fs f = closed
    title Closed field missed fs f = closed

    kept_end : (s : Spot) (field missed : ℕ) (fs : Fields) (f : List ℕ) → IsIn s → field ≡ at_end keeps fs → keeps_at keeps field ≡ true
        → read s (kept keeps fs) f (out header keeps (at s false field true true missed) []) ≡ map (record_under keeps) (read s fs f [])
    kept_end Before field missed fs f i h k = absurd i
    kept_end Field field missed fs f i h k = text_ends header keeps Field (kept keeps fs) f Field field true true missed fs f (shuts_some Field (kept keeps fs) f _ tt (kept_true keeps fs f field h k)) h
    kept_end Plain field missed fs f i h k = text_ends header keeps Plain (kept keeps fs) f Plain field true true missed fs f (shuts_some Plain (kept keeps fs) f _ tt (kept_true keeps fs f field h k)) h
    kept_end Quoted field missed fs f i h k =
        let p = at Quoted false field true true missed in
        let ends = (copied keeps p 34).1 ++ closing header keeps (copied keeps p 34).0 in
        by_bool (keeps_all keeps)
        (λ e. ap (λ b. read Quoted (kept keeps fs) f (cond b [] ends)) e ∙ ap (λ n. read Closed (kept keeps fs) f (replicate n 44)) (sym (commas_none keeps field e)))
        (λ e. ap (λ b. read Quoted (kept keeps fs) f (cond b [] ends)) e ∙ ap (λ (x : Step). read Quoted (kept keeps fs) f (x.1 ++ closing header keeps x.0)) (copied_kept keeps p 34 k))
        ∙ text_ends header keeps Closed (kept keeps fs) f Quoted field true true missed fs f (shuts_some Closed (kept keeps fs) f _ tt (kept_true keeps fs f field h k)) h
    kept_end Closed field missed fs f i h k = text_ends header keeps Closed (kept keeps fs) f Closed field true true missed fs f (shuts_some Closed (kept keeps fs) f _ tt (kept_true keeps fs f field h k)) h

    passed_end : (s : Spot) (field missed : ℕ) (fs : Fields) (f : List ℕ) (t : Spot) (gs : Fields) (g : List ℕ) → IsIn s → IsOpen t
        → kept keeps fs ≡ gs ++ g ∷ [] → field ≡ at_end keeps fs → keeps_at keeps field ≡ false
        → read t gs g (out header keeps (at s false field true true missed) []) ≡ map (record_under keeps) (read s fs f [])
    passed_end Before field missed fs f t gs g i able all h k = absurd i
    passed_end Field field missed fs f t gs g i able all h k = text_ends header keeps t gs g Field field true true missed fs f (shuts_some t gs g _ able (kept_false keeps fs f field h k ∙ all)) h
    passed_end Plain field missed fs f t gs g i able all h k = text_ends header keeps t gs g Plain field true true missed fs f (shuts_some t gs g _ able (kept_false keeps fs f field h k ∙ all)) h
    passed_end Quoted field missed fs f t gs g i able all h k =
        let p = at Quoted false field true true missed in
        ap (λ b. read t gs g (cond b [] ((copied keeps p 34).1 ++ closing header keeps (copied keeps p 34).0))) (not_all keeps field k)
        ∙ ap (λ (x : Step). read t gs g (x.1 ++ closing header keeps x.0)) (copied_passed keeps p 34 k)
        ∙ text_ends header keeps t gs g Quoted field true true missed fs f (shuts_some t gs g _ able (kept_false keeps fs f field h k ∙ all)) h
    passed_end Closed field missed fs f t gs g i able all h k = text_ends header keeps t gs g Closed field true true missed fs f (shuts_some t gs g _ able (kept_false keeps fs f field h k ∙ all)) h

    none_end : (s : Spot) (given : Bool) (field missed : ℕ) (fs : Fields) (f : List ℕ) → IsIn s
        → kept keeps fs ≡ cond given ([] ∷ []) [] → field ≡ at_end keeps fs → keeps_at keeps field ≡ false
        → read Before [] [] (out header keeps (at s false field given false missed) []) ≡ map (record_under keeps) (read s fs f [])
    none_end Before given field missed fs f i all h k = absurd i
    none_end Field given field missed fs f i all h k = text_ends header keeps Before [] [] Field field given false missed fs f (shuts_none given _ (kept_false keeps fs f field h k ∙ all)) h
    none_end Plain given field missed fs f i all h k = text_ends header keeps Before [] [] Plain field given false missed fs f (shuts_none given _ (kept_false keeps fs f field h k ∙ all)) h
    none_end Quoted given field missed fs f i all h k =
        let p = at Quoted false field given false missed in
        ap (λ b. read Before [] [] (cond b [] ((copied keeps p 34).1 ++ closing header keeps (copied keeps p 34).0))) (not_all keeps field k)
        ∙ ap (λ (x : Step). read Before [] [] (x.1 ++ closing header keeps x.0)) (copied_passed keeps p 34 k)
        ∙ text_ends header keeps Before [] [] Quoted field given false missed fs f (shuts_none given _ (kept_false keeps fs f field h k ∙ all)) h
    none_end Closed given field missed fs f i all h k = text_ends header keeps Before [] [] Closed field given false missed fs f (shuts_none given _ (kept_false keeps fs f field h k ∙ all)) h

one_more : (header : List ℕ) (keeps : List Bool) → list_all is_plain_byte header ≡ true → (c : ℕ) (cs : List ℕ) → Laws header keeps cs → Laws header keeps (c ∷ cs)
one_more header keeps plain c cs laws = record {
  first = title;
  before = by_bool (is_line_end c)
      (λ e. ap (read Before [] []) (passing header keeps (at Before false 0 false false 0) c cs e) ∙ line_before c (out header keeps (at Before false 0 false false 0) cs) e ∙ laws.before ∙ ap (map (record_under keeps)) (sym (line_before c cs e)))
      (λ e. begins e);
  in_kept = λ s field missed fs f i h k. ap (read s (kept keeps fs) f) (out_by header keeps s (next_spot s c) false field true true missed c cs i refl) ∙ kept_step header keeps cs laws s (next_spot s c) field missed fs f c i h k refl;
  at_kept = λ field missed fs none h k. begin_step header keeps cs laws (next_spot Field c) field missed fs c none h k refl;
  in_passed = λ s field missed fs f t gs g i able all h k. ap (read t gs g) (out_by header keeps s (next_spot s c) false field true true missed c cs i refl) ∙ passed_step header keeps cs laws s (next_spot s c) field missed fs f t gs g c i able all h k refl;
  at_passed = λ s given field missed fs f i all h k. ap (read Before [] []) (out_by header keeps s (next_spot s c) false field given false missed c cs i refl) ∙ none_step header keeps cs laws given s (next_spot s c) field missed fs f c i all h k refl;
}
  where
    zero_end : 0 ≡ at_end keeps []
    zero_end = omega arith

    begins : is_line_end c ≡ false → read Before [] [] (out header keeps (at Before false 0 false false 0) (c ∷ cs)) ≡ map (record_under keeps) (read Before [] [] (c ∷ cs))
    begins e =
        let back = ap (map (record_under keeps)) (sym (begins_field c cs e)) in
        by_bool (keeps_at keeps 0)
        (λ k. ap (read Before [] []) (entering header keeps false 0 c cs 0 true k e) ∙ begin_step header keeps cs laws (next_spot Field c) 0 0 [] c (kept_nil keeps) zero_end k refl ∙ back)
        (λ k. ap (read Before [] []) (entering header keeps false 0 c cs 0 false k e) ∙ none_step header keeps cs laws false Field (next_spot Field c) 0 0 [] [] c tt (kept_nil keeps) zero_end k refl ∙ back)

    titled : (s : Spot) (field missed : ℕ) (fs : Fields) (f : List ℕ) → IsIn s → read Before [] [] (out header keeps (at s true field false false missed) (c ∷ cs)) ≡ records_under header keeps (read s fs f (c ∷ cs))
    titled s field missed fs f i = ap (read Before [] []) (out_by header keeps s (next_spot s c) true field false false missed c cs i refl) ∙ title_step header keeps cs laws plain s (next_spot s c) field missed fs f c i refl

    title : (s : Spot) (field missed : ℕ) (fs : Fields) (f : List ℕ) → read Before [] [] (out header keeps (at s true field false false missed) (c ∷ cs)) ≡ records_under header keeps (read s fs f (c ∷ cs))
    title Before field missed fs f = by_bool (is_line_end c)
        (λ e. ap (read Before [] []) (passing header keeps (at Before true field false false missed) c cs e) ∙ line_before c (out header keeps (at Before true field false false missed) cs) e ∙ laws.first Before field missed fs f
        ∙ ap (λ b. records_under header keeps (read_to (λ t fs2 f2. read t fs2 f2 cs) Before (cond b Before (opened c)) fs f c)) (sym e))
        (λ e. ap (read Before [] []) (entering header keeps true missed c cs field false refl e) ∙ title_step header keeps cs laws plain Field (next_spot Field c) field missed fs f c tt refl
        ∙ ap (records_under header keeps) (sym (from_field c cs fs f e)))
    title Field field missed fs f = titled Field field missed fs f tt
    title Plain field missed fs f = titled Plain field missed fs f tt
    title Quoted field missed fs f = titled Quoted field missed fs f tt
    title Closed field missed fs f = titled Closed field missed fs f tt

all_laws : (header : List ℕ) (keeps : List Bool) → list_all is_plain_byte header ≡ true → (xs : List ℕ) → Laws header keeps xs
all_laws header keeps plain [] = none_left header keeps plain
all_laws header keeps plain (c ∷ cs) = one_more header keeps plain c cs (all_laws header keeps plain cs)

-- the bytes that go on of a text read as its records under the header
pub out_read : (header : List ℕ) (keeps : List Bool) → list_all is_plain_byte header ≡ true → (xs : List ℕ)
    → read Before [] [] (out header keeps (at Before true 0 false false 0) xs) ≡ records_under header keeps (read Before [] [] xs)
out_read header keeps plain xs = let laws = all_laws header keeps plain xs in laws.first Before 0 0 [] []
