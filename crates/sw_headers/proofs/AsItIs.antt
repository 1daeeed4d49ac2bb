-- Where no column is passed by, what follows the first record goes on as it is.
use Rattle.std.proofs.Common.{◌≡◌, ◌∙◌, ap, sym, refl, subst, ℕ, ◌+◌, ◌==◌, ◌&&◌, ◌⊎◌, inl, inr, Bool, true, false, cond, not, List, [], ◌∷◌, ◌++◌, replicate, arith, append_assoc, true≢false}
use Rattle.std.proofs.lemmas.Bool.Decides.{nat_tests}
use Rattle.sw_headers.specs.declared.rewriting.Place.{Place}
use Rattle.sw_headers.specs.declared.rewriting.Spot.{Spot}
use Rattle.sw_headers.specs.declared.rewriting.Spot.TheVariants.{Before, Field, Plain, Quoted, Closed}
use Rattle.sw_headers.specs.Steps.{Step, begun, closing, commas, copied, entered, finished, finished_at, goes_by, going_on, inside, is_kept, is_line_end, is_mark, keeps_at, next_field, next_spot, or_quotes, place_after, rewritten_from, stepped, taken, unmarked}
use Rattle.sw_headers.proofs.Law.{at, begun_is, copied_kept, copied_passed, entered_is, is_before, is_field}
use Rattle.sw_headers.proofs.Marks.{all_step, taken_stepped, unmarked_same}
use Rattle.sw_headers.proofs.Runs.{both_true, by_bool}
use Rattle.sw_headers.proofs.Whole.{commas_none, keeps_all, kept_at}

-- in a record bytes of it went on
abbrev Begun : Spot → Bool → Bool → Type 0
Begun Before given bytes = Unit {0}
Begun Field given bytes = (given ≡ true) × (bytes ≡ true)
Begun Plain given bytes = (given ≡ true) × (bytes ≡ true)
Begun Quoted given bytes = (given ≡ true) × (bytes ≡ true)
Begun Closed given bytes = (given ≡ true) × (bytes ≡ true)

all_begun : (s : Spot) → Begun s true true
all_begun Before = tt
all_begun Field = (refl, refl)
all_begun Plain = (refl, refl)
all_begun Quoted = (refl, refl)
all_begun Closed = (refl, refl)

-- a place behind the first record, of which all went on
record Behind (p : Place) : Type 0 where
  pub first : p.is_first ≡ false
  pub marked : p.marked ≡ 3
  pub missed : p.missed ≡ 0
  pub begun : Begun p.spot p.has_given p.has_bytes

-- a byte went on
record GoesOn (c : ℕ) (s : Step) : Type 0 where
  pub bytes : s.1 ≡ c ∷ []
  pub place : Behind s.0

normal : (p : Place) → Behind p → p ≡ at p.spot false p.field p.has_given p.has_bytes 0
normal p h =
    ap (λ f. record p { is_first = f }) h.first
    ∙ ap (λ m. record p { is_first = false; marked = m }) h.marked
    ∙ ap (λ m. record p { is_first = false; marked = 3; missed = m }) h.missed

-- a comma alone begins a field
field_by : (q d l : Bool) → is_field (cond q Quoted (cond d Field (cond l Before Plain))) ≡ true → d ≡ true
field_by true d l h = absurd (true≢false (sym h))
field_by false true l h = refl
field_by false false true h = absurd (true≢false (sym h))
field_by false false false h = absurd (true≢false (sym h))

field_outside : (d l : Bool) → is_field (cond d Field (cond l Before Plain)) ≡ true → d ≡ true
field_outside d l h = field_by false d l h

field_behind : (b d l : Bool) → is_field (cond b Quoted (cond d Field (cond l Before Plain))) ≡ true → d ≡ true
field_behind b d l h = field_by b d l h

is_comma : (c : ℕ) → (c == 44) ≡ true → c ≡ 44
is_comma c h = grind (arith, nat_tests, h)

comma_is : (s : Spot) (c : ℕ) → is_field (next_spot s c) ≡ true → c ≡ 44
comma_is Before c h = is_comma c (by_end (is_line_end c) h)
  where
    by_end : (l : Bool) → is_field (cond l Before (next_spot Field c)) ≡ true → (c == 44) ≡ true
    by_end true e = absurd (true≢false (sym e))
    by_end false e = field_by (c == 34) (c == 44) (is_line_end c) e
comma_is Field c h = is_comma c (field_by (c == 34) (c == 44) (is_line_end c) h)
comma_is Plain c h = is_comma c (field_outside (c == 44) (is_line_end c) h)
comma_is Quoted c h = absurd (none (c == 34) h)
  where
    none : (q : Bool) → is_field (cond q Closed Quoted) ≡ true → ⊥
    none true e = true≢false (sym e)
    none false e = true≢false (sym e)
comma_is Closed c h = is_comma c (field_behind (c == 34) (c == 44) (is_line_end c) h)

-- ---- behind the first record

module _ (header : List ℕ) (keeps : List Bool) (every : keeps_all keeps ≡ true) where
  goes_copied : (s : Spot) (field : ℕ) (b : Bool) (c : ℕ) → GoesOn c (copied keeps (at s false field true b 0) c)
  goes_copied s field b c =
      subst (GoesOn c) (sym (copied_kept keeps (at s false field true b 0) c (kept_at keeps field every)))
      (record { bytes = refl; place = record { first = refl; marked = refl; missed = refl; begun = all_begun s } })

  goes_begun : (field : ℕ) (b : Bool) → GoesOn 44 (begun keeps (at Field false field true b 0))
  goes_begun field b =
      subst (GoesOn 44) (sym (begun_is keeps (at Field false field true b 0) true (kept_at keeps field every)))
      (record { bytes = refl; place = record { first = refl; marked = refl; missed = refl; begun = (refl, refl) } })

  goes_inside : (s s2 : Spot) (field : ℕ) (b : Bool) (c : ℕ) → (is_before s2 ≡ true → b ≡ true) → (is_field s2 ≡ true → c ≡ 44)
      → GoesOn c (inside header keeps (at s false field true b 0) s2 c)
  goes_inside s Before field b c ended comma = record {
    bytes = ap (λ k. or_quotes k (replicate (commas keeps field) 44) ++ c ∷ []) (ended refl) ∙ ap (λ n. replicate n 44 ++ c ∷ []) (commas_none keeps field every);
    place = record { first = refl; marked = refl; missed = refl; begun = tt };
  }
  goes_inside s Field field b c ended comma = subst (λ n. GoesOn n (begun keeps (at Field false (next_field keeps field) true b 0))) (sym (comma refl)) (goes_begun (next_field keeps field) b)
  goes_inside s Plain field b c ended comma = goes_copied Plain field b c
  goes_inside s Quoted field b c ended comma = goes_copied Quoted field b c
  goes_inside s Closed field b c ended comma = goes_copied Closed field b c

  goes_entered : (s2 : Spot) (field : ℕ) (g b : Bool) (c : ℕ) → (is_field s2 ≡ true → c ≡ 44) → GoesOn c (entered header keeps (at Before false field g b 0) s2 c)
  goes_entered s2 field g b c comma = by_bool (is_before s2) (λ e. ended s2 e) (λ e.
      subst (GoesOn c) (sym (entered_is header keeps (at Before false field g b 0) s2 c e ∙ ap (λ k. inside header keeps (at Before false field k b 0) s2 c) (kept_at keeps field every)))
      (goes_inside Before s2 field b c (λ k. absurd (true≢false (sym k ∙ e))) comma))
    where
      ended : (s : Spot) → is_before s ≡ true → GoesOn c (entered header keeps (at Before false field g b 0) s c)
      ended Before e = record { bytes = refl; place = record { first = refl; marked = refl; missed = refl; begun = tt } }
      ended Field e = absurd (true≢false (sym e))
      ended Plain e = absurd (true≢false (sym e))
      ended Quoted e = absurd (true≢false (sym e))
      ended Closed e = absurd (true≢false (sym e))

  goes_within : (s s2 : Spot) (field : ℕ) (g b : Bool) (c : ℕ) → g ≡ true → b ≡ true → (is_field s2 ≡ true → c ≡ 44) → GoesOn c (inside header keeps (at s false field g b 0) s2 c)
  goes_within s s2 field g b c given bytes comma =
      subst (λ k. GoesOn c (inside header keeps (at s false field k b 0) s2 c)) (sym given) (goes_inside s s2 field b c (λ e. bytes) comma)

  goes_stepped : (s : Spot) (field : ℕ) (g b : Bool) (c : ℕ) → Begun s g b → GoesOn c (stepped header keeps (at s false field g b 0) c)
  goes_stepped Before field g b c h = goes_entered (next_spot Before c) field g b c (comma_is Before c)
  goes_stepped Field field g b c h = goes_within Field (next_spot Field c) field g b c h.0 h.1 (comma_is Field c)
  goes_stepped Plain field g b c h = goes_within Plain (next_spot Plain c) field g b c h.0 h.1 (comma_is Plain c)
  goes_stepped Quoted field g b c h = goes_within Quoted (next_spot Quoted c) field g b c h.0 h.1 (comma_is Quoted c)
  goes_stepped Closed field g b c h = goes_within Closed (next_spot Closed c) field g b c h.0 h.1 (comma_is Closed c)

  goes_taken : (p : Place) (c : ℕ) → Behind p → GoesOn c (taken header keeps p c)
  goes_taken p c h =
      subst (GoesOn c) (sym (taken_stepped header keeps p c h.marked ∙ ap (λ q. stepped header keeps q c) (normal p h)))
      (goes_stepped p.spot p.field p.has_given p.has_bytes c h.begun)

  closes_none : (field : ℕ) (b : Bool) → b ≡ true → or_quotes b (replicate (commas keeps field) 44) ≡ []
  closes_none field b h = ap (λ k. or_quotes k (replicate (commas keeps field) 44)) h ∙ ap (λ n. replicate n 44) (commas_none keeps field every)

  ends_at : (s : Spot) (field : ℕ) (g b : Bool) → Begun s g b → finished_at header keeps (at s false field g b 0) s ≡ []
  ends_at Before field g b h = refl
  ends_at Field field g b h = closes_none field b h.1
  ends_at Plain field g b h = closes_none field b h.1
  ends_at Quoted field g b h =
      let p = at Quoted false field g b 0 in
      let ends = (copied keeps p 34).1 ++ closing header keeps (copied keeps p 34).0 in
      ap (λ k. cond k [] ends) every
  ends_at Closed field g b h = closes_none field b h.1

  goes_finished : (p : Place) → Behind p → finished header keeps p ≡ []
  goes_finished p h = ap (λ q. finished_at header keeps q q.spot) (unmarked_same p h.marked ∙ normal p h) ∙ ends_at p.spot p.field p.has_given p.has_bytes h.begun

  -- what is left of the text goes on as it is
  as_it_is : (xs : List ℕ) (p : Place) → Behind p → rewritten_from header keeps p xs ≡ xs
  as_it_is [] p h = goes_finished p h
  as_it_is (c ∷ cs) p h =
      let on = goes_taken p c h in
      all_step header keeps p c cs
      ∙ ap (λ ys. ys ++ rewritten_from header keeps (taken header keeps p c).0 cs) on.bytes
      ∙ ap (λ ys. c ∷ ys) (as_it_is cs (taken header keeps p c).0 on.place)

  -- ---- to there

  abbrev Leads : Place → Type 0
  Leads p = (p.is_first ≡ true) ⊎ Behind p

  first_inside : (p : Place) (s : Spot) (c : ℕ) → p.is_first ≡ true → p.marked ≡ 3 → Leads (inside header keeps p s c).0
  first_inside p Before c f m = inr (record { first = refl; marked = m; missed = refl; begun = tt })
  first_inside p Field c f m =
      let q = record p { spot = Field; field = next_field keeps p.field } in
      subst (λ (x : Step). Leads x.0) (sym (begun_is keeps q false (ap (λ k. not k && keeps_at keeps q.field) f))) (inl f)
  first_inside p Plain c f m = subst (λ (x : Step). Leads x.0) (sym (copied_passed keeps (record p { spot = Plain }) c (ap (λ k. not k && keeps_at keeps p.field) f))) (inl f)
  first_inside p Quoted c f m = subst (λ (x : Step). Leads x.0) (sym (copied_passed keeps (record p { spot = Quoted }) c (ap (λ k. not k && keeps_at keeps p.field) f))) (inl f)
  first_inside p Closed c f m = subst (λ (x : Step). Leads x.0) (sym (copied_passed keeps (record p { spot = Closed }) c (ap (λ k. not k && keeps_at keeps p.field) f))) (inl f)

  first_entered : (p : Place) (s : Spot) (c : ℕ) → p.is_first ≡ true → p.marked ≡ 3 → Leads (entered header keeps p s c).0
  first_entered p Before c f m = inl f
  first_entered p Field c f m = first_inside (record p { has_given = is_kept keeps p }) Field c f m
  first_entered p Plain c f m = first_inside (record p { has_given = is_kept keeps p }) Plain c f m
  first_entered p Quoted c f m = first_inside (record p { has_given = is_kept keeps p }) Quoted c f m
  first_entered p Closed c f m = first_inside (record p { has_given = is_kept keeps p }) Closed c f m

  first_at : (p : Place) (s : Spot) (c : ℕ) → p.is_first ≡ true → p.marked ≡ 3 → Leads (stepped header keeps (record p { spot = s }) c).0
  first_at p Before c f m = first_entered (record p { spot = Before }) (next_spot Before c) c f m
  first_at p Field c f m = first_inside (record p { spot = Field }) (next_spot Field c) c f m
  first_at p Plain c f m = first_inside (record p { spot = Plain }) (next_spot Plain c) c f m
  first_at p Quoted c f m = first_inside (record p { spot = Quoted }) (next_spot Quoted c) c f m
  first_at p Closed c f m = first_inside (record p { spot = Closed }) (next_spot Closed c) c f m

  first_taken : (p : Place) (c : ℕ) → p.is_first ≡ true → Leads (taken header keeps p c).0
  first_taken p c f = by_mark (is_mark p c)
    where
      by_mark : (b : Bool) → Leads (cond {A = Step} b (record p { marked = p.marked + 1 }, []) (stepped header keeps (unmarked p) c)).0
      by_mark true = inl f
      by_mark false = first_at (unmarked p) (unmarked p).spot c f refl

  leads_taken : (p : Place) (c : ℕ) → Leads p → Leads (taken header keeps p c).0
  leads_taken p c (inl f) = first_taken p c f
  leads_taken p c (inr h) = inr (goes_taken p c h).place

  leads_after : (xs : List ℕ) (p : Place) → Leads p → Leads (place_after header keeps p xs)
  leads_after [] p h = h
  leads_after (c ∷ cs) p h = leads_after cs (taken header keeps p c).0 (leads_taken p c h)

  is_behind : (p : Place) → Leads p → p.is_first ≡ false → Behind p
  is_behind p (inl f) e = absurd (true≢false (sym f ∙ e))
  is_behind p (inr h) e = h

-- what goes on of a part of a text, and then of the others
parts : (header : List ℕ) (keeps : List Bool) (block xs : List ℕ) (p : Place)
    → going_on header keeps p block ++ rewritten_from header keeps (place_after header keeps p block) xs ≡ rewritten_from header keeps p (block ++ xs)
parts header keeps [] xs p = refl
parts header keeps (c ∷ cs) xs p =
    let s = taken header keeps p c in
    append_assoc s.1 (going_on header keeps s.0 cs) _
    ∙ ap (λ ys. s.1 ++ ys) (parts header keeps cs xs s.0)
    ∙ sym (all_step header keeps p c (cs ++ xs))

not_false : (b : Bool) → not b ≡ true → b ≡ false
not_false true h = absurd (true≢false (sym h))
not_false false h = refl

still_first : (f k : Bool) → (not f && k) ≡ false → k ≡ true → f ≡ true
still_first true k h e = refl
still_first false k h e = absurd (true≢false (sym e ∙ h))

-- the same, where the others may go on as they are
pub goes_on : (header : List ℕ) (keeps : List Bool) (p : Place) (block xs : List ℕ) → goes_by keeps p ≡ false
    → going_on header keeps p block ++ cond (goes_by keeps (place_after header keeps p block)) xs (rewritten_from header keeps (place_after header keeps p block) xs)
    ≡ rewritten_from header keeps p (block ++ xs)
goes_on header keeps p block xs h =
    let q = place_after header keeps p block in
    let rest = rewritten_from header keeps q xs in
    let given = going_on header keeps p block in
    by_bool (goes_by keeps q)
    (λ e.
    let each = both_true (not q.is_first) (keeps_all keeps) e in
    let led = leads_after header keeps each.1 block p (inl (still_first p.is_first (keeps_all keeps) h each.1)) in
    let behind = is_behind header keeps each.1 q led (not_false q.is_first each.0) in
    ap (λ b. given ++ cond b xs rest) e ∙ ap (λ ys. given ++ ys) (sym (as_it_is header keeps each.1 xs q behind)))
    (λ e. ap (λ b. given ++ cond b xs rest) e)
    ∙ parts header keeps block xs p
