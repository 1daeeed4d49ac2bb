-- Bytes that belong to the field at hand.
use Rattle.std.proofs.Common.{◌≡◌, ◌∙◌, ap, sym, refl, subst, ℕ, ◌+◌, ◌<◌, ◌≤◌, ◌==◌, ◌||◌, ◌&&◌, Bool, true, false, cond, not, List, [], ◌∷◌, ◌++◌, length, nat_lt, position, replicate, take, Some, None, arith, add-one, one-add, append_assoc, true≢false}
use Rattle.std.proofs.lemmas.Bool.Decides.{nat_tests}
use Rattle.std.proofs.lemmas.List.{take_all}
use Rattle.std.specs.List.{list_all, position_or_len, prefix_len}
use Rattle.sw_headers.specs.declared.rewriting.Spot.{Spot}
use Rattle.sw_headers.specs.declared.rewriting.Spot.TheVariants.{Before, Field, Plain, Quoted, Closed}
use Rattle.sw_headers.specs.declared.rewriting.Place.{Place}
use Rattle.sw_headers.specs.declared.rewriting.Rewriter.{Rewriter}
use Rattle.sw_headers.specs.Steps.{Goes, Step, TakesIn, copied, copied_run, fed, going_on, inside, is_kept, is_line_end, missed_after, missed_in, place_after, stays, taken}

-- what holds where a test is met, and where it is not, holds
pub by_bool : {G : Type 0} (b : Bool) → (b ≡ true → G) → (b ≡ false → G) → G
by_bool true f g = f refl
by_bool false f g = g refl

-- the bytes before the first that does not pass a test pass it
prefix_more : (p : ℕ → Bool) (x : ℕ) (xs : List ℕ) (n : ℕ) (b : Bool) → p x ≡ b → list_all p (take n xs) ≡ true → list_all p (take (cond b (1 + n) 0) (x ∷ xs)) ≡ true
prefix_more p x xs n true e h = ap (λ k. list_all p (take k (x ∷ xs))) (one-add n) ∙ ap (λ b. b && list_all p (take n xs)) e ∙ h
prefix_more p x xs n false e h = refl

prefix_stays : (p : ℕ → Bool) (xs : List ℕ) → list_all p (take (prefix_len p xs) xs) ≡ true
prefix_stays p [] = refl
prefix_stays p (x ∷ xs) = prefix_more p x xs (prefix_len p xs) (p x) refl (prefix_stays p xs)

found_at : (b : Bool) (at end : ℕ) → cond b (Some at) None ≡ Some end → at ≡ end
found_at true at end h = grind (arith, h)
found_at false at end h = cc

found_none : (b : Bool) (at : ℕ) → cond b (Some at) None ≡ None → b ≡ false
found_none true at h = cc
found_none false at h = refl

-- the bytes before the first that meets a test do not meet it
pub some_stays : (p : ℕ → Bool) (xs : List ℕ) (end : ℕ) → position p xs ≡ Some end → list_all (λ c. not (p c)) (take end xs) ≡ true
some_stays p xs end h = subst (λ n. list_all (λ c. not (p c)) (take n xs) ≡ true) (found_at _ _ end h) (prefix_stays (λ c. not (p c)) xs)

-- where no byte is found that meets a test, none meets it
pub none_stays : (p : ℕ → Bool) (xs : List ℕ) → position p xs ≡ None → list_all (λ c. not (p c)) (take (length xs) xs) ≡ true
none_stays p xs h =
    let test : nat_lt (position_or_len p xs) (length xs) ≡ false = found_none _ _ h in
    let long : length xs ≤ position_or_len p xs = grind (arith, nat_tests, test) in
    let same : take (position_or_len p xs) xs ≡ take (length xs) xs = take_all (position_or_len p xs) xs long ∙ sym (take_all (length xs) xs (omega arith)) in
    subst (λ ys. list_all (λ c. not (p c)) ys ≡ true) same (prefix_stays (λ c. not (p c)) xs)

-- ---- a byte that stays is copied

no_separator : (header : List ℕ) (keeps : List Bool) (p : Place) (c : ℕ) (d e : Bool) → not (d || e) ≡ true
    → inside header keeps p (cond d Field (cond e Before Plain)) c ≡ copied keeps (record p { spot = Plain }) c
no_separator header keeps p c true e h = absurd (true≢false (sym h))
no_separator header keeps p c false true h = absurd (true≢false (sym h))
no_separator header keeps p c false false h = refl

no_quote : (header : List ℕ) (keeps : List Bool) (p : Place) (c : ℕ) (q : Bool) → not q ≡ true
    → inside header keeps p (cond q Closed Quoted) c ≡ copied keeps (record p { spot = Quoted }) c
no_quote header keeps p c true h = absurd (true≢false (sym h))
no_quote header keeps p c false h = refl

stays_at : (header : List ℕ) (keeps : List Bool) (p : Place) (s : Spot) (c : ℕ) → stays s c ≡ true
    → taken header keeps (record p { spot = s; marked = 3 }) c ≡ copied keeps (record p { spot = s; marked = 3 }) c
stays_at header keeps p Before c h = absurd (true≢false (sym h))
stays_at header keeps p Field c h = absurd (true≢false (sym h))
stays_at header keeps p Closed c h = absurd (true≢false (sym h))
stays_at header keeps p Plain c h = no_separator header keeps (record p { spot = Plain; marked = 3 }) c (c == 44) (is_line_end c) h
stays_at header keeps p Quoted c h = no_quote header keeps (record p { spot = Quoted; marked = 3 }) c (c == 34) h

stays_copied : (header : List ℕ) (keeps : List Bool) (p : Place) (c : ℕ) → p.marked ≡ 3 → stays p.spot c ≡ true → taken header keeps p c ≡ copied keeps p c
stays_copied header keeps p c m h = subst (λ n. taken header keeps (record p { marked = n }) c ≡ copied keeps (record p { marked = n }) c) (sym m) (stays_at header keeps p p.spot c h)

-- ---- a run of them

abbrev copied_by : Bool → Place → ℕ → Step
copied_by b p c = cond b (record p { has_bytes = true }, c ∷ []) (record p { missed = missed_after p.missed c }, [])

-- one after another
abbrev copies : Bool → Place → List ℕ → Step
copies b p [] = (p, [])
copies b p (c ∷ cs) = ((copies b (copied_by b p c).0 cs).0, (copied_by b p c).1 ++ (copies b (copied_by b p c).0 cs).1)

copies_kept : (p : Place) (c : ℕ) (cs : List ℕ) → copies true p (c ∷ cs) ≡ (record p { has_bytes = true }, c ∷ cs)
copies_kept p c [] = refl
copies_kept p c (d ∷ cs) = ap (λ (s : Step). (s.0, c ∷ s.1)) (copies_kept (record p { has_bytes = true }) d cs)

copies_missed : (p : Place) (cs : List ℕ) → copies false p cs ≡ (record p { missed = missed_in p.missed cs }, [])
copies_missed p [] = refl
copies_missed p (c ∷ cs) = copies_missed (record p { missed = missed_after p.missed c }) cs

copies_run : (b : Bool) (p : Place) (c : ℕ) (cs : List ℕ) → copies b p (c ∷ cs) ≡ cond b (record p { has_bytes = true }, c ∷ cs) (record p { missed = missed_in p.missed (c ∷ cs) }, [])
copies_run true p c cs = copies_kept p c cs
copies_run false p c cs = copies_missed p (c ∷ cs)

-- what goes on behind a step
abbrev behind : List ℕ → List Bool → Step → List ℕ → Step
behind header keeps s more = (place_after header keeps s.0 more, s.1 ++ going_on header keeps s.0 more)

-- a step stays where it was
record Stays (keeps : List Bool) (p : Place) (s : Step) : Type 0 where
  pub spot : s.0.spot ≡ p.spot
  pub marked : s.0.marked ≡ p.marked
  pub kept : is_kept keeps s.0 ≡ is_kept keeps p

copied_stays : (keeps : List Bool) (b : Bool) (p : Place) (c : ℕ) → Stays keeps p (copied_by b p c)
copied_stays keeps true p c = record { spot = refl; marked = refl; kept = refl }
copied_stays keeps false p c = record { spot = refl; marked = refl; kept = refl }

-- where two tests hold together each does
pub both_true : (a b : Bool) → (a && b) ≡ true → (a ≡ true) × (b ≡ true)
both_true true b h = (refl, h)
both_true false b h = absurd (true≢false (sym h))

all_copied : (header : List ℕ) (keeps : List Bool) (p : Place) (run more : List ℕ) → p.marked ≡ 3 → list_all (stays p.spot) run ≡ true
    → fed header keeps p (run ++ more) ≡ behind header keeps (copies (is_kept keeps p) p run) more
all_copied header keeps p [] more m h = refl
all_copied header keeps p (c ∷ cs) more m h =
    let b = is_kept keeps p in
    let s = copied_by b p c in
    let each = both_true (stays p.spot c) (list_all (stays p.spot) cs) h in
    let same = copied_stays keeps b p c in
    let first : taken header keeps p c ≡ s = stays_copied header keeps p c m each.0 in
    let on = all_copied header keeps s.0 cs more (same.marked ∙ m) (subst (λ t. list_all (stays t) cs ≡ true) (sym same.spot) each.1) in
    let next = subst (λ k. fed header keeps s.0 (cs ++ more) ≡ behind header keeps (copies k s.0 cs) more) same.kept on in
    ap (λ (t : Step). behind header keeps t (cs ++ more)) first
    ∙ ap (λ (t : Step). (t.0, s.1 ++ t.1)) next
    ∙ ap (λ ys. (place_after header keeps (copies b s.0 cs).0 more, ys)) (sym (append_assoc s.1 (copies b s.0 cs).1 (going_on header keeps (copies b s.0 cs).0 more)))

-- a run is taken in at once
pub run_fed : (header : List ℕ) (keeps : List Bool) (p : Place) (c : ℕ) (cs more : List ℕ) → p.marked ≡ 3 → list_all (stays p.spot) (c ∷ cs) ≡ true
    → fed header keeps p ((c ∷ cs) ++ more) ≡ behind header keeps (copied_run keeps p (c ∷ cs)) more
run_fed header keeps p c cs more m h = all_copied header keeps p (c ∷ cs) more m h ∙ ap (λ (s : Step). behind header keeps s more) (copies_run (is_kept keeps p) p c cs)

-- one more byte of many
pub push_one : (a : List ℕ) (b n m : ℕ) → n ≡ m + 1 → (a ++ b ∷ []) ++ replicate m b ≡ a ++ replicate n b
push_one a b n m h = append_assoc a (b ∷ []) (replicate m b) ∙ ap (λ k. a ++ replicate k b) (sym (add-one m) ∙ sym h)

-- ---- what is left of a text

-- a step over the first byte takes that in, and leaves the others
pub takes_one : (old new : Rewriter) (text : List ℕ) (c : ℕ) (cs : List ℕ) → text ≡ c ∷ cs
    → Goes old new (taken old.header.record.items old.header.keeps.items old.place c) → TakesIn old new text cs
takes_one old new text c cs e goes =
    let h = old.header.record.items in
    let k = old.header.keeps.items in
    let s = taken h k old.place c in (
      goes.0,
      ap (place_after h k old.place) e ∙ ap (λ p. place_after h k p cs) (sym goes.1),
      ap (λ t. old.out.items ++ going_on h k old.place t) e
          ∙ sym (append_assoc old.out.items s.1 (going_on h k s.0 cs))
          ∙ ap (λ a. a ++ going_on h k s.0 cs) (sym goes.2)
          ∙ ap (λ p. new.out.items ++ going_on h k p cs) (sym goes.1),
      goes.3,
    )

takes_all : (old new : Rewriter) (text : List ℕ) (c : ℕ) (cs left : List ℕ) → text ≡ (c ∷ cs) ++ left → old.place.marked ≡ 3 → list_all (stays old.place.spot) (c ∷ cs) ≡ true
    → Goes old new (copied_run old.header.keeps.items old.place (c ∷ cs)) → TakesIn old new text left
takes_all old new text c cs left e m all goes =
    let h = old.header.record.items in
    let k = old.header.keeps.items in
    let s = copied_run k old.place (c ∷ cs) in
    let same = run_fed h k old.place c cs left m all in (
      goes.0,
      ap (place_after h k old.place) e ∙ ap (λ (t : Step). t.0) same ∙ ap (λ p. place_after h k p left) (sym goes.1),
      ap (λ t. old.out.items ++ going_on h k old.place t) e
          ∙ ap (λ (t : Step). old.out.items ++ t.1) same
          ∙ sym (append_assoc old.out.items s.1 (going_on h k s.0 left))
          ∙ ap (λ a. a ++ going_on h k s.0 left) (sym goes.2)
          ∙ ap (λ p. new.out.items ++ going_on h k p left) (sym goes.1),
      goes.3,
    )

-- a run of bytes that stay is taken in at once, and the others are left
pub takes_run : (old new : Rewriter) (text run left : List ℕ) → text ≡ run ++ left → 0 < length run → old.place.marked ≡ 3 → list_all (stays old.place.spot) run ≡ true
    → Goes old new (copied_run old.header.keeps.items old.place run) → TakesIn old new text left
takes_run old new text [] left e some m all goes = absurd (omega (arith, some))
takes_run old new text (c ∷ cs) left e some m all goes = takes_all old new text c cs left e m all goes
