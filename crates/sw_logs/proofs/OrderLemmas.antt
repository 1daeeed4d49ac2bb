-- What the first places of an order keep, and one place more.
use Rattle.std.proofs.Common.{◌≡◌, ◌∙◌, ◌<◌, ◌≤◌, ◌≢◌, ◌⊎◌, ◌+◌, ◌++◌, inl, inr, sym, ap, subst, refl, ℕ, zero, suc, Bool, true, false, List, [], ◌∷◌, length, get_or, set, take, replicate, Some, arith, below_more, max, length-set}
use Rattle.std.specs.List.{slice_get}
use Rattle.std.proofs.lemmas.List.{get_or-set_same, get_or-set_other, take_all, take_more}
use Rattle.std.proofs.lemmas.Option.{slice_get_read, slice_get_within, slice_get-get_or}
use Rattle.sw_query.specs.declared.query.Call.{Call}
use Rattle.sw_spine.specs.History.{AllBelow, CallsBelow}
use Rattle.sw_spine.specs.declared.history.Entry.{Entry}
use Rattle.sw_logs.specs.Orders.{AllFit, AreEntriesOf, AreNumbersOf, HasKnown, IsEntryAt, IsEntryOf, KeepsSessions, KeepsTimes, StandsAt, is_known}
use Rattle.sw_logs.specs.Steps.{AreSeen, IsMarked, IsRaised, StartsOn}
use Rattle.sw_logs.specs.declared.logged.Logged.{Logged}

-- ---- entries

-- a number more, and its entry, behind numbers and their entries
pub entries_more : (calls : List Logged) (is : List ℕ) (es : List Entry) (i : ℕ) (e : Entry) → AreEntriesOf calls is es → IsEntryAt calls i e → AreEntriesOf calls (is ++ i ∷ []) (es ++ e ∷ [])
entries_more calls [] [] i e all here = (here, tt)
entries_more calls [] (x ∷ es) i e all here = absurd all
entries_more calls (j ∷ is) [] i e all here = absurd all
entries_more calls (j ∷ is) (x ∷ es) i e all here = (all.0, entries_more calls is es i e all.1 here)

-- the number at a place
there : (places : List ℕ) (k : ℕ) → k < length places → slice_get places k ≡ Some (get_or places k 0)
there places k lt = slice_get-get_or places k 0 lt

-- the call at a place
pub stands : (calls : List Logged) (places : List ℕ) (k : ℕ) (c : Logged) → k < length places → get_or places k 0 < length calls → c ≡ get_or calls (get_or places k 0) c → StandsAt calls places k (get_or places k 0) c
stands calls places k c lt within is = (there places k lt, slice_get_read calls (length calls) (get_or places k 0) c refl within is)

-- the same by the place that a walk over an order has come to
pub entries_step : (calls : List Logged) (places : List ℕ) (k : ℕ) (es new : List Entry) (c : Logged) (e : Entry) → AreNumbersOf calls places → k < length places → c ≡ get_or calls (get_or places k 0) c → IsEntryOf c e → new ≡ es ++ e ∷ [] → AreEntriesOf calls (take k places) es → AreEntriesOf calls (take (k + 1) places) new
entries_step calls places k es new c e numbers lt is entry_is grown all =
    let at : IsEntryAt calls (get_or places k 0) e = (c, (stands calls places k c lt (numbers k lt) is).1, entry_is) in
    let more = entries_more calls (take k places) es (get_or places k 0) e all at in
    subst (λ (l : List Entry). AreEntriesOf calls (take (k + 1) places) l) (sym grown) (subst (λ (ns : List ℕ). AreEntriesOf calls ns (es ++ e ∷ [])) (sym (take_more places k 0 lt)) more)

-- a walk that has passed every place has the entries of the whole order
pub entries_all : (calls : List Logged) (places : List ℕ) (k : ℕ) (es : List Entry) → length places ≤ k → AreEntriesOf calls (take k places) es → AreEntriesOf calls places es
entries_all calls places k es past all = subst (λ (ns : List ℕ). AreEntriesOf calls ns es) (take_all k places past) all

-- ---- each call once

-- where a walk begins no number is flagged
pub none_flagged : (n i : ℕ) → get_or (replicate n false) i false ≡ false
none_flagged zero i = refl
none_flagged (suc n) zero = refl
none_flagged (suc n) (suc i) = none_flagged n i

-- of two places before k, the earlier has another number
abbrev pub OnceBelow : ℕ → List ℕ → Type 0
OnceBelow k places = (p q i : ℕ) → p < k → q < k → slice_get places p ≡ Some i → slice_get places q ≡ Some i → p ≡ q

-- each number at a place before k is flagged
abbrev pub FlaggedBelow : ℕ → List ℕ → List Bool → Type 0
FlaggedBelow k places seen = (p i : ℕ) → p < k → slice_get places p ≡ Some i → get_or seen i false ≡ true

eq_or : (m n : ℕ) → (m ≡ n) ⊎ (m ≢ n)
eq_or zero zero = inl refl
eq_or zero (suc n) = inr (λ e. omega arith)
eq_or (suc m) zero = inr (λ e. omega arith)
eq_or (suc m) (suc n) = elim (eq_or m n) [ inl e ↦ inl (ap suc e) | inr d ↦ inr (λ e. d (omega arith)) ]

some_same : {X : Type 0} (x y : X) → Some x ≡ Some y → x ≡ y
some_same x y h = cc

-- a place whose number was not flagged keeps that each stands once
pub once_more : (places : List ℕ) (seen : List Bool) (k x : ℕ) → slice_get places k ≡ Some x → get_or seen x false ≡ false → OnceBelow k places → FlaggedBelow k places seen → OnceBelow (k + 1) places
once_more places seen k x here new once flagged = λ p q i lp lq sp sq. below_more (λ (p : ℕ). (q : ℕ) → q < k + 1 → slice_get places p ≡ Some i → slice_get places q ≡ Some i → p ≡ q) k
    (λ p lp q lq. below_more (λ (q : ℕ). slice_get places p ≡ Some i → slice_get places q ≡ Some i → p ≡ q) k (λ q lq sp sq. once p q i lp lq sp sq) (λ sp sq. absurd (clash i p lp sp sq)) q lq)
    (λ q lq. below_more (λ (q : ℕ). slice_get places k ≡ Some i → slice_get places q ≡ Some i → k ≡ q) k (λ q lq sp sq. absurd (clash i q lq sq sp)) (λ sp sq. refl) q lq)
    p lp q lq sp sq
  where
    clash : (i p : ℕ) → p < k → slice_get places p ≡ Some i → slice_get places k ≡ Some i → ⊥
    clash i p lp sp sk =
        let same : x ≡ i = some_same x i (sym here ∙ sk) in
        let was : get_or seen i false ≡ true = flagged p i lp sp in
        let is : get_or seen i false ≡ false = subst (λ (j : ℕ). get_or seen j false ≡ false) same new in
        let both : true ≡ false = sym was ∙ is in
        absurd cc

flag_kept : (seen : List Bool) (x i : ℕ) → (i ≡ x) ⊎ (i ≢ x) → x < length seen → get_or seen i false ≡ true → get_or (set seen x true) i false ≡ true
flag_kept seen x i (inl same) within was = subst (λ (j : ℕ). get_or (set seen x true) j false ≡ true) (sym same) (get_or-set_same seen x true false within)
flag_kept seen x i (inr apart) within was = get_or-set_other seen x i true false apart ∙ was

-- it is flagged then
pub flagged_more : (places : List ℕ) (seen : List Bool) (k x : ℕ) → slice_get places k ≡ Some x → x < length seen → FlaggedBelow k places seen → FlaggedBelow (k + 1) places (set seen x true)
flagged_more places seen k x here within flagged = λ p i lp sp. below_more (λ (p : ℕ). slice_get places p ≡ Some i → get_or (set seen x true) i false ≡ true) k
    (λ p lp sp. flag_kept seen x i (eq_or i x) within (flagged p i lp sp))
    (λ sp. subst (λ (j : ℕ). get_or (set seen x true) j false ≡ true) (some_same x i (sym here ∙ sp)) (get_or-set_same seen x true false within))
    p lp sp

-- what is flagged stands in the order, with one flag more
pub seen_more : (places : List ℕ) (seen : List Bool) (k x : ℕ) → slice_get places k ≡ Some x → x < length seen → AreSeen places seen → AreSeen places (set seen x true)
seen_more places seen k x here within all = λ i h. at i (eq_or i x) h
  where
    at : (i : ℕ) → (i ≡ x) ⊎ (i ≢ x) → get_or (set seen x true) i false ≡ true → (p : ℕ) × (slice_get places p ≡ Some i)
    at i (inl same) h = (k, here ∙ ap (λ (j : ℕ). Some j) (sym same))
    at i (inr apart) h = all i (sym (get_or-set_other seen x i true false apart) ∙ h)

-- what is known of the first places
pub record MarkedBelow (k count : ℕ) (places : List ℕ) (seen : List Bool) : Type 0 where
  pub many : length seen ≡ count
  pub once : OnceBelow k places
  pub flagged : FlaggedBelow k places seen
  pub seen_are : AreSeen places seen

-- the flags where a walk begins
pub marked_none : (count : ℕ) (places : List ℕ) (seen : List Bool) → length seen ≡ count → ((i : ℕ) → get_or seen i false ≡ false) → MarkedBelow 0 count places seen
marked_none count places seen many none = record {
  many = many;
  once = λ p q i lp lq sp sq. absurd (omega arith);
  flagged = λ p i lp sp. absurd (omega arith);
  seen_are = λ i h. absurd (clash (none i) h);
}
  where
    clash : {b : Bool} → b ≡ false → b ≡ true → ⊥
    clash f t = absurd cc

-- the flags at the next place, whose number was not flagged
pub marked_step : (count : ℕ) (places : List ℕ) (k : ℕ) (seen : List Bool) → k < length places → get_or places k 0 < count → get_or seen (get_or places k 0) false ≡ false → MarkedBelow k count places seen → MarkedBelow (k + 1) count places (set seen (get_or places k 0) true)
marked_step count places k seen lt within fresh m =
    let x = get_or places k 0 in
    let in_range : x < length seen = omega (arith, m.many, within) in
    record {
      many = length-set seen x true ∙ m.many;
      once = once_more places seen k x (there places k lt) fresh m.once m.flagged;
      flagged = flagged_more places seen k x (there places k lt) in_range m.flagged;
      seen_are = seen_more places seen k x (there places k lt) in_range m.seen_are;
    }

-- at the end of the walk the flags are just the numbers of the order
pub marked_all : (count : ℕ) (places : List ℕ) (k : ℕ) (seen : List Bool) → length places ≤ k → MarkedBelow k count places seen → IsMarked count places seen
marked_all count places k seen past m = record {
  many = m.many;
  once = λ p q i sp sq. m.once p q i (below p i sp) (below q i sq) sp sq;
  seen_are = m.seen_are;
}
  where
    below : (p i : ℕ) → slice_get places p ≡ Some i → p < k
    below p i sp = let lt = slice_get_within places p i sp in omega (arith, lt, past)

-- ---- calls of known outcome

-- of the calls before k, those with a reply stand in the order
abbrev pub KnownBelow : ℕ → List Logged → List ℕ → Type 0
KnownBelow k calls places = (i : ℕ) (c : Logged) → i < k → slice_get calls i ≡ Some c → is_known c ≡ true → (p : ℕ) × (slice_get places p ≡ Some i)

-- one call more, which stands in it if it has a reply
pub known_more : (calls : List Logged) (places : List ℕ) (k : ℕ) (c : Logged) → slice_get calls k ≡ Some c → (is_known c ≡ true → (p : ℕ) × (slice_get places p ≡ Some k)) → KnownBelow k calls places → KnownBelow (k + 1) calls places
known_more calls places k c here there known = λ i d li si kd. below_more (λ (i : ℕ). (d : Logged) → slice_get calls i ≡ Some d → is_known d ≡ true → (p : ℕ) × (slice_get places p ≡ Some i)) k
    (λ i li d si kd. known i d li si kd)
    (λ d si kd. there (subst (λ (x : Logged). is_known x ≡ true) (some_same d c (sym si ∙ here)) kd))
    i li d si kd

-- the same where its flag tells
pub known_step : (calls : List Logged) (places : List ℕ) (seen : List Bool) (n : ℕ) (c : Logged) → n < length calls → c ≡ get_or calls n c → AreSeen places seen → (is_known c ≡ true → get_or seen n false ≡ true) → KnownBelow n calls places → KnownBelow (n + 1) calls places
known_step calls places seen n c lt is seen_are flagged known = known_more calls places n c (slice_get_read calls (length calls) n c refl lt is) (λ kd. seen_are n (flagged kd)) known

-- at the end of the walk each call with a reply stands in the order
pub known_all : (calls : List Logged) (places : List ℕ) (n : ℕ) → length calls ≤ n → KnownBelow n calls places → HasKnown calls places
known_all calls places n past known = λ i c si kd. let lt = slice_get_within calls i c si in known i c (omega (arith, lt, past)) si kd

-- ---- times

-- no call at a place before k started after the latest
abbrev pub StartedBelow : ℕ → List Logged → List ℕ → ℕ → Type 0
StartedBelow k calls places latest = (p i : ℕ) (c : Logged) → p < k → StandsAt calls places p i c → c.start ≤ latest

-- no call before place k started later than a known call behind it ended, but for the slack
abbrev pub TimesBelow : ℕ → ℕ → List Logged → List ℕ → Type 0
TimesBelow k slack calls places =
    (p q i j : ℕ) (c d : Logged) → p < q → q < k → StandsAt calls places p i c → StandsAt calls places q j d
    → is_known d ≡ true → c.start ≤ d.end + slack

-- the call at a place is one
pub same_call : (calls : List Logged) (places : List ℕ) (k i j : ℕ) (c d : Logged) → StandsAt calls places k i c → StandsAt calls places k j d → (i ≡ j) × (c ≡ d)
same_call calls places k i j c d one other =
    let number : i ≡ j = some_same i j (sym one.0 ∙ other.0) in
    (number, some_same c d (sym one.1 ∙ (ap (λ (n : ℕ). slice_get calls n) number ∙ other.1)))

-- the latest start with one place more
pub started_more : (calls : List Logged) (places : List ℕ) (k x : ℕ) (c : Logged) (latest : ℕ) → StandsAt calls places k x c → StartedBelow k calls places latest → StartedBelow (k + 1) calls places (max latest c.start)
started_more calls places k x c latest here started = λ p i d lp sd. below_more (λ (p : ℕ). StandsAt calls places p i d → d.start ≤ max latest c.start) k
    (λ p lp sd. let le = started p i d lp sd in omega (arith, le))
    (λ sd. let same : d.start ≡ c.start = ap (λ (z : Logged). z.start) (same_call calls places k i x d c sd here).1 in omega (arith, same))
    p lp sd

-- a known call that ended after the latest start, or within the slack, keeps the times
pub times_more : (calls : List Logged) (places : List ℕ) (k slack x : ℕ) (c : Logged) (latest : ℕ) → StandsAt calls places k x c → (is_known c ≡ true → latest ≤ c.end + slack) → StartedBelow k calls places latest → TimesBelow k slack calls places → TimesBelow (k + 1) slack calls places
times_more calls places k slack x c latest here ends started kept = λ p q i j a b pq lq sa sb kb. below_more (λ (q : ℕ). (p : ℕ) → p < q → StandsAt calls places p i a → StandsAt calls places q j b → is_known b ≡ true → a.start ≤ b.end + slack) k
    (λ q lq p pq sa sb kb. kept p q i j a b pq lq sa sb kb)
    (λ p pq sa sb kb. last p pq i j a b sa sb kb)
    q lq p pq sa sb kb
  where
    last : (p : ℕ) → p < k → (i j : ℕ) (a b : Logged) → StandsAt calls places p i a → StandsAt calls places k j b → is_known b ≡ true → a.start ≤ b.end + slack
    last p pq i j a b sa sb kb =
        let same : b ≡ c = (same_call calls places k j x b c sb here).1 in
        let le = started p i a pq sa in
        let ge = ends (subst (λ (z : Logged). is_known z ≡ true) same kb) in
        let e : b.end ≡ c.end = ap (λ (z : Logged). z.end) same in
        omega (arith, le, ge, e)

-- what a walk knows of times before place k
pub record OnTimeBelow (k slack : ℕ) (calls : List Logged) (places : List ℕ) (latest : ℕ) : Type 0 where
  pub started : StartedBelow k calls places latest
  pub kept : TimesBelow k slack calls places

-- it knows that where it begins
pub on_time_none : (slack : ℕ) (calls : List Logged) (places : List ℕ) (latest : ℕ) → OnTimeBelow 0 slack calls places latest
on_time_none slack calls places latest = record {
  started = λ p i c lp s. absurd (omega arith);
  kept = λ p q i j c d pq lq sp sq kd. absurd (omega arith);
}

-- it knows it at the next place
pub on_time_step : (slack : ℕ) (calls : List Logged) (places : List ℕ) (k : ℕ) (latest next : ℕ) (c : Logged) → AreNumbersOf calls places → k < length places → c ≡ get_or calls (get_or places k 0) c → StartsOn c slack latest next → OnTimeBelow k slack calls places latest → OnTimeBelow (k + 1) slack calls places next
on_time_step slack calls places k latest next c numbers lt is on m =
    let here = stands calls places k c lt (numbers k lt) is in
    record {
      started = subst (λ (n : ℕ). StartedBelow (k + 1) calls places n) (sym on.1) (started_more calls places k (get_or places k 0) c latest here m.started);
      kept = times_more calls places k slack (get_or places k 0) c latest here on.0 m.started m.kept;
    }

-- at the end of the walk the order keeps its times
pub on_time_all : (slack : ℕ) (calls : List Logged) (places : List ℕ) (k latest : ℕ) → length places ≤ k → OnTimeBelow k slack calls places latest → KeepsTimes slack calls places
on_time_all slack calls places k latest past m = λ p q i j c d pq sp sq kd. let lt = slice_get_within places q j sq.0 in m.kept p q i j c d pq (omega (arith, lt, past)) sp sq kd

-- ---- sessions

-- of each session, the number from which its next call may come is above those before place k
abbrev pub RaisedBelow : ℕ → List Logged → List ℕ → List ℕ → Type 0
RaisedBelow k calls places after = (p i : ℕ) (c : Logged) → p < k → StandsAt calls places p i c → i < get_or after c.session 0

-- of two calls of a session before place k, the later has the greater number
abbrev pub SessionsBelow : ℕ → List Logged → List ℕ → Type 0
SessionsBelow k calls places =
    (p q i j : ℕ) (c d : Logged) → p < q → q < k → StandsAt calls places p i c → StandsAt calls places q j d
    → c.session ≡ d.session → is_known d ≡ true → i < j

-- a mark that is raised, and the others
raised : (after : List ℕ) (s n t : ℕ) → s < length after → get_or after t 0 ≤ get_or (set after s (max (get_or after s 0) n)) t 0
raised after s n t within = at (eq_or t s)
  where
    at : (t ≡ s) ⊎ (t ≢ s) → get_or after t 0 ≤ get_or (set after s (max (get_or after s 0) n)) t 0
    at (inl same) =
        let e : get_or (set after s (max (get_or after s 0) n)) s 0 ≡ max (get_or after s 0) n = get_or-set_same after s (max (get_or after s 0) n) 0 within in
        subst (λ (u : ℕ). get_or after u 0 ≤ get_or (set after s (max (get_or after s 0) n)) u 0) (sym same) (omega (arith, e))
    at (inr apart) =
        let e = get_or-set_other after s t (max (get_or after s 0) n) 0 apart in
        omega (arith, e)

-- the session's number is raised behind its call
pub marked_more : (calls : List Logged) (places : List ℕ) (k x : ℕ) (c : Logged) (after : List ℕ) → StandsAt calls places k x c → c.session < length after → RaisedBelow k calls places after → RaisedBelow (k + 1) calls places (set after c.session (max (get_or after c.session 0) (x + 1)))
marked_more calls places k x c after here within marked = λ p i d lp sd. below_more (λ (p : ℕ). StandsAt calls places p i d → i < get_or (set after c.session (max (get_or after c.session 0) (x + 1))) d.session 0) k
    (λ p lp sd. let lt = marked p i d lp sd in let le = raised after c.session (x + 1) d.session within in omega (arith, lt, le))
    (λ sd. last i d sd)
    p lp sd
  where
    last : (i : ℕ) (d : Logged) → StandsAt calls places k i d → i < get_or (set after c.session (max (get_or after c.session 0) (x + 1))) d.session 0
    last i d sd =
        let both = same_call calls places k i x d c sd here in
        let number : i ≡ x = both.0 in
        let e : get_or (set after c.session (max (get_or after c.session 0) (x + 1))) c.session 0 ≡ max (get_or after c.session 0) (x + 1) = get_or-set_same after c.session (max (get_or after c.session 0) (x + 1)) 0 within in
        subst (λ (s : ℕ). i < get_or (set after c.session (max (get_or after c.session 0) (x + 1))) s 0) (sym (ap (λ (z : Logged). z.session) both.1)) (omega (arith, e, number))

-- a call whose number is not below its session's keeps the sessions
pub sessions_more : (calls : List Logged) (places : List ℕ) (k x : ℕ) (c : Logged) (after : List ℕ) → StandsAt calls places k x c → (is_known c ≡ true → get_or after c.session 0 ≤ x) → RaisedBelow k calls places after → SessionsBelow k calls places → SessionsBelow (k + 1) calls places
sessions_more calls places k x c after here ahead marked kept = λ p q i j a b pq lq sa sb same kb. below_more (λ (q : ℕ). (p : ℕ) → p < q → StandsAt calls places p i a → StandsAt calls places q j b → a.session ≡ b.session → is_known b ≡ true → i < j) k
    (λ q lq p pq sa sb same kb. kept p q i j a b pq lq sa sb same kb)
    (λ p pq sa sb same kb. last p pq i j a b sa sb same kb)
    q lq p pq sa sb same kb
  where
    last : (p : ℕ) → p < k → (i j : ℕ) (a b : Logged) → StandsAt calls places p i a → StandsAt calls places k j b → a.session ≡ b.session → is_known b ≡ true → i < j
    last p pq i j a b sa sb same kb =
        let both = same_call calls places k j x b c sb here in
        let number : j ≡ x = both.0 in
        let lt = marked p i a pq sa in
        let session : a.session ≡ c.session = same ∙ ap (λ (z : Logged). z.session) both.1 in
        let low : i < get_or after c.session 0 = subst (λ (s : ℕ). i < get_or after s 0) session lt in
        let high = ahead (subst (λ (z : Logged). is_known z ≡ true) both.1 kb) in
        omega (arith, low, high, number)

-- what a walk knows of sessions before place k
pub record InOrderBelow (k : ℕ) (calls : List Logged) (places from : List ℕ) : Type 0 where
  pub raised : RaisedBelow k calls places from
  pub kept : SessionsBelow k calls places

-- it knows that where it begins
pub in_order_none : (calls : List Logged) (places from : List ℕ) → InOrderBelow 0 calls places from
in_order_none calls places from = record {
  raised = λ p i c lp s. absurd (omega arith);
  kept = λ p q i j c d pq lq sp sq same kd. absurd (omega arith);
}

-- it knows it at the next place
pub in_order_step : (calls : List Logged) (places : List ℕ) (k : ℕ) (from new : List ℕ) (c : Logged) → AreNumbersOf calls places → k < length places → c ≡ get_or calls (get_or places k 0) c → IsRaised c (get_or places k 0) from new → InOrderBelow k calls places from → InOrderBelow (k + 1) calls places new
in_order_step calls places k from new c numbers lt is r m =
    let here = stands calls places k c lt (numbers k lt) is in
    record {
      raised = subst (λ (l : List ℕ). RaisedBelow (k + 1) calls places l) (sym r.raised) (marked_more calls places k (get_or places k 0) c from here r.within m.raised);
      kept = sessions_more calls places k (get_or places k 0) c from here r.ahead m.raised m.kept;
    }

-- at the end of the walk the order keeps its sessions
pub in_order_all : (calls : List Logged) (places : List ℕ) (k : ℕ) (from : List ℕ) → length places ≤ k → InOrderBelow k calls places from → KeepsSessions calls places
in_order_all calls places k from past m = λ p q i j c d pq sp sq same kd. let lt = slice_get_within places q j sq.0 in m.kept p q i j c d pq (omega (arith, lt, past)) sp sq same kd

-- ---- the record

-- one call more fits behind calls that fit
pub fit_push : (n : ℕ) (cs : List Logged) (c : Logged) → AllFit n cs → CallsBelow n c.call → AllFit n (cs ++ c ∷ [])
fit_push n [] c all here = (here, tt)
fit_push n (x ∷ cs) c all here = (all.0, fit_push n cs c all.1 here)

fit_at : (n : ℕ) (calls : List Logged) (i : ℕ) (c : Logged) → AllFit n calls → slice_get calls i ≡ Some c → CallsBelow n c.call
fit_at n [] i c all here = absurd cc
fit_at n (x ∷ calls) zero c all here = subst (λ (z : Logged). CallsBelow n z.call) (some_same x c here) all.0
fit_at n (x ∷ calls) (suc i) c all here = fit_at n calls i c all.1 here

-- entries of calls that fit are below the columns' number
pub entries_below : (n : ℕ) (calls : List Logged) (places : List ℕ) (es : List Entry) → AllFit n calls → AreEntriesOf calls places es → AllBelow n es
entries_below n calls [] [] fit all = tt
entries_below n calls [] (e ∷ es) fit all = absurd all
entries_below n calls (i ∷ is) [] fit all = absurd all
entries_below n calls (i ∷ is) (e ∷ es) fit all =
    (subst (λ (k : Call). CallsBelow n k) (sym all.0.2.call) (fit_at n calls i all.0.0 fit all.0.1), entries_below n calls is es fit all.1)

-- there are as many entries as numbers
pub entries_many : (calls : List Logged) (places : List ℕ) (es : List Entry) → AreEntriesOf calls places es → length es ≡ length places
entries_many calls [] [] all = refl
entries_many calls [] (e ∷ es) all = absurd all
entries_many calls (i ∷ is) [] all = absurd all
entries_many calls (i ∷ is) (e ∷ es) all = ap suc (entries_many calls is es all.1)
