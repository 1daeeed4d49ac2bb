-- Attributes over texts.
use Rattle.std.proofs.Common.{◌≡◌, ◌∙◌, ap, sym, refl, subst, ℕ, zero, suc, ◌+◌, ◌<◌, ◌≤◌, All, Bool, true, false, not, cond, true≢false, List, [], ◌∷◌, length, map, take, drop, get_or, slice_get, slice_index_or, position, bytes_eq, arith, Some, option_map, ◌||◌, ◌&&◌}
use Rattle.std.proofs.lemmas.Bool.{or_parts}
use Rattle.std.proofs.lemmas.List.{drop_all, drop_more, length-map}
use Rattle.std.proofs.lemmas.List.Elements.{All-cons, All-head, All-tail}
use Rattle.std.proofs.lemmas.Option.{slice_get-get_or, none-some, same_Some, slice_get-map, slice_get_within}
use Rattle.std.specs.List.{list_all, list_any, position_or_len}
use Rattle.sw_rows.specs.Domains.{Domain, IsDomain, IsOver, domain, is_of_texts, over, under}
use Rattle.sw_rows.specs.Domains as kind
use Rattle.sw_rows.specs.Header.{AreColumns, Column, IsSchema, has_texts, holding, is_known, is_name, kinds_of, names_differ, names_of, texts_of, texts_or}
use Rattle.sw_rows.specs.Texts.{AreTexts}
use Rattle.sw_rows.specs.declared.kind.Kind.{Kind}
use Rattle.sw_rows.specs.declared.kind.Kind.TheVariants as word
use Rattle.sw_rows.proofs.Schemas.ColumnLemmas.{Entries, shown}

abbrev Texts : Type 0
Texts = List (List ℕ)

-- ---- one domain

-- the texts that were put in last count
pub over_over : (ts us : Texts) (d : Domain) → over us (over ts d) ≡ over us d
over_over ts us kind.Int = refl
over_over ts us (kind.Fix places) = refl
over_over ts us kind.Flag = refl
over_over ts us (kind.Text own) = refl

over_domain : (ts us : Texts) (k : Kind) → over us (domain ts k) ≡ domain us k
over_domain ts us word.Int = refl
over_domain ts us (word.Fix places) = refl
over_domain ts us word.Flag = refl
over_domain ts us word.Text = refl

-- a domain is of texts whichever texts there are
pub of_texts_over : (ts : Texts) (d : Domain) → is_of_texts (over ts d) ≡ is_of_texts d
of_texts_over ts kind.Int = refl
of_texts_over ts (kind.Fix places) = refl
of_texts_over ts kind.Flag = refl
of_texts_over ts (kind.Text own) = refl

-- a domain of numbers has no texts
pub over_numbers : (ts : Texts) (d : Domain) → is_of_texts d ≡ false → over ts d ≡ d
over_numbers ts kind.Int h = refl
over_numbers ts (kind.Fix places) h = refl
over_numbers ts kind.Flag h = refl
over_numbers ts (kind.Text own) h = absurd (true≢false h)

sound_over : (ts : Texts) (d : Domain) → AreTexts ts → IsDomain d → IsDomain (over ts d)
sound_over ts kind.Int s h = tt
sound_over ts (kind.Fix places) s h = h
sound_over ts kind.Flag s h = tt
sound_over ts (kind.Text own) s h = s

is_over : (ts : Texts) (d : Domain) → IsOver ts (over ts d)
is_over ts kind.Int = tt
is_over ts (kind.Fix places) = tt
is_over ts kind.Flag = tt
is_over ts (kind.Text own) = refl

own_over : (ts : Texts) (d : Domain) → IsOver ts d → over ts d ≡ d
own_over ts kind.Int h = refl
own_over ts (kind.Fix places) h = refl
own_over ts kind.Flag h = refl
own_over ts (kind.Text own) h = ap kind.Text (sym h)

-- ---- attributes

-- the texts that a schema holds last count
pub holding_again : (ts us : Texts) (cs : List Column) → holding us (holding ts cs) ≡ holding us cs
holding_again ts us [] = refl
holding_again ts us (c ∷ cs) = ap (λ d. (c.0, d) ∷ holding us (holding ts cs)) (over_over ts us c.1) ∙ ap (λ ds. (c.0, over us c.1) ∷ ds) (holding_again ts us cs)

own_held : (ts : Texts) (cs : List Column) → All (λ c. IsOver ts c.1) cs → holding ts cs ≡ cs
own_held ts [] h = refl
own_held ts (c ∷ cs) h =
    ap (λ d. (c.0, d) ∷ holding ts cs) (own_over ts c.1 (All-head (λ c. IsOver ts c.1) c cs h))
    ∙ ap (λ ds. c ∷ ds) (own_held ts cs (All-tail (λ c. IsOver ts c.1) c cs h))

-- a schema stands over its own texts
pub schema_held : (s : List Column) → IsSchema s → holding (texts_of s) s ≡ s
schema_held s is = own_held (texts_of s) s is.shared

-- a schema has as many columns whichever texts it holds
pub holding_long : (ts : Texts) (cs : List Column) → length (holding ts cs) ≡ length cs
holding_long ts [] = refl
holding_long ts (c ∷ cs) = ap suc (holding_long ts cs)

-- and the same names
pub holding_names : (ts : Texts) (cs : List Column) → names_of (holding ts cs) ≡ names_of cs
holding_names ts [] = refl
holding_names ts (c ∷ cs) = ap (λ ns. c.0 ∷ ns) (holding_names ts cs)

-- and the same kinds, over these texts
pub holding_kinds : (ts : Texts) (cs : List Column) → kinds_of (holding ts cs) ≡ under ts (kinds_of cs)
holding_kinds ts [] = refl
holding_kinds ts (c ∷ cs) = ap (λ ds. over ts c.1 ∷ ds) (holding_kinds ts cs)

holding_known : (ts : Texts) (cs : List Column) (name : List ℕ) → is_known (holding ts cs) name ≡ is_known cs name
holding_known ts [] name = refl
holding_known ts (c ∷ cs) name = ap (λ b. bytes_eq name c.0 || b) (holding_known ts cs name)

holding_differ : (ts : Texts) (cs : List Column) → names_differ (holding ts cs) ≡ names_differ cs
holding_differ ts [] = refl
holding_differ ts (c ∷ cs) = ap (λ b. not b && names_differ (holding ts cs)) (holding_known ts cs c.0) ∙ ap (λ b. not (is_known cs c.0) && b) (holding_differ ts cs)

holding_named : (ts : Texts) (cs : List Column) → list_all (λ c. is_name c.0) (holding ts cs) ≡ list_all (λ c. is_name c.0) cs
holding_named ts [] = refl
holding_named ts (c ∷ cs) = ap (λ b. is_name c.0 && b) (holding_named ts cs)

-- and has an attribute of texts or has none, as before
pub holding_of_texts : (ts : Texts) (cs : List Column) → has_texts (holding ts cs) ≡ has_texts cs
holding_of_texts ts [] = refl
holding_of_texts ts (c ∷ cs) = ap (λ b. b || has_texts (holding ts cs)) (of_texts_over ts c.1) ∙ ap (λ b. is_of_texts c.1 || b) (holding_of_texts ts cs)

holding_places : (ts : Texts) (cs : List Column) (name : List ℕ) → position_or_len (λ (c : Column). bytes_eq name c.0) (holding ts cs) ≡ position_or_len (λ (c : Column). bytes_eq name c.0) cs
holding_places ts [] name = refl
holding_places ts (c ∷ cs) name = ap (λ n. cond (not (bytes_eq name c.0)) (1 + n) 0) (holding_places ts cs name)

-- a name is found where it stood
pub holding_place : (ts : Texts) (cs : List Column) (name : List ℕ) → position (λ (c : Column). bytes_eq name c.0) (holding ts cs) ≡ position (λ (c : Column). bytes_eq name c.0) cs
holding_place ts cs name = cc (holding_places ts cs name, holding_long ts cs)

none_of : (P : Column → Type 0) → All P []
none_of P k d lt = absurd (omega arith)

domains_over : (ts : Texts) (cs : List Column) → AreTexts ts → All (λ c. IsDomain c.1) cs → All (λ c. IsDomain c.1) (holding ts cs)
domains_over ts [] s h = none_of (λ c. IsDomain c.1)
domains_over ts (c ∷ cs) s h = All-cons (λ c. IsDomain c.1) (c.0, over ts c.1) (holding ts cs) (sound_over ts c.1 s (All-head (λ c. IsDomain c.1) c cs h)) (domains_over ts cs s (All-tail (λ c. IsDomain c.1) c cs h))

are_over : (ts : Texts) (cs : List Column) → All (λ c. IsOver ts c.1) (holding ts cs)
are_over ts [] = none_of (λ c. IsOver ts c.1)
are_over ts (c ∷ cs) = All-cons (λ c. IsOver ts c.1) (c.0, over ts c.1) (holding ts cs) (is_over ts c.1) (are_over ts cs)

texts_held : (ts : Texts) (cs : List Column) → has_texts cs ≡ true → texts_of (holding ts cs) ≡ ts
texts_held ts [] h = absurd (true≢false (sym h))
texts_held ts (c ∷ cs) h = by_domain c.1 (texts_held ts cs) h
  where
    by_domain : (d : Domain) → (has_texts cs ≡ true → texts_of (holding ts cs) ≡ ts) → (is_of_texts d || has_texts cs) ≡ true → texts_or (over ts d) (texts_of (holding ts cs)) ≡ ts
    by_domain kind.Int more k = more k
    by_domain (kind.Fix places) more k = more k
    by_domain kind.Flag more k = more k
    by_domain (kind.Text own) more k = refl

no_texts_held : (ts : Texts) (cs : List Column) → has_texts cs ≡ false → texts_of (holding ts cs) ≡ []
no_texts_held ts [] h = refl
no_texts_held ts (c ∷ cs) h = by_domain c.1 (no_texts_held ts cs) h
  where
    by_domain : (d : Domain) → (has_texts cs ≡ false → texts_of (holding ts cs) ≡ []) → (is_of_texts d || has_texts cs) ≡ false → texts_or (over ts d) (texts_of (holding ts cs)) ≡ []
    by_domain kind.Int more k = more k
    by_domain (kind.Fix places) more k = more k
    by_domain kind.Flag more k = more k
    by_domain (kind.Text own) more k = absurd (true≢false k)

-- the texts over which attributes stand
pub texts_of_holding : (ts : Texts) (cs : List Column) → (has_texts cs ≡ false → ts ≡ []) → texts_of (holding ts cs) ≡ ts
texts_of_holding ts cs none = by_test (has_texts cs) refl
  where
    by_test : (b : Bool) → has_texts cs ≡ b → texts_of (holding ts cs) ≡ ts
    by_test true h = texts_held ts cs h
    by_test false h = no_texts_held ts cs h ∙ sym (none h)

-- sound attributes over sound texts
pub schema_holding : (ts : Texts) (cs : List Column) → 0 < length cs → AreColumns cs → AreTexts ts → (has_texts cs ≡ false → ts ≡ []) → IsSchema (holding ts cs) × (texts_of (holding ts cs) ≡ ts)
schema_holding ts cs some s sound none =
    let long = holding_long ts cs in
    let few = s.few in
    let own = texts_of_holding ts cs none in (
      record {
        some = omega arith;
        sound = record {
          few = omega arith;
          domains = domains_over ts cs sound s.domains;
          names = holding_named ts cs ∙ s.names;
          distinct = holding_differ ts cs ∙ s.distinct;
        };
        shared = rw own (are_over ts cs);
      },
      own,
    )

-- and as they were over others
pub schema_again : (ts us : Texts) (cs : List Column) → IsSchema (holding ts cs) → texts_of (holding ts cs) ≡ ts → AreTexts us → (has_texts cs ≡ false → us ≡ []) → IsSchema (holding us cs) × (texts_of (holding us cs) ≡ us)
schema_again ts us cs s own sound none =
    let known = holding_of_texts ts cs in
    subst (λ (ds : List Column). IsSchema ds × (texts_of ds ≡ us)) (holding_again ts us cs) (schema_holding us (holding ts cs) s.some s.sound sound (λ h. none (sym known ∙ h)))

-- without an attribute of texts there are none
pub none_known : (ts : Texts) (cs : List Column) → texts_of (holding ts cs) ≡ ts → has_texts cs ≡ false → ts ≡ []
none_known ts cs own h = sym own ∙ no_texts_held ts cs h

-- kinds of numbers stay, whichever texts there are
pub under_numbers : (ts : Texts) (cs : List Column) → has_texts cs ≡ false → under ts (kinds_of cs) ≡ kinds_of cs
under_numbers ts [] h = refl
under_numbers ts (c ∷ cs) h =
    let parts = or_parts (is_of_texts c.1) (has_texts cs) h in
    ap (λ d. d ∷ under ts (kinds_of cs)) (over_numbers ts c.1 parts.0) ∙ ap (λ ds. c.1 ∷ ds) (under_numbers ts cs parts.1)

-- attributes as a header names them know no text
pub fresh_entries : (es : Entries) → holding [] (map shown es) ≡ map shown es
fresh_entries [] = refl
fresh_entries (e ∷ es) = ap (λ d. ((shown e).0, d) ∷ holding [] (map shown es)) (over_domain [] [] e.1) ∙ ap (λ cs. shown e ∷ cs) (fresh_entries es)

-- the domain of an attribute over texts
pub kind_held : (ts : Texts) (cs : List Column) (i : ℕ) (k : Kind) → slice_get (kinds_of cs) i ≡ Some (domain [] k) → slice_get (kinds_of (holding ts cs)) i ≡ Some (domain ts k)
kind_held ts cs i k h = ap (λ ds. slice_get ds i) (holding_kinds ts cs) ∙ slice_get-map (over ts) (kinds_of cs) i ∙ ap (option_map (over ts)) h ∙ ap (λ d. Some d) (over_domain [] ts k)

at_first : (c : Column) (cs : List Column) (d : Domain) → c.1 ≡ d → has_texts (c ∷ cs) ≡ (is_of_texts d || has_texts cs)
at_first c cs d h = ap (λ e. is_of_texts e || has_texts cs) h

kind_first : (cs : List Column) (i : ℕ) (d : Domain) (none : Column) → slice_get (kinds_of cs) i ≡ Some d → (get_or cs i none).1 ≡ d
kind_first [] i d none h = absurd (none-some d h)
kind_first (c ∷ cs) zero d none h = same_Some c.1 d h
kind_first (c ∷ cs) (suc i) d none h = kind_first cs i d none h

-- a schema has a kind for each column
pub kinds_long : (cs : List Column) → length (kinds_of cs) ≡ length cs
kinds_long cs = length-map cs (λ (c : Column). c.1)

-- one attribute more is looked at
pub texts_further : (cs : List Column) (i : ℕ) (k : Kind) → slice_get (kinds_of cs) i ≡ Some (domain [] k) → has_texts (drop i cs) ≡ (is_of_texts (domain [] k) || has_texts (drop (i + 1) cs))
texts_further cs i k h =
    let none : Column = ([], kind.Int) in
    let inside : i < length cs = subst (λ n. i < n) (kinds_long cs) (slice_get_within (kinds_of cs) i (domain [] k) h) in
    ap has_texts (drop_more cs i none inside) ∙ at_first (get_or cs i none) (drop (i + 1) cs) (domain [] k) (kind_first cs i (domain [] k) none h)

-- where an attribute is of texts, there is one from it on
pub texts_here : (cs : List Column) (i : ℕ) (k : Kind) → slice_get (kinds_of cs) i ≡ Some (domain [] k) → k ≡ word.Text → has_texts (drop i cs) ≡ true
texts_here cs i k h t = texts_further cs i k h ∙ ap (λ x. is_of_texts (domain [] x) || has_texts (drop (i + 1) cs)) t

-- behind the last column there is none
pub texts_past : (cs : List Column) (i : ℕ) → length cs ≤ i → has_texts (drop i cs) ≡ false
texts_past cs i h = ap has_texts (drop_all i cs h)

take_nothing : (n : ℕ) → take {A = List ℕ} n [] ≡ []
take_nothing zero = refl
take_nothing (suc n) = refl

-- of no texts the first so many are none
pub take_none : (n : ℕ) (ts : Texts) → ts ≡ [] → take n ts ≡ []
take_none n ts h = ap (take n) h ∙ take_nothing n

-- one text more where there is an attribute of texts
pub none_more : (us : Texts) (b : Bool) → b ≡ true → b ≡ false → us ≡ []
none_more us b h k = absurd (true≢false (sym h ∙ k))

-- the domains of attributes tell whether one is of texts
pub kinds_of_texts : (cs : List Column) → list_any is_of_texts (kinds_of cs) ≡ has_texts cs
kinds_of_texts [] = refl
kinds_of_texts (c ∷ cs) = ap (λ b. is_of_texts c.1 || b) (kinds_of_texts cs)

-- the domain of an attribute is sound, and past the last one there are whole numbers
pub domain_at : (cs : List Column) (a : ℕ) → AreColumns cs → a < length cs → IsDomain (slice_index_or (kinds_of cs) a kind.Int)
domain_at cs a s h = subst IsDomain (kind_first cs a (slice_index_or (kinds_of cs) a kind.Int) ([], kind.Int) (slice_get-get_or (kinds_of cs) a kind.Int (subst (λ n. a < n) (sym (kinds_long cs)) h))) (s.domains a ([], kind.Int) h)

-- behind the last column a kind counts as of numbers
pub domain_past : (cs : List Column) (a : ℕ) → length cs ≤ a → slice_index_or (kinds_of cs) a kind.Int ≡ kind.Int
domain_past [] a h = refl
domain_past (c ∷ cs) zero h = absurd (omega (arith, h))
domain_past (c ∷ cs) (suc a) h = domain_past cs a (omega (arith, h))
