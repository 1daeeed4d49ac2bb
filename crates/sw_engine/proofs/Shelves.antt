-- What a visit leaves on the shelf of what viewers read.
use Rattle.std.proofs.Common.{◌≡◌, ◌⊎◌, ⊎_elim, ℕ, zero, suc, ◌+◌, ◌≤◌, List, [], ◌∷◌, ◌++◌, length, take, drop, inl, inr, refl, sym, ◌∙◌, ap, subst, arith, length-append}
use Rattle.std.specs.Prelude.{Bool, Err, IfErr, IfOk, MatchBool, Ok, OnErr, OnOk, Result, false, true}
use Rattle.std.proofs.lemmas.List.{append-nil, drop-take, length-drop, take-append-drop, take-append-le}
use Rattle.std.proofs.Math.Seq.{take-length}
use mathlib.Core.List.{IsPrefix}
use Rattle.sw_rows.specs.Header.{Column}
use Rattle.sw_query.specs.declared.query.Call.{Call}
use Rattle.sw_query.specs.declared.query.Query.{Query}
use Rattle.sw_query.specs.declared.reply.Reply.{Reply}
use Rattle.sw_table.specs.declared.row.Row.{Row}
use Rattle.sw_table.specs.declared.row.Update.{Update}
use Rattle.sw_versions.specs.Known.{Shelved}
use Rattle.sw_versions.specs.Pending.{HasBookedOr, HasShownOr}
use Rattle.sw_versions.specs.Rules.{updates_in}
use Rattle.sw_versions.proofs.Batches.{all_added, all_begins, booked_begins}
use Rattle.sw_versions.proofs.Prefixes.{prefix_length, prefix_rest, prefix_self, prefix_taken, prefix_trans}
use Rattle.sw_spine.specs.Table.{opened}
use Rattle.sw_spine.specs.History.{settled, updates_after}
use Rattle.sw_spine.specs.Books.{Books, new_books, updates, with_all_answered, with_answered, with_published, with_session, with_settled}
use Rattle.sw_spine.specs.declared.history.Entry.{Entry}
use Rattle.sw_spine.specs.declared.history.State.{State}
use Rattle.sw_spine.proofs.Histories.{length_settled}
use Rattle.sw_spine.proofs.StoreLemmas.{length_opened}
use Rattle.sw_engine.specs.Desk.{IsBegun}
use Rattle.sw_engine.specs.Published.{EndWithEntries, EndsEntry, IsOfFirst, IsShelfOf, TellsAll, later, no_versions, published_of, with_viewer}
use Rattle.sw_engine.proofs.Published.{drop_grows}
use Rattle.sw_engine.proofs.Whole.{first_settled}

-- ---- where batches end

-- no update is of no entry
none_first : (limit : ℕ) (opening : List Row) (es : List Entry) → IsOfFirst limit opening es []
none_first limit opening es = (0, omega arith, append-nil (opened opening))

none_end : (limit : ℕ) (opening : List Row) (es : List Entry) → EndWithEntries limit opening es []
none_end limit opening es zero = none_first limit opening es
none_end limit opening es (suc k) = none_first limit opening es

-- entries more at the end
first_more : (limit : ℕ) (opening : List Row) (es fs : List Entry) (list : List Update) → IsOfFirst limit opening es list → IsOfFirst limit opening (es ++ fs) list
first_more limit opening es fs list h = (
  h.0,
  (let more = length-append es fs in omega (arith, h.1, more)),
  h.2 ∙ ap (λ (l : List Entry). updates_after limit (opened opening) l) (sym (take-append-le h.0 es fs h.1)),
)

-- an entry is settled
first_still : (limit : ℕ) (opening : List Row) (s : ℕ) (st : State) (es : List Entry) (list : List Update) → IsOfFirst limit opening es list → IsOfFirst limit opening (settled s st es) list
first_still limit opening s st es list h = (
  h.0,
  (let same = length_settled s st es in omega (arith, h.1, same)),
  h.2 ∙ sym (first_settled s st limit (opened opening) es h.0),
)

-- first items of a beginning are first items of the whole
first_within : {A : Type 0} (k : ℕ) (xs ys : List A) → IsPrefix xs ys → (j : ℕ) × (take k xs ≡ take j ys)
first_within zero xs ys p = (0, refl)
first_within (suc k) [] ys p = (0, refl)
first_within (suc k) (x ∷ xs) [] p = absurd (cc (p.1))
first_within (suc k) (x ∷ xs) (y ∷ ys) p =
    let rest = first_within k xs ys (p.0, cc (p.1)) in
    let heads : x ≡ y = cc (p.1) in
    (suc rest.0, cc (heads, rest.1))

-- so end the batches of a beginning
pub begin_ends : (limit : ℕ) (opening : List Row) (es : List Entry) (xs ys : List (List Update)) → IsPrefix xs ys → EndWithEntries limit opening es ys → EndWithEntries limit opening es xs
begin_ends limit opening es xs ys p ends k =
    let first = first_within k xs ys p in
    subst (λ (l : List (List Update)). IsOfFirst limit opening es (updates_in l)) (sym first.1) (ends first.0)

-- and all of them
pub all_ends : (limit : ℕ) (opening : List Row) (es : List Entry) (xs : List (List Update)) → EndWithEntries limit opening es xs → IsOfFirst limit opening es (updates_in xs)
all_ends limit opening es xs ends = subst (λ (l : List (List Update)). IsOfFirst limit opening es (updates_in l)) (take-length xs) (ends (length xs))

-- first items of a list with one more at its end
first_pushed : {A : Type 0} (k : ℕ) (xs : List A) (x : A) → (take k (xs ++ x ∷ []) ≡ take k xs) ⊎ (take k (xs ++ x ∷ []) ≡ xs ++ x ∷ [])
first_pushed zero xs x = inl refl
first_pushed (suc zero) [] x = inr refl
first_pushed (suc (suc k)) [] x = inr refl
first_pushed (suc k) (y ∷ xs) x = ⊎_elim
    (λ few. inl (ap (λ l. y ∷ l) few))
    (λ all. inr (ap (λ l. y ∷ l) all))
    (first_pushed k xs x)

-- one batch more, with which there are all updates of all entries
pushed_end : (limit : ℕ) (opening : List Row) (es : List Entry) (xs : List (List Update)) (us : List Update) → EndWithEntries limit opening es xs → IsOfFirst limit opening es (updates_in (xs ++ us ∷ [])) → EndWithEntries limit opening es (xs ++ us ∷ [])
pushed_end limit opening es xs us ends all k = ⊎_elim
    (λ few. subst (λ (l : List (List Update)). IsOfFirst limit opening es (updates_in l)) (sym few) (ends k))
    (λ full. subst (λ (l : List (List Update)). IsOfFirst limit opening es (updates_in l)) (sym full) all)
    (first_pushed k xs us)

-- ---- what is on the shelf

-- what is published begins the updates after the opening rows
pub shown_begins : (limit : ℕ) (opening : List Row) (b : Books) (s : Shelved) → IsShelfOf limit opening b s → IsPrefix (updates_in s.published) (later opening b)
shown_begins limit opening b s is = prefix_trans (updates_in s.published) (updates_in s.booked) (later opening b) (all_begins s.published s.booked is.published) is.booked

same_rest : {A : Type 0} (xs ys zs : List A) → xs ++ ys ≡ xs ++ zs → ys ≡ zs
same_rest [] ys zs e = e
same_rest (x ∷ xs) ys zs e = same_rest xs ys zs (cc e)

-- whether batches have all updates, by whether they have all those after the opening rows
pub tells_all : (limit : ℕ) (opening : List Row) (es : List Entry) (batches : List (List Update)) (all : List Update) (has : Bool) → MatchBool has (updates_in batches ≡ all) (updates_in batches ≡ all → ⊥) → opened opening ++ all ≡ updates_after limit (opened opening) es → TellsAll limit opening es batches has
tells_all limit opening es batches all true same every = ap (λ (l : List Update). opened opening ++ l) same ∙ every
tells_all limit opening es batches all false other every = λ is. other (same_rest (opened opening) (updates_in batches) all (is ∙ sym every))

-- what the spine has as published begins all updates
pub published_begins : (opening : List Row) (b : Books) → IsPrefix (published_of opening b) (later opening b)
published_begins opening b = drop_grows (length opening) (take b.published (updates b)) (updates b) (drop b.published (updates b), take-append-drop b.published (updates b))

-- what the spine has as published is what the shelf has
pub published_is : (limit : ℕ) (opening : List Row) (b : Books) (s : Shelved) → IsShelfOf limit opening b s → published_of opening b ≡ updates_in s.published
published_is limit opening b s is =
    ap (λ (n : ℕ). drop (length opening) (take n (updates b))) is.counted
    ∙ (drop-take (length opening) (length (updates_in s.published)) (updates b) ∙ prefix_taken (updates_in s.published) (later opening b) (shown_begins limit opening b s is))

-- each published batch ends with an entry
pub shelf_ends : (limit : ℕ) (opening : List Row) (b : Books) (s : Shelved) → IsShelfOf limit opening b s → EndWithEntries limit opening b.entries s.published
shelf_ends limit opening b s is = begin_ends limit opening b.entries s.published s.booked is.published is.ends

-- so does the number of the updates that are published
pub shelf_count : (limit : ℕ) (opening : List Row) (b : Books) (s : Shelved) (n : ℕ) → IsShelfOf limit opening b s → n ≡ length opening + length (updates_in s.published) → EndsEntry limit opening b.entries n
shelf_count limit opening b s n is count =
    let first = all_ends limit opening b.entries s.published (shelf_ends limit opening b s is) in
    let joined : length opening + length (updates_in s.published) ≡ length (opened opening ++ updates_in s.published) =
    ap (λ m. m + length (updates_in s.published)) (sym (length_opened opening)) ∙ sym (length-append (opened opening) (updates_in s.published)) in
    (first.0, first.1, count ∙ (joined ∙ ap (λ (l : List Update). length l) first.2))

-- as many updates as are published, the opening rows counted, are there
pub shelf_high : (limit : ℕ) (opening : List Row) (b : Books) (s : Shelved) (n : ℕ) → IsShelfOf limit opening b s → n ≡ length opening + length (updates_in s.published) → length opening ≤ length (updates b) → n ≤ length (updates b)
shelf_high limit opening b s n is count le =
    let short = prefix_length (updates_in s.published) (later opening b) (shown_begins limit opening b s is) in
    let long = length-drop (length opening) (updates b) in
    omega (arith, short, long, le, count)

-- no fewer updates than were published
pub shelf_low : (limit : ℕ) (opening : List Row) (b : Books) (s v : Shelved) (n : ℕ) → IsShelfOf limit opening b s → IsPrefix s.published v.published → n ≡ length opening + length (updates_in v.published) → b.published ≤ n
shelf_low limit opening b s v n is grows count =
    let more = prefix_length (updates_in s.published) (updates_in v.published) (all_begins s.published v.published grows) in
    omega (arith, is.counted, more, count)

-- ---- what a visit leaves on it

-- a shelf that was just made
pub shelf_new : (columns : List Column) (opening : List Row) (limit : ℕ) (b : Books) → b ≡ new_books columns opening limit → IsShelfOf limit opening b no_versions
shelf_new columns opening limit b e = record {
  booked = (later opening b, refl);
  ends = none_end limit opening b.entries;
  published = ([], refl);
  counted = ap (λ (x : Books). x.published) e ∙ (let n : length opening ≡ length opening + 0 = omega arith in n);
}

-- one session more
pub shelf_session : (limit : ℕ) (opening : List Row) (b b' : Books) (s : Shelved) → IsShelfOf limit opening b s → b' ≡ with_session b → IsShelfOf limit opening b' s
shelf_session limit opening b b' s is e = subst (λ (x : Books). IsShelfOf limit opening x s) (sym e) record {
  booked = is.booked;
  ends = is.ends;
  published = is.published;
  counted = is.counted;
}

-- one entry more, that is open
pub shelf_begun : {A E : Type 0} (told : Result A E) (limit : ℕ) (opening : List Row) (session : ℕ) (q : Query) (b b' : Books) (s : Shelved) → IsShelfOf limit opening b s → OnOk told (IsBegun session q b b') → OnErr told (b' ≡ b) → updates b' ≡ updates b → b'.published ≡ b.published → IsShelfOf limit opening b' s
shelf_begun (Ok a) limit opening session q b b' s is ok err u p = record {
  booked = subst (λ (us : List Update). IsPrefix (updates_in s.booked) (drop (length opening) us)) (sym u) is.booked;
  ends = λ k. subst (λ (es : List Entry). IsOfFirst limit opening es (updates_in (take k s.booked))) (sym ok) (first_more limit opening b.entries _ (updates_in (take k s.booked)) (is.ends k));
  published = is.published;
  counted = p ∙ is.counted;
}
shelf_begun (Err e) limit opening session q b b' s is ok err u p = subst (λ (x : Books). IsShelfOf limit opening x s) (sym err) is

-- an entry is settled
pub shelf_settled : (limit : ℕ) (opening : List Row) (session : ℕ) (st : State) (b b' : Books) (s : Shelved) → IsShelfOf limit opening b s → b' ≡ with_settled session st b → updates b' ≡ updates b → IsShelfOf limit opening b' s
shelf_settled limit opening session st b b' s is e u = record {
  booked = subst (λ (us : List Update). IsPrefix (updates_in s.booked) (drop (length opening) us)) (sym u) is.booked;
  ends = λ k. subst (λ (x : Books). IsOfFirst limit opening x.entries (updates_in (take k s.booked))) (sym e) (first_still limit opening session st b.entries (updates_in (take k s.booked)) (is.ends k));
  published = is.published;
  counted = ap (λ (x : Books). x.published) e ∙ is.counted;
}

prefix_more : {A : Type 0} (m : ℕ) (us ys xs : List A) → IsPrefix xs (drop m us) → IsPrefix xs (drop m (us ++ ys))
prefix_more zero us ys xs p = prefix_trans xs us (us ++ ys) p (ys, refl)
prefix_more (suc m) [] ys [] p = (drop (suc m) ys, refl)
prefix_more (suc m) [] ys (x ∷ xs) p = absurd (cc (p.1))
prefix_more (suc m) (u ∷ us) ys xs p = prefix_more m us ys xs p

-- one entry more, with its updates
pub shelf_answered : (limit : ℕ) (opening : List Row) (session : ℕ) (c : Call) (b b' : Books) (s : Shelved) (more : List Update) → IsShelfOf limit opening b s → b' ≡ with_answered session c b → updates b' ≡ updates b ++ more → IsShelfOf limit opening b' s
shelf_answered limit opening session c b b' s more is e u = record {
  booked = subst (λ (us : List Update). IsPrefix (updates_in s.booked) (drop (length opening) us)) (sym u) (prefix_more (length opening) (updates b) more (updates_in s.booked) is.booked);
  ends = λ k. subst (λ (x : Books). IsOfFirst limit opening x.entries (updates_in (take k s.booked))) (sym e) (first_more limit opening b.entries _ (updates_in (take k s.booked)) (is.ends k));
  published = is.published;
  counted = ap (λ (x : Books). x.published) e ∙ is.counted;
}

-- entries more, that bring no update
shelf_more : (limit : ℕ) (opening : List Row) (session : ℕ) (ts : List (Query × Reply)) (b b' : Books) (s : Shelved) → IsShelfOf limit opening b s → b' ≡ with_all_answered session ts b → updates b' ≡ updates b → IsShelfOf limit opening b' s
shelf_more limit opening session ts b b' s is e u = record {
  booked = subst (λ (us : List Update). IsPrefix (updates_in s.booked) (drop (length opening) us)) (sym u) is.booked;
  ends = λ k. subst (λ (x : Books). IsOfFirst limit opening x.entries (updates_in (take k s.booked))) (sym e) (first_more limit opening b.entries _ (updates_in (take k s.booked)) (is.ends k));
  published = is.published;
  counted = ap (λ (x : Books). x.published) e ∙ is.counted;
}

-- so it is with selects that stand answered together, or were refused
pub shelf_told_all : {A E : Type 0} (told : Result A E) (limit : ℕ) (opening : List Row) (session : ℕ) (ts : List (Query × Reply)) (b x : Books) (s : Shelved) → IsShelfOf limit opening b s
    → OnOk told (x ≡ with_all_answered session ts b) → OnErr told (x ≡ b) → updates x ≡ updates b → IsShelfOf limit opening x s
shelf_told_all (Ok a) limit opening session ts b x s is ok err same = shelf_more limit opening session ts b x s is ok same
shelf_told_all (Err e) limit opening session ts b x s is ok err same = subst (λ (y : Books). IsShelfOf limit opening y s) (sym err) is

-- the shelf caught up with all updates, and the spine has the number of those that are published
pub shelf_caught : (limit : ℕ) (opening : List Row) (b : Books) (s v : Shelved) (all : List Update) (n : ℕ) → IsShelfOf limit opening b s → all ≡ later opening b → IsOfFirst limit opening b.entries (later opening b)
    → IsPrefix (updates_in v.booked) all → HasBookedOr all s.booked v.booked → HasShownOr all s v → n ≡ length opening + length (updates_in v.published) → IsShelfOf limit opening (with_published n b) v
shelf_caught limit opening b s v all n is every first begins booked shown count = record {
  booked = subst (λ (l : List Update). IsPrefix (updates_in v.booked) l) every begins;
  ends = ⊎_elim
      (λ same. subst (EndWithEntries limit opening b.entries) (sym same) is.ends)
      (λ more. subst (EndWithEntries limit opening b.entries) (sym more) (pushed_end limit opening b.entries s.booked (drop (length (updates_in s.booked)) all) is.ends (added more)))
      booked;
  published = ⊎_elim
      (λ same. subst (λ (l : List (List Update)). IsPrefix l v.booked) (sym same) (prefix_trans s.published s.booked v.booked is.published (booked_begins all s.booked v.booked booked)))
      (λ full. subst (λ (l : List (List Update)). IsPrefix l v.booked) (sym full.0) (prefix_self v.booked))
      shown;
  counted = count;
}
  where
    lacked : IsPrefix (updates_in s.booked) all
    lacked = subst (λ (l : List Update). IsPrefix (updates_in s.booked) l) (sym every) is.booked

    whole : updates_in (s.booked ++ drop (length (updates_in s.booked)) all ∷ []) ≡ later opening b
    whole = all_added s.booked (drop (length (updates_in s.booked)) all) ∙ (prefix_rest (updates_in s.booked) all lacked ∙ every)

    added : v.booked ≡ s.booked ++ drop (length (updates_in s.booked)) all ∷ [] → IsOfFirst limit opening b.entries (updates_in (s.booked ++ drop (length (updates_in s.booked)) all ∷ []))
    added more = subst (IsOfFirst limit opening b.entries) (sym whole) first

-- one viewer more, or none
pub shelf_viewed : {A E : Type 0} (told : Result A E) (R : E → Type 0) (limit : ℕ) (opening : List Row) (b : Books) (s v : Shelved) → IsShelfOf limit opening b s → IfOk told (λ _. v ≡ with_viewer s) → IfErr told (λ e. (v ≡ s) × R e) → IsShelfOf limit opening b v
shelf_viewed (Ok a) R limit opening b s v is ok err = subst (λ (x : Shelved). IsShelfOf limit opening b x) (sym ok) record {
  booked = is.booked;
  ends = is.ends;
  published = is.published;
  counted = is.counted;
}
shelf_viewed (Err e) R limit opening b s v is ok err = subst (λ (x : Shelved). IsShelfOf limit opening b x) (sym err.0) is
