-- Where entries end, and that of each entry all updates are published or none.
use Rattle.std.proofs.Common.{◌≡◌, ℕ, zero, suc, List, [], ◌∷◌, ◌++◌, length, take, drop, Bool, true, false, refl, sym, ◌∙◌, ap, subst, arith}
use Rattle.std.specs.Prelude.{if◌then◌else◌}
use Rattle.std.proofs.lemmas.List.{take-append-le}
use Rattle.std.proofs.Math.Seq.{drop-append_seam, take-length}
use mathlib.Core.List.{IsPrefix}
use Rattle.sw_rows.specs.Header.{Column}
use Rattle.sw_query.specs.declared.query.Call.{Call}
use Rattle.sw_query.specs.declared.query.Call.TheVariants as call
use Rattle.sw_query.specs.declared.query.Query.{Query}
use Rattle.sw_table.specs.declared.row.Row.{Row}
use Rattle.sw_table.specs.declared.row.Update.{Update}
use Rattle.sw_versions.proofs.Prefixes.{prefix_self, prefix_taken, prefix_trans}
use Rattle.sw_spine.specs.Table.{opened, update_by, updates_then}
use Rattle.sw_spine.specs.History.{entry, settled, updates_after, waits}
use Rattle.sw_spine.specs.Books.{Books, new_books, reply_now, updates, with_answered, with_open, with_published, with_session, with_settled}
use Rattle.sw_spine.specs.declared.history.Entry.{Entry}
use Rattle.sw_spine.specs.declared.history.State.{State}
use Rattle.sw_spine.specs.declared.history.State.TheVariants as state
use Rattle.sw_spine.proofs.Histories.{length_settled}
use Rattle.sw_spine.proofs.StoreLemmas.{length_opened}
use Rattle.sw_engine.specs.Published.{EndsEntry, IsOfFirst, IsWhole, later, published_of, updates_first}
use Rattle.sw_engine.specs.Desk.{IsOf}
use Rattle.sw_engine.proofs.Ties.{is_of_same, length_push}

-- ---- what a visit leaves

-- one entry more at the end
ends_more : (limit : ℕ) (opening : List Row) (es : List Entry) (e : Entry) (count : ℕ) → EndsEntry limit opening es count → EndsEntry limit opening (es ++ e ∷ []) count
ends_more limit opening es e count h = (
  h.0,
  (let more = length_push es e in omega (arith, h.1, more)),
  h.2 ∙ ap (λ (l : List Entry). length (updates_after limit (opened opening) l)) (sym (take-append-le h.0 es (e ∷ []) h.1)),
)

first_at : (w : Bool) (limit : ℕ) (us : List Update) (x y : Entry) (es ys : List Entry) (n : ℕ) → y.call ≡ x.call → updates_after limit (updates_then limit us x.call) (take n ys) ≡ updates_after limit (updates_then limit us x.call) (take n es) → updates_after limit us (take (suc n) (if w then y ∷ es else x ∷ ys)) ≡ updates_after limit us (take (suc n) (x ∷ es))
first_at true limit us x y es ys n same rest = ap (λ (c : Call). updates_after limit (updates_then limit us c) (take n es)) same
first_at false limit us x y es ys n same rest = rest

-- the first entries leave the same updates where one is settled
pub first_settled : (s : ℕ) (st : State) (limit : ℕ) (us : List Update) (es : List Entry) (n : ℕ) → updates_after limit us (take n (settled s st es)) ≡ updates_after limit us (take n es)
first_settled s st limit us es zero = refl
first_settled s st limit us [] (suc n) = refl
first_settled s st limit us (x ∷ es) (suc n) = first_at (waits s x) limit us x (entry x.session x.call st) es (settled s st es) n refl (first_settled s st limit (updates_then limit us x.call) es n)

settled_ends : (limit : ℕ) (opening : List Row) (s : ℕ) (st : State) (es : List Entry) (count : ℕ) → EndsEntry limit opening es count → EndsEntry limit opening (settled s st es) count
settled_ends limit opening s st es count h = (
  h.0,
  (let same = length_settled s st es in omega (arith, h.1, same)),
  h.2 ∙ ap (λ (us : List Update). length us) (sym (first_settled s st limit (opened opening) es h.0)),
)

-- ---- what each visit leaves published

-- the number of what is published, of some books
abbrev Ends : ℕ → List Row → Books → Type 0
Ends limit opening b = EndsEntry limit opening b.entries b.published

-- what a new history has published, the opening rows alone, is all updates of its entries, which are none
pub ends_new : (columns : List Column) (opening : List Row) (limit : ℕ) (b : Books) → b ≡ new_books columns opening limit → EndsEntry limit opening b.entries b.published
ends_new columns opening limit b is = subst (Ends limit opening) (sym is) (0, omega arith, sym (length_opened opening))

-- what is published ends with an entry still where a session is opened
pub ends_session : (limit : ℕ) (opening : List Row) (s x : Books) → x ≡ with_session s → EndsEntry limit opening s.entries s.published → EndsEntry limit opening x.entries x.published
ends_session limit opening s x is h = subst (Ends limit opening) (sym is) h

-- so it does where a select begins
pub ends_open : (limit : ℕ) (opening : List Row) (session : ℕ) (q : Query) (head : ℕ) (s x : Books) → x ≡ with_open session q head s → EndsEntry limit opening s.entries s.published → EndsEntry limit opening x.entries x.published
ends_open limit opening session q head s x is h = subst (Ends limit opening) (sym is) (ends_more limit opening s.entries (entry session (call.Select q) state.Open) s.published h)

-- so it does where an entry is settled
pub ends_settled : (limit : ℕ) (opening : List Row) (session : ℕ) (st : State) (s x : Books) → x ≡ with_settled session st s → EndsEntry limit opening s.entries s.published → EndsEntry limit opening x.entries x.published
ends_settled limit opening session st s x is h = subst (Ends limit opening) (sym is) (settled_ends limit opening session st s.entries s.published h)

-- so it does where a call is answered
pub ends_answered : (limit : ℕ) (opening : List Row) (session : ℕ) (c : Call) (s x : Books) → x ≡ with_answered session c s → EndsEntry limit opening s.entries s.published → EndsEntry limit opening x.entries x.published
ends_answered limit opening session c s x is h = subst (Ends limit opening) (sym is) (ends_more limit opening s.entries (entry session c (state.Answered (reply_now c s))) s.published h)

-- so it does where a number is published at which an entry ends
pub ends_published : (limit : ℕ) (opening : List Row) (n : ℕ) (s x : Books) → x ≡ with_published n s → EndsEntry limit opening s.entries n → EndsEntry limit opening x.entries x.published
ends_published limit opening n s x is h = subst (Ends limit opening) (sym is) h

-- ---- the list that is published

prefix_then : (limit : ℕ) (us : List Update) (es : List Entry) → IsPrefix us (updates_after limit us es)
prefix_then limit us [] = prefix_self us
prefix_then limit us (e ∷ es) = prefix_trans us (updates_then limit us e.call) (updates_after limit us (e ∷ es)) (update_by limit us e.call, refl) (prefix_then limit (updates_then limit us e.call) es)

prefix_first : (limit : ℕ) (us : List Update) (es : List Entry) (n : ℕ) → IsPrefix (updates_after limit us (take n es)) (updates_after limit us es)
prefix_first limit us es zero = prefix_then limit us es
prefix_first limit us [] (suc n) = prefix_self us
prefix_first limit us (e ∷ es) (suc n) = prefix_first limit (updates_then limit us e.call) es n

-- where an entry ends, the list that is published has of each entry all updates or none
pub whole_list : (columns : List Column) (opening : List Row) (limit : ℕ) (b : Books) → IsOf columns opening limit b → EndsEntry limit opening b.entries b.published → IsWhole limit opening b
whole_list columns opening limit b of h =
    let first : List Update = updates_first limit opening b.entries h.0 in
    let all : updates b ≡ updates_after limit (opened opening) b.entries = (λ i. updates_after (of.limit_is i) (opened (of.rows_are i)) b.entries) in
    let taken : take b.published (updates b) ≡ first = (λ i. take (h.2 i) (all i)) ∙ prefix_taken first (updates_after limit (opened opening) b.entries) (prefix_first limit (opened opening) b.entries h.0) in
    let begins : IsPrefix (opened opening) first = prefix_then limit (opened opening) (take h.0 b.entries) in
    let rest : published_of opening b ≡ begins.0 = ap (drop (length opening)) (taken ∙ sym begins.1) ∙ (ap (λ n. drop n (opened opening ++ begins.0)) (sym (length_opened opening)) ∙ drop-append_seam (opened opening) begins.0) in
    (h.0, h.1, ap (λ (l : List Update). opened opening ++ l) rest ∙ begins.1)

-- the same, of books that a visit leaves of others
pub whole_after : (columns : List Column) (opening : List Row) (limit : ℕ) (s x : Books) → IsOf columns opening limit s → x.columns ≡ s.columns → x.rows ≡ s.rows → x.limit ≡ s.limit → EndsEntry limit opening x.entries x.published → IsWhole limit opening x
whole_after columns opening limit s x of c r l ends = whole_list columns opening limit x (is_of_same columns opening limit s x of c r l) ends

-- all updates end with an entry
pub all_end : (columns : List Column) (opening : List Row) (limit : ℕ) (b : Books) → IsOf columns opening limit b → EndsEntry limit opening b.entries (length (updates b))
all_end columns opening limit b of = (
  length b.entries,
  omega arith,
  (λ i. length (updates_after (of.limit_is i) (opened (of.rows_are i)) (sym (take-length b.entries) i))),
)

-- the opening rows, and all updates after them
pub all_later : (columns : List Column) (opening : List Row) (limit : ℕ) (b : Books) → IsOf columns opening limit b → opened opening ++ later opening b ≡ updates_after limit (opened opening) b.entries
all_later columns opening limit b of =
    let all : updates b ≡ updates_after limit (opened opening) b.entries = (λ i. updates_after (of.limit_is i) (opened (of.rows_are i)) b.entries) in
    let begins : IsPrefix (opened opening) (updates_after limit (opened opening) b.entries) = prefix_then limit (opened opening) b.entries in
    let rest : later opening b ≡ begins.0 = ap (drop (length opening)) (all ∙ sym begins.1) ∙ (ap (λ n. drop n (opened opening ++ begins.0)) (sym (length_opened opening)) ∙ drop-append_seam (opened opening) begins.0) in
    ap (λ (l : List Update). opened opening ++ l) rest ∙ begins.1

-- all updates after the opening rows are those of all entries
pub all_first : (columns : List Column) (opening : List Row) (limit : ℕ) (b : Books) → IsOf columns opening limit b → IsOfFirst limit opening b.entries (later opening b)
all_first columns opening limit b of =
    let full : Books = record b { published = length (updates b) } in
    let same : published_of opening full ≡ later opening b = ap (λ (us : List Update). drop (length opening) us) (take-length (updates b)) in
    subst (IsOfFirst limit opening b.entries) same (whole_list columns opening limit full
    record { columns_are = of.columns_are; rows_are = of.rows_are; limit_is = of.limit_is }
    (all_end columns opening limit b of))
