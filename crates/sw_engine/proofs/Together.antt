-- Calls that are answered together.
use Rattle.std.proofs.Common.{◌≡◌, ◌<◌, ◌≤◌, ◌+◌, ℕ, ◌++◌, List, [], ◌∷◌, length, map, take, Bool, false, Some, refl, sym, ap, ◌∙◌, subst, arith, append_assoc, get_or, true, All}
use Rattle.std.specs.List.{zip}
use Rattle.std.specs.Prelude.{slice_get}
use Rattle.std.proofs.lemmas.List.{append-nil, get_or-map, get_or-take, length-map, length-take-le}
use Rattle.std.proofs.lemmas.List.Elements.{All-map, All-take}
use Rattle.sw_rows.specs.Header.{Column}
use Rattle.sw_table.specs.Updates.{rows_of}
use Rattle.sw_table.specs.declared.row.Row.{Row}
use Rattle.sw_table.specs.declared.row.Update.{Update}
use Rattle.sw_query.specs.Scan.{answer}
use Rattle.sw_query.specs.declared.query.Call.{Call}
use Rattle.sw_query.specs.declared.query.Call.TheVariants.{Select}
use Rattle.sw_query.specs.declared.query.Query.{Query}
use Rattle.sw_query.specs.declared.reply.Reply.{Reply}
use Rattle.sw_spine.specs.Table.{opened}
use Rattle.sw_spine.specs.History.{is_select, mine, updates_after}
use Rattle.sw_spine.specs.Books.{Books, as_calls, reply_now, told_entry, updates, with_all_answered, with_answered}
use Rattle.sw_spine.specs.declared.history.Entry.{Entry}
use Rattle.sw_spine.specs.declared.history.State.TheVariants as state
use Rattle.sw_spine.proofs.Spines.{told_updates}
use Rattle.sw_spine.proofs.Together.{stays_for_all}
use Rattle.sw_versions.proofs.Prefixes.{prefix_self, prefix_trans}
use Rattle.sw_engine.specs.Desk.{IsOf, IsTied}
use Rattle.sw_engine.specs.Own.{own, own_of}
use Rattle.sw_engine.specs.Published.{EndsEntry, Grows, Shown, answer_after, published_of, reply_after, session_shown}
use Rattle.sw_engine.specs.Sessions.{AnswersAll}
use Rattle.sw_engine.proofs.AtRest.{reply_is, reply_over}
use Rattle.sw_engine.proofs.Called.{visited_self}
use Rattle.sw_engine.proofs.Later.{begin_self, begin_trans}
use Rattle.sw_engine.proofs.Owned.{own_push}
use Rattle.sw_engine.proofs.Ties.{mine_is, own_is}
use Rattle.sw_engine.proofs.Visits.{Moves, moves_answered, visited_by}

-- ---- calls beside their replies

-- beside no replies stand no calls
zip_none : (cs : List Call) → zip {K = Call} {X = Reply} cs [] ≡ []
zip_none [] = refl
zip_none (c ∷ cs) = refl

-- the first calls, which asked these queries, beside the replies to them
pub zip_told : (told : List (Query × Reply)) (cs : List Call) → map (λ t. Select t.0) told ≡ take (length told) cs → length told ≤ length cs → zip cs (map (λ t. t.1) told) ≡ as_calls told
zip_told [] cs are few = zip_none cs
zip_told (t ∷ told) [] are few = absurd (omega (arith, few))
zip_told (t ∷ told) (c ∷ cs) are few =
    let first : c ≡ Select t.0 = cc are in
    let later : map (λ u. Select u.0) told ≡ take (length told) cs = cc are in
    ap (λ k. (k, t.1) ∷ zip cs (map (λ u. u.1) told)) first ∙ ap (λ l. (Select t.0, t.1) ∷ l) (zip_told told cs later (omega (arith, few)))

-- what holds of each of the first calls, which were asked, holds of what was asked
pub all_asked : {A : Type 0} (P : Call → Type 0) (f : A → Call) (asked : List A) (cs : List Call) (n : ℕ) → map f asked ≡ take n cs → All P cs → All (λ a. P (f a)) asked
all_asked P f asked cs n are all i d less =
    let firsts = subst (All P) (sym are) (All-take P n cs all) in
    let place : i < length (map f asked) = let e = length-map asked f in omega (arith, e, less) in
    subst P (get_or-map f asked i d (f d) less) (firsts i (f d) place)

-- what was asked are selects, and so are as many of the calls
pub all_selects : {A : Type 0} (f : A → Query) (asked : List A) (cs : List Call) (n k : ℕ) → map (λ a. Select (f a)) asked ≡ take n cs → k ≤ n → n ≤ length cs → All (λ c. is_select c ≡ true) (take k cs)
all_selects f asked cs n k are few many i d less =
    let long = length-take-le k cs (omega (arith, few, many)) in
    let here : i < k = omega (arith, less, long) in
    let within : i < length asked = let e = sym (length-map asked (λ a. Select (f a))) ∙ (ap length are ∙ length-take-le n cs many) in omega (arith, e, here, few) in
    let first : get_or (take k cs) i d ≡ get_or (take n cs) i d = get_or-take k cs i d here ∙ sym (get_or-take n cs i d (omega (arith, here, few))) in
    let same : get_or (take k cs) i d ≡ get_or (map (λ a. Select (f a)) asked) i d = first ∙ ap (λ l. get_or l i d) (sym are) in
    subst (λ c. is_select c ≡ true) (sym same) (All-map (λ c. is_select c ≡ true) (λ a. Select (f a)) asked (λ j e lt. refl) i d (let e = length-map asked (λ a. Select (f a)) in omega (arith, e, within)))

-- ---- what a session shows

-- where no call is answered, nothing changes
pub answers_none : (cs : List Call) (rs : List Reply) (s t : Shown) → rs ≡ [] → t ≡ s → AnswersAll (zip cs rs) s t
answers_none cs rs s t none same = subst (AnswersAll (zip cs rs) s) (sym same) (subst (λ made. AnswersAll made s s) (sym (ap (zip cs) none ∙ zip_none cs))
    (record { visited = visited_self s; calls = sym (append-nil s.1); own = sym (append-nil (own_of s)) }))

-- a session's own entries, with those of queries that it was answered
pub own_told : (s : ℕ) (told : List (Query × Reply)) (es : List Entry) → own s (es ++ map (told_entry s) told) ≡ own s es ++ map (λ m. (m.0, state.Answered m.1)) (as_calls told)
own_told s [] es = ap (own s) (append-nil es) ∙ sym (append-nil (own s es))
own_told s (t ∷ told) es =
    ap (own s) (sym (append_assoc es (told_entry s t ∷ []) (map (told_entry s) told)))
    ∙ own_told s told (es ++ told_entry s t ∷ [])
    ∙ ap (λ l. l ++ map (λ m. (m.0, state.Answered m.1)) (as_calls told)) (own_push s es (told_entry s t) refl)
    ∙ append_assoc (own s es) ((Select t.0, state.Answered t.1) ∷ []) (map (λ m. (m.0, state.Answered m.1)) (as_calls told))

-- queries that the spine answers at its end are answered to the session
pub answers_all_by : (opening : List Row) (n : ℕ) (told : List (Query × Reply)) (s x a v : Books) (rows heads : List (Books × Bool)) (k : ℕ) (receipt : List (List Update)) (missed : ℕ)
    → IsTied s rows heads → slice_get rows k ≡ Some (a, false) → n ≡ k + 1 → Grows opening a v → x ≡ with_all_answered n told s → mine n x.entries ≡ mine n s.entries ++ as_calls told → v ≡ x
    → AnswersAll (as_calls told) (session_shown opening n a receipt missed) (session_shown opening n v receipt missed)
answers_all_by opening n told s x a v rows heads k receipt missed tied at is grows done all new = record {
  visited = visited_by opening n a v receipt missed grows;
  calls = ap (λ (b : Books). mine n b.entries) new ∙ all ∙ ap (λ (l : List (Call × Reply)). l ++ as_calls told) (mine_is s rows heads k n a tied at is);
  own = ap (λ (b : Books). own n b.entries) (new ∙ done) ∙ own_told n told s.entries ∙ ap (λ l. l ++ map (λ m. (m.0, state.Answered m.1)) (as_calls told)) (own_is s rows heads k n a tied at is);
}

-- ---- what they leave of the spine

-- what the table replies after all entries, it replies now
pub replies_are : (columns : List Column) (opening : List Row) (limit : ℕ) (b : Books) (told : List (Query × Reply)) → IsOf columns opening limit b
    → All (λ t. t.1 ≡ reply_after limit opening b.entries (Select t.0)) told → All (λ t. t.1 ≡ reply_now (Select t.0) b) told
replies_are columns opening limit b told of all i d less = reply_is columns opening limit b (Select (get_or told i d).0) (get_or told i d).1 of (all i d less)

-- what is answered over all updates are the table's replies after all entries
pub replies_over : (limit : ℕ) (opening : List Row) (es : List Entry) (list later : List Update) (told : List (Query × Reply)) → list ≡ later → opened opening ++ later ≡ updates_after limit (opened opening) es
    → All (λ t. t.1 ≡ answer_after limit opening list t.0) told → All (λ t. t.1 ≡ reply_after limit opening es (Select t.0)) told
replies_over limit opening es list later told same whole all i d less = reply_over limit opening es list later (get_or told i d).0 (get_or told i d).1 same whole (all i d less)

-- a visit that changes nothing
moves_self : (limit : ℕ) (opening : List Row) (n : ℕ) (s : Books) → EndsEntry limit opening s.entries s.published → Moves limit opening n s s
moves_self limit opening n s ends = record {
  columns_are = refl;
  rows_are = refl;
  limit_is = refl;
  sessions_are = refl;
  own = ((λ k apart. refl), begin_self s.entries);
  published = prefix_self (published_of opening s);
  ends = ends;
}

-- two visits
moves_trans : (limit : ℕ) (opening : List Row) (n : ℕ) (a b d : Books) → Moves limit opening n a b → Moves limit opening n b d → Moves limit opening n a d
moves_trans limit opening n a b d first then = record {
  columns_are = then.columns_are ∙ first.columns_are;
  rows_are = then.rows_are ∙ first.rows_are;
  limit_is = then.limit_is ∙ first.limit_is;
  sessions_are = then.sessions_are ∙ first.sessions_are;
  own = ((λ k apart. then.own.0 k apart ∙ first.own.0 k apart), begin_trans a.entries b.entries d.entries first.own.1 then.own.1);
  published = prefix_trans (published_of opening a) (published_of opening b) (published_of opening d) first.published then.published;
  ends = then.ends;
}

-- queries that are answered bring no update
pub moves_told : (limit : ℕ) (opening : List Row) (n : ℕ) (told : List (Query × Reply)) (s x : Books) → x ≡ with_all_answered n told s → All (λ t. t.1 ≡ reply_now (Select t.0) s) told
    → s.published ≤ length (updates s) → EndsEntry limit opening s.entries s.published → Moves limit opening n s x
moves_told limit opening n told s x is all le ends = subst (Moves limit opening n s) (sym is)
    (stays_for_all (λ a c. a.published ≤ length (updates a) → EndsEntry limit opening a.entries a.published → Moves limit opening n a c × (c.published ≤ length (updates c)))
    (λ a low at. (moves_self limit opening n a at, low))
    (λ a b d first then low at. let one = first low at in let two = then one.1 one.0.ends in (moves_trans limit opening n a b d one.0 two.0, two.1))
    n
    (λ q a low at. (
      moves_answered limit opening n (Select q) a (with_answered n (Select q) a) [] refl (told_updates n q a ∙ sym (append-nil (updates a))) low at,
      subst (λ (us : List Update). a.published ≤ length us) (sym (told_updates n q a)) low,
    ))
    told s all le ends).0

-- ---- what a head answers

-- what a head answers over what it received, it answers over what its receipt has
pub plain_after : (limit : ℕ) (opening : List Row) (us list : List Update) (told : List (Query × Reply)) → us ≡ opened opening ++ list → All (λ t. t.1 ≡ answer (rows_of us) t.0) told
    → All (λ t. t.1 ≡ answer_after limit opening list t.0) told
plain_after limit opening us list told is all = subst (λ (vs : List Update). All (λ t. t.1 ≡ answer (rows_of vs) t.0) told) is all
