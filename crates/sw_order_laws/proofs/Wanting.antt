-- Which rows a call meets behind calls that bring none that it asks for, or take out none.
use Rattle.std.proofs.Common.{◌≡◌, ◌∙◌, ◌<◌, ◌≤◌, ◌+◌, ◌++◌, ◌==◌, ◌&&◌, sym, ap, refl, subst, cond, filter, not, nat_le, ℕ, ℤ, suc, Bool, true, false, List, [], ◌∷◌, Option, Some, None, arith}
use Rattle.std.specs.List.{AllByRecursion, slice_get}
use Rattle.std.specs.Option.{IfSome}
use Rattle.std.proofs.lemmas.Bool.Decides.{nat_tests}
use Rattle.std.proofs.lemmas.List.{append-nil}
use Rattle.std.proofs.lemmas.List.Elements.{filter-append, recursion_from_All}
use Rattle.sw_lang.specs.Replies.{reply_lines}
use Rattle.sw_rows.specs.Header.{Column}
use Rattle.sw_query.specs.declared.query.Call.{Call}
use Rattle.sw_query.specs.declared.query.Call.TheVariants as call
use Rattle.sw_spine.specs.Table.{inserts, opened, reply_to, row, updates_then}
use Rattle.sw_spine.proofs.Rising.{AreRising}
use Rattle.sw_table.specs.Updates.{rows_of}
use Rattle.sw_table.specs.declared.row.Row.{Row}
use Rattle.sw_table.specs.declared.row.Update.{Update}
use Rattle.sw_logs.specs.declared.logged.Logged.{Logged}
use Rattle.sw_logs.specs.declared.opening.Opening.{Opening}
use Rattle.sw_logs.specs.declared.order.By.{By}
use Rattle.sw_order_laws.specs.Apart.{AsksForNone, asks, is_insert, rows_changed}
use Rattle.sw_order_laws.specs.Beginnings.{IsIn, IsWhole, after_calls, updates_by, with_call}
use Rattle.sw_order_laws.specs.Chosen.{ComesFirst, IsUnseen}
use Rattle.sw_order_laws.specs.Laws.{WantingFewerLack, WantingMoreLack}
use Rattle.sw_order_laws.specs.Wanting.{IsPart, Suits, reply_by, rows_met}
use Rattle.sw_order_laws.proofs.Beginnings.{IsLaid, laid, replied_at, rising_by}
use Rattle.sw_order_laws.proofs.Choosing.{all_none, before, each_call}
use Rattle.sw_order_laws.proofs.Placings.{ArePlaced, placed_last, rising_with}
use Rattle.sw_order_laws.proofs.Tables.{all_left, brings, filters_swap, given_after, none_seen, rows_after, takes}

-- ---- filters

filters_join : (p q : Row → Bool) (rs : List Row) → filter q (filter p rs) ≡ filter (λ r. p r && q r) rs
filters_join p q [] = refl
filters_join p q (r ∷ rs) = by_test (p r) (filters_join p q rs)
  where
    by_test : (b : Bool) → filter q (filter p rs) ≡ filter (λ x. p x && q x) rs → filter q (cond b (r ∷ filter p rs) (filter p rs)) ≡ cond (b && q r) (r ∷ filter (λ x. p x && q x) rs) (filter (λ x. p x && q x) rs)
    by_test true rest = ap (λ (l : List Row). cond (q r) (r ∷ l) l) rest
    by_test false rest = rest

all_pass : (p : Row → Bool) (rs : List Row) → AllByRecursion (λ r. p r ≡ true) rs → filter p rs ≡ rs
all_pass p [] a = refl
all_pass p (r ∷ rs) a = ap (λ (t : Bool). cond t (r ∷ filter p rs) (filter p rs)) a.0 ∙ ap (λ (l : List Row). r ∷ l) (all_pass p rs a.1)

weaker : (P Q : Row → Type 0) (rs : List Row) → ((r : Row) → P r → Q r) → AllByRecursion P rs → AllByRecursion Q rs
weaker P Q [] h a = tt
weaker P Q (r ∷ rs) h a = (h r a.0, weaker P Q rs h a.1)

-- what passes a test behind a call, where none that it brings does
passing_after : (limit : ℕ) (vs : List Update) (d : Call) (p : Row → Bool) → AreRising vs → AllByRecursion (λ r. p r ≡ false) (brings limit (inserts vs) d) → filter p (rows_of (updates_then limit vs d)) ≡ filter (λ r. not (takes d r)) (filter p (rows_of vs))
passing_after limit vs d p up none =
    let left : List Row = filter (λ r. not (takes d r)) (rows_of vs) in
    ap (filter p) (rows_after limit vs d up) ∙ (filter-append p left (brings limit (inserts vs) d) ∙ (ap (λ (l : List Row). filter p left ++ l) (none_seen p (brings limit (inserts vs) d) none) ∙ (append-nil (filter p left) ∙ filters_swap p (λ r. not (takes d r)) (rows_of vs))))

-- none that a call brings later is one that was not seen
unseen_brings : (limit given n : ℕ) (d : Call) (p : Row → Bool) → given ≤ n → ((cells : List ℤ) → d ≡ call.Insert cells → (key : ℕ) → given < key → p (row key cells) ≡ false) → AllByRecursion (λ r. p r ≡ false) (brings limit n d)
unseen_brings limit given n (call.Select q) p le h = tt
unseen_brings limit given n (call.Insert cells) p le h = by_room (n == limit)
  where
    by_room : (b : Bool) → AllByRecursion (λ r. p r ≡ false) (cond b [] (row (n + 1) cells ∷ []))
    by_room true = tt
    by_room false = (h cells refl (n + 1) (omega (arith, le)), tt)
unseen_brings limit given n (call.Delete key) p le h = tt
unseen_brings limit given n (call.DeleteWhere conds) p le h = tt

-- ---- the reply by the rows that are met

suits_at : (columns : List Column) (limit : ℕ) (vs : List Update) (k : Call) (o : Option (List (List ℕ))) → IfSome o (λ ls. ls ≡ reply_lines columns k (reply_to limit vs k)) → IfSome (reply_by k (filter (asks k) (rows_of vs))) (λ r. IfSome o (λ ls. ls ≡ reply_lines columns k r))
suits_at columns limit vs (call.Select q) o h = h
suits_at columns limit vs (call.Insert cells) o h = tt
suits_at columns limit vs (call.Delete key) o h = tt
suits_at columns limit vs (call.DeleteWhere conds) o h = h

-- a call that is placed behind others has rows that suit it
pub suits_behind : (keeping : By) (opening : Opening) (calls : List Logged) (placed between behind : List ℕ) (i : ℕ) (c : Logged) → slice_get calls i ≡ Some c → IsWhole keeping opening calls (placed ++ (between ++ i ∷ behind)) → Suits opening.schema c (rows_met (after_calls opening.limit calls (updates_by opening calls placed) between) c.call)
suits_behind keeping opening calls placed between behind i c there w =
    let us : List Update = updates_by opening calls placed in
    let l : IsLaid keeping opening calls (placed ++ (between ++ i ∷ behind)) = laid keeping opening calls (placed ++ (between ++ i ∷ behind)) w.beginning in
    let last : ArePlaced opening.schema opening.limit calls us (between ++ i ∷ behind) = placed_last opening.schema opening.limit calls (opened opening.rows.items) placed (between ++ i ∷ behind) l.placed in
    let own = placed_last opening.schema opening.limit calls us between (i ∷ behind) last in
    suits_at opening.schema opening.limit (after_calls opening.limit calls us between) c.call c.reply (replied_at opening.schema opening.limit calls (after_calls opening.limit calls us between) i c there own.0)

-- ---- nothing comes

record MeetsFewer (us vs : List Update) (c : Call) : Type 0 where
  part : IsPart (rows_met vs c) (rows_met us c)
  more : inserts us ≤ inserts vs

unseen_by : (given : ℕ) (d c : Call) → IsUnseen given d c → (cells : List ℤ) → d ≡ call.Insert cells → (key : ℕ) → given < key → asks c (row key cells) ≡ false
unseen_by given (call.Select q) c u cells is = absurd (cc)
unseen_by given (call.Insert own) c u cells is = λ key lt. let same : own ≡ cells = cc in subst (λ (l : List ℤ). asks c (row key l) ≡ false) same (u key lt)
unseen_by given (call.Delete key) c u cells is = absurd (cc)
unseen_by given (call.DeleteWhere conds) c u cells is = absurd (cc)

fewer_then : (limit : ℕ) (us vs : List Update) (d c : Call) → AreRising vs → IsUnseen (inserts us) d c → MeetsFewer us vs c → MeetsFewer us (updates_then limit vs d) c
fewer_then limit us vs d c up u m =
    let test : Row → Bool = m.part.0 in
    record {
      part = (λ r. test r && not (takes d r), passing_after limit vs d (asks c) up (unseen_brings limit (inserts us) (inserts vs) d (asks c) m.more (unseen_by (inserts us) d c u)) ∙ (ap (filter (λ r. not (takes d r))) m.part.1 ∙ filters_join test (λ r. not (takes d r)) (rows_met us c)));
      more = let more = m.more in let given = given_after limit vs d in omega (arith, more, given);
    }

fewer_along : (limit : ℕ) (calls : List Logged) (us vs : List Update) (c : Call) (between : List ℕ) → AreRising vs → MeetsFewer us vs c → ((o : ℕ) (d : Logged) → IsIn between o → slice_get calls o ≡ Some d → IsUnseen (inserts us) d.call c) → MeetsFewer us (after_calls limit calls vs between) c
fewer_along limit calls us vs c [] up m h = m
fewer_along limit calls us vs c (o ∷ os) up m h = fewer_along limit calls us (with_call limit vs (slice_get calls o)) c os (rising_with limit vs (slice_get calls o) up) (by_call (slice_get calls o) (each_call calls (λ d. IsUnseen (inserts us) d.call c) o (slice_get calls o) refl (λ d is. h o d (0, refl) is))) (λ p d b there. h p d (suc b.0, b.1) there)
  where
    by_call : (x : Option Logged) → IfSome x (λ d. IsUnseen (inserts us) d.call c) → MeetsFewer us (with_call limit vs x) c
    by_call None u = m
    by_call (Some d) u = fewer_then limit us vs d.call c up u m

all_same : (rs : List Row) → filter (λ (r : Row). true) rs ≡ rs
all_same [] = refl
all_same (r ∷ rs) = ap (λ (l : List Row). r ∷ l) (all_same rs)

-- no suiting rows where none come that it asks for: it lacks its reply
pub wanting_more_lack : WantingMoreLack
wanting_more_lack keeping opening calls placed chosen i c opens member there none others between behind apart w =
    let us : List Update = updates_by opening calls placed in
    let f : ComesFirst keeping opening calls placed chosen between i = record { others = apart; is_chosen = member; behind = behind; whole = w } in
    let m : MeetsFewer us (after_calls opening.limit calls us between) c.call = fewer_along opening.limit calls us us c.call between (rising_by opening calls placed opens) (record { part = (λ r. true, sym (all_same (rows_met us c.call))); more = omega arith }) (λ o d b at. others o d (before keeping opening calls placed chosen between i f o d b at)) in
    none (rows_met (after_calls opening.limit calls us between) c.call) m.part (suits_behind keeping opening calls placed between behind i c there w)

-- ---- nothing goes

-- a row that a call asks for and that is no newer than so many
abbrev is_old : ℕ → Call → Row → Bool
is_old given c r = asks c r && nat_le r.key given

record MeetsMore (us vs : List Update) (c : Call) : Type 0 where
  old : filter (is_old (inserts us) c) (rows_of vs) ≡ rows_met us c
  more : inserts us ≤ inserts vs

new_are_not_old : (given : ℕ) (c : Call) (cells : List ℤ) (key : ℕ) → given < key → is_old given c (row key cells) ≡ false
new_are_not_old given c cells key lt = by_test (asks c (row key cells))
  where
    by_test : (b : Bool) → (b && nat_le key given) ≡ false
    by_test true = grind (arith, nat_tests, lt)
    by_test false = refl

-- no row that is met here is taken out
none_taken_here : (limit : ℕ) (us : List Update) (d c : Call) → (is_insert d ≡ false → AsksForNone c (rows_changed limit us d)) → AllByRecursion (λ r. takes d r ≡ false) (rows_met us c)
none_taken_here limit us (call.Select q) c h = all_none (λ r. false) (rows_met us c) (all_left (rows_met us c))
none_taken_here limit us (call.Insert cells) c h = all_none (λ r. false) (rows_met us c) (all_left (rows_met us c))
none_taken_here limit us (call.Delete key) c h = all_none (λ r. r.key == key) (rows_met us c) (filters_swap (λ r. r.key == key) (asks c) (rows_of us) ∙ none_seen (asks c) (rows_changed limit us (call.Delete key)) (recursion_from_All (λ r. asks c r ≡ false) (rows_changed limit us (call.Delete key)) (h refl)))
none_taken_here limit us (call.DeleteWhere conds) c h = all_none (asks (call.DeleteWhere conds)) (rows_met us c) (filters_swap (asks (call.DeleteWhere conds)) (asks c) (rows_of us) ∙ none_seen (asks c) (rows_changed limit us (call.DeleteWhere conds)) (recursion_from_All (λ r. asks c r ≡ false) (rows_changed limit us (call.DeleteWhere conds)) (h refl)))

not_false : (b : Bool) → b ≡ false → not b ≡ true
not_false true h = absurd (cc)
not_false false h = refl

more_then : (limit : ℕ) (us vs : List Update) (d c : Call) → AreRising vs → (is_insert d ≡ false → AsksForNone c (rows_changed limit us d)) → MeetsMore us vs c → MeetsMore us (updates_then limit vs d) c
more_then limit us vs d c up h m =
    let kept : AllByRecursion (λ r. not (takes d r) ≡ true) (rows_met us c) = weaker (λ r. takes d r ≡ false) (λ r. not (takes d r) ≡ true) (rows_met us c) (λ r is. not_false (takes d r) is) (none_taken_here limit us d c h) in
    record {
      old = passing_after limit vs d (is_old (inserts us) c) up (unseen_brings limit (inserts us) (inserts vs) d (is_old (inserts us) c) m.more (λ cells is key lt. new_are_not_old (inserts us) c cells key lt)) ∙ (ap (filter (λ r. not (takes d r))) m.old ∙ all_pass (λ r. not (takes d r)) (rows_met us c) kept);
      more = let more = m.more in let given = given_after limit vs d in omega (arith, more, given);
    }

more_along : (limit : ℕ) (calls : List Logged) (us vs : List Update) (c : Call) (between : List ℕ) → AreRising vs → MeetsMore us vs c → ((o : ℕ) (d : Logged) → IsIn between o → slice_get calls o ≡ Some d → is_insert d.call ≡ false → AsksForNone c (rows_changed limit us d.call)) → MeetsMore us (after_calls limit calls vs between) c
more_along limit calls us vs c [] up m h = m
more_along limit calls us vs c (o ∷ os) up m h = more_along limit calls us (with_call limit vs (slice_get calls o)) c os (rising_with limit vs (slice_get calls o) up) (by_call (slice_get calls o) (each_call calls (λ d. is_insert d.call ≡ false → AsksForNone c (rows_changed limit us d.call)) o (slice_get calls o) refl (λ d is. h o d (0, refl) is))) (λ p d b there. h p d (suc b.0, b.1) there)
  where
    by_call : (x : Option Logged) → IfSome x (λ d. is_insert d.call ≡ false → AsksForNone c (rows_changed limit us d.call)) → MeetsMore us (with_call limit vs x) c
    by_call None u = m
    by_call (Some d) u = more_then limit us vs d.call c up u m

-- all rows that live here are old
all_old : (given : ℕ) (c : Call) (rs : List Row) → AllByRecursion (λ (r : Row). r.key ≤ given) rs → filter (is_old given c) rs ≡ filter (asks c) rs
all_old given c [] a = refl
all_old given c (r ∷ rs) a =
    let old : nat_le r.key given ≡ true = let le = a.0 in grind (arith, nat_tests, le) in
    ap (λ (t : Bool). cond (asks c r && t) (r ∷ filter (is_old given c) rs) (filter (is_old given c) rs)) old ∙ by_test (asks c r) (all_old given c rs a.1)
  where
    by_test : (b : Bool) → filter (is_old given c) rs ≡ filter (asks c) rs → cond (b && true) (r ∷ filter (is_old given c) rs) (filter (is_old given c) rs) ≡ cond b (r ∷ filter (asks c) rs) (filter (asks c) rs)
    by_test true rest = ap (λ (l : List Row). r ∷ l) rest
    by_test false rest = rest

-- no suiting rows where none go: it lacks its reply
pub wanting_fewer_lack : WantingFewerLack
wanting_fewer_lack keeping opening calls placed chosen i c opens member there none others between behind apart w =
    let us : List Update = updates_by opening calls placed in
    let vs : List Update = after_calls opening.limit calls us between in
    let up : AreRising us = rising_by opening calls placed opens in
    let f : ComesFirst keeping opening calls placed chosen between i = record { others = apart; is_chosen = member; behind = behind; whole = w } in
    let m : MeetsMore us vs c.call = more_along opening.limit calls us us c.call between up (record { old = all_old (inserts us) c.call (rows_of us) up.below; more = omega arith }) (λ o d b at. others o d (before keeping opening calls placed chosen between i f o d b at)) in
    none (rows_met vs c.call) (λ r. nat_le r.key (inserts us), sym m.old ∙ sym (filters_join (asks c.call) (λ r. nat_le r.key (inserts us)) (rows_of vs))) (suits_behind keeping opening calls placed between behind i c there w)
