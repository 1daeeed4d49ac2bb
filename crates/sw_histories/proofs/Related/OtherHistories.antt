-- A history is legal where its texts have other codes.
use Rattle.std.proofs.Common.{◌≡◌, ◌∙◌, ap, sym, refl, subst, ℕ, ◌+◌, ◌==◌, Bool, true, false, not, cond, All, List, [], ◌∷◌, ◌++◌, append_assoc, append-nil, ◌-◌}
use Rattle.sw_table.specs.Updates.{has_key, rows_of, without}
use Rattle.sw_table.specs.declared.row.Row.{Row}
use Rattle.sw_table.specs.declared.row.Update.{Update}
use Rattle.sw_table.specs.declared.row.Update.TheVariants as update
use Rattle.sw_rows.specs.Domains.{IsOver}
use Rattle.sw_rows.specs.Header.{Column, holding}
use Rattle.sw_query.specs.Scan.{answer_over, matching}
use Rattle.sw_rows.specs.Texts.{texts_differ}
use Rattle.sw_query.specs.declared.query.Call.{Call}
use Rattle.sw_query.specs.declared.query.Call.TheVariants.{Select, Insert, Delete, DeleteWhere}
use Rattle.sw_query.specs.declared.reply.Reply.TheVariants as reply
use Rattle.sw_lang.specs.Replies.{kinds_wanted, lines_of, reply_lines}
use Rattle.sw_spine.specs.History.{Agrees, AllAgree, is_select}
use Rattle.sw_spine.specs.Table.{inserts, removals, reply_to, row, updates_then}
use Rattle.sw_spine.specs.declared.history.Entry.{Entry}
use Rattle.sw_spine.specs.declared.history.State.{State}
use Rattle.sw_spine.specs.declared.history.State.TheVariants as state
use Rattle.sw_spine.proofs.StoreLemmas.{inserts_insert, inserts_remove, rows_push}
use Rattle.sw_histories.specs.ReadBack.{in_lines}
use Rattle.sw_histories.proofs.Related.OtherCodes.{AsksNumbers, SameConds, SameRow, SameRows, Texts, answer_lines, as_many, matching_same}

-- ---- calls

-- two calls that are the same, each by its texts
abbrev pub SameCall : Texts → Texts → List Column → Call → Call → Type 0
SameCall ts us cs (Select q) (Select p) = (q.want ≡ p.want) × AsksNumbers cs q.want × SameConds ts us cs q.conds p.conds
SameCall ts us cs (Insert zs) (Insert ys) = (key : ℕ) → SameRow ts us cs (row key zs) (row key ys)
SameCall ts us cs (Delete key) (Delete other) = key ≡ other
SameCall ts us cs (DeleteWhere xs) (DeleteWhere ys) = SameConds ts us cs xs ys
SameCall ts us cs (Select q) (Insert ys) = ⊥
SameCall ts us cs (Select q) (Delete key) = ⊥
SameCall ts us cs (Select q) (DeleteWhere ys) = ⊥
SameCall ts us cs (Insert zs) (Select p) = ⊥
SameCall ts us cs (Insert zs) (Delete key) = ⊥
SameCall ts us cs (Insert zs) (DeleteWhere ys) = ⊥
SameCall ts us cs (Delete key) (Select p) = ⊥
SameCall ts us cs (Delete key) (Insert ys) = ⊥
SameCall ts us cs (Delete key) (DeleteWhere ys) = ⊥
SameCall ts us cs (DeleteWhere xs) (Select p) = ⊥
SameCall ts us cs (DeleteWhere xs) (Insert ys) = ⊥
SameCall ts us cs (DeleteWhere xs) (Delete key) = ⊥

-- the texts are told apart on both sides, and each attribute of texts is over those of its side
pub record Apart (ts us : Texts) (cs : List Column) : Type 0 where
  pub one : texts_differ ts ≡ true
  pub other : texts_differ us ≡ true
  pub own : All (λ c. IsOver ts c.1) cs

-- a select stays one
pub select_same : (ts us : Texts) (cs : List Column) (c d : Call) → SameCall ts us cs c d → is_select c ≡ is_select d
select_same ts us cs (Select q) (Select p) h = refl
select_same ts us cs (Insert zs) (Insert ys) h = refl
select_same ts us cs (Delete key) (Delete other) h = refl
select_same ts us cs (DeleteWhere xs) (DeleteWhere ys) h = refl
select_same ts us cs (Select q) (Insert ys) h = absurd h
select_same ts us cs (Select q) (Delete key) h = absurd h
select_same ts us cs (Select q) (DeleteWhere ys) h = absurd h
select_same ts us cs (Insert zs) (Select p) h = absurd h
select_same ts us cs (Insert zs) (Delete key) h = absurd h
select_same ts us cs (Insert zs) (DeleteWhere ys) h = absurd h
select_same ts us cs (Delete key) (Select p) h = absurd h
select_same ts us cs (Delete key) (Insert ys) h = absurd h
select_same ts us cs (Delete key) (DeleteWhere ys) h = absurd h
select_same ts us cs (DeleteWhere xs) (Select p) h = absurd h
select_same ts us cs (DeleteWhere xs) (Insert ys) h = absurd h
select_same ts us cs (DeleteWhere xs) (Delete key) h = absurd h

-- ---- updates

-- what two such histories bring: rows of the same keys and values
pub record SameUpdates (ts us : Texts) (cs : List Column) (one other : List Update) : Type 0 where
  pub rows : SameRows ts us cs (rows_of one) (rows_of other)
  pub given : inserts one ≡ inserts other

rows-more : (ts us : Texts) (cs : List Column) (rs ss : List Row) (r s : Row) → SameRows ts us cs rs ss → SameRow ts us cs r s → SameRows ts us cs (rs ++ r ∷ []) (ss ++ s ∷ [])
rows-more ts us cs [] [] r s h k = (k, tt)
rows-more ts us cs [] (y ∷ ss) r s h k = absurd h
rows-more ts us cs (x ∷ rs) [] r s h k = absurd h
rows-more ts us cs (x ∷ rs) (y ∷ ss) r s h k = (h.0, rows-more ts us cs rs ss r s h.1 k)

key-same : (ts us : Texts) (cs : List Column) (key : ℕ) (rs ss : List Row) → SameRows ts us cs rs ss → has_key key rs ≡ has_key key ss
key-same ts us cs key [] [] h = refl
key-same ts us cs key [] (s ∷ ss) h = absurd h
key-same ts us cs key (r ∷ rs) [] h = absurd h
key-same ts us cs key (r ∷ rs) (s ∷ ss) h = rw (h.0.key, key-same ts us cs key rs ss h.1) refl

without-same : (ts us : Texts) (cs : List Column) (key : ℕ) (rs ss : List Row) → SameRows ts us cs rs ss → SameRows ts us cs (without key rs) (without key ss)
without-same ts us cs key [] [] h = tt
without-same ts us cs key [] (s ∷ ss) h = absurd h
without-same ts us cs key (r ∷ rs) [] h = absurd h
without-same ts us cs key (r ∷ rs) (s ∷ ss) h = by-test (without-same ts us cs key rs ss h.1) (not (r.key == key)) (not (s.key == key)) (ap (λ k. not (k == key)) h.0.key)
  where
    by-test : SameRows ts us cs (without key rs) (without key ss) → (b q : Bool) → b ≡ q → SameRows ts us cs (cond b (r ∷ without key rs) (without key rs)) (cond q (s ∷ without key ss) (without key ss))
    by-test rest true true e = (h.0, rest)
    by-test rest true false e = absurd cc
    by-test rest false true e = absurd cc
    by-test rest false false e = rest

none-same : (ts us : Texts) (cs : List Column) (one other : List Update) → SameUpdates ts us cs one other → SameUpdates ts us cs (one ++ []) (other ++ [])
none-same ts us cs one other h = rw (append-nil one, append-nil other) h

insert-same : (ts us : Texts) (cs : List Column) (one other : List Update) (r s : Row) → SameUpdates ts us cs one other → SameRow ts us cs r s → SameUpdates ts us cs (one ++ update.Insert r ∷ []) (other ++ update.Insert s ∷ [])
insert-same ts us cs one other r s h k = record {
  rows = rw (rows_push one (update.Insert r), rows_push other (update.Insert s)) (rows-more ts us cs (rows_of one) (rows_of other) r s h.rows k);
  given = inserts_insert one r ∙ ap (λ n. n + 1) h.given ∙ sym (inserts_insert other s);
}

remove-same : (ts us : Texts) (cs : List Column) (one other : List Update) (k j : ℕ) → k ≡ j → SameUpdates ts us cs one other → SameUpdates ts us cs (one ++ update.Remove k ∷ []) (other ++ update.Remove j ∷ [])
remove-same ts us cs one other k j e h = subst (λ n. SameUpdates ts us cs (one ++ update.Remove k ∷ []) (other ++ update.Remove n ∷ [])) e (record {
  rows = rw (rows_push one (update.Remove k), rows_push other (update.Remove k)) (without-same ts us cs k (rows_of one) (rows_of other) h.rows);
  given = inserts_remove one k ∙ h.given ∙ sym (inserts_remove other k);
})

removals-same : (ts us : Texts) (cs : List Column) (one other : List Update) (rs ss : List Row) → SameRows ts us cs rs ss → SameUpdates ts us cs one other → SameUpdates ts us cs (one ++ removals rs) (other ++ removals ss)
removals-same ts us cs one other [] [] k h = none-same ts us cs one other h
removals-same ts us cs one other [] (s ∷ ss) k h = absurd k
removals-same ts us cs one other (r ∷ rs) [] k h = absurd k
removals-same ts us cs one other (r ∷ rs) (s ∷ ss) k h =
    subst (λ l. SameUpdates ts us cs l (other ++ removals (s ∷ ss))) (append_assoc one (update.Remove r.key ∷ []) (removals rs))
    (subst (SameUpdates ts us cs ((one ++ update.Remove r.key ∷ []) ++ removals rs)) (append_assoc other (update.Remove s.key ∷ []) (removals ss))
    (removals-same ts us cs (one ++ update.Remove r.key ∷ []) (other ++ update.Remove s.key ∷ []) rs ss k.1 (remove-same ts us cs one other r.key s.key k.0.key h)))

-- ---- a call

-- after the same call the updates are the same, and the reply has the same lines
call-same : (ts us : Texts) (cs : List Column) (limit : ℕ) (one other : List Update) (c d : Call) → Apart ts us cs → SameUpdates ts us cs one other → SameCall ts us cs c d
    → (reply_lines cs c (reply_to limit one c) ≡ reply_lines (holding us cs) d (reply_to limit other d)) × SameUpdates ts us cs (updates_then limit one c) (updates_then limit other d)
call-same ts us cs limit one other (Select q) (Select p) a h (w, n, k) = (
  answer_lines ts us cs (matching q.conds (rows_of one)) (matching p.conds (rows_of other)) q.want a.own (matching_same ts us cs (rows_of one) (rows_of other) q.conds p.conds a.one a.other h.rows k) n
      ∙ ap (λ x. lines_of (kinds_wanted (holding us cs) x) (answer_over (matching p.conds (rows_of other)) x)) w,
  none-same ts us cs one other h,
)
call-same ts us cs limit one other (Insert zs) (Insert ys) a h k = by-room (inserts one == limit) (inserts other == limit) (ap (λ n. n == limit) h.given)
  where
    by-room : (b q : Bool) → b ≡ q
        → (lines_of [] (cond b reply.Full (reply.Inserted (inserts one + 1))) ≡ lines_of [] (cond q reply.Full (reply.Inserted (inserts other + 1))))
        × SameUpdates ts us cs (one ++ cond b [] (update.Insert (row (inserts one + 1) zs) ∷ [])) (other ++ cond q [] (update.Insert (row (inserts other + 1) ys) ∷ []))
    by-room true true e = (refl, none-same ts us cs one other h)
    by-room true false e = absurd cc
    by-room false true e = absurd cc
    by-room false false e = (
      ap (λ n. lines_of [] (reply.Inserted (n + 1))) h.given,
      insert-same ts us cs one other (row (inserts one + 1) zs) (row (inserts other + 1) ys) h (subst (λ n. SameRow ts us cs (row (inserts one + 1) zs) (row (n + 1) ys)) h.given (k (inserts one + 1))),
    )
call-same ts us cs limit one other (Delete key) (Delete j) a h e = by-key (has_key key (rows_of one)) (has_key j (rows_of other)) (key-same ts us cs key (rows_of one) (rows_of other) h.rows ∙ ap (λ n. has_key n (rows_of other)) e)
  where
    by-key : (b q : Bool) → b ≡ q
        → (lines_of [] (cond b reply.Removed reply.NoSuchKey) ≡ lines_of [] (cond q reply.Removed reply.NoSuchKey))
        × SameUpdates ts us cs (one ++ cond b (update.Remove key ∷ []) []) (other ++ cond q (update.Remove j ∷ []) [])
    by-key true true f = (refl, remove-same ts us cs one other key j e h)
    by-key true false f = absurd cc
    by-key false true f = absurd cc
    by-key false false f = (refl, none-same ts us cs one other h)
call-same ts us cs limit one other (DeleteWhere xs) (DeleteWhere ys) a h k =
    let met = matching_same ts us cs (rows_of one) (rows_of other) xs ys a.one a.other h.rows k in
    (ap (λ n. lines_of [] (reply.RemovedMany n)) (as_many ts us cs (matching xs (rows_of one)) (matching ys (rows_of other)) met), removals-same ts us cs one other (matching xs (rows_of one)) (matching ys (rows_of other)) met h)
call-same ts us cs limit one other (Select q) (Insert ys) a h k = absurd k
call-same ts us cs limit one other (Select q) (Delete key) a h k = absurd k
call-same ts us cs limit one other (Select q) (DeleteWhere ys) a h k = absurd k
call-same ts us cs limit one other (Insert zs) (Select p) a h k = absurd k
call-same ts us cs limit one other (Insert zs) (Delete key) a h k = absurd k
call-same ts us cs limit one other (Insert zs) (DeleteWhere ys) a h k = absurd k
call-same ts us cs limit one other (Delete key) (Select p) a h k = absurd k
call-same ts us cs limit one other (Delete key) (Insert ys) a h k = absurd k
call-same ts us cs limit one other (Delete key) (DeleteWhere ys) a h k = absurd k
call-same ts us cs limit one other (DeleteWhere xs) (Select p) a h k = absurd k
call-same ts us cs limit one other (DeleteWhere xs) (Insert ys) a h k = absurd k
call-same ts us cs limit one other (DeleteWhere xs) (Delete key) a h k = absurd k

-- ---- entries

-- the same sessions and calls, and lines for replies
abbrev pub SameEntries : Texts → Texts → List Column → List Entry → List Entry → Type 0
SameEntries ts us cs [] [] = Unit {0}
SameEntries ts us cs [] (f ∷ fs) = ⊥
SameEntries ts us cs (e ∷ es) [] = ⊥
SameEntries ts us cs (e ∷ es) (f ∷ fs) = SameCall ts us cs e.call f.call × (f.state ≡ in_lines cs e.call e.state) × SameEntries ts us cs es fs

state-same : (cs ds : List Column) (limit : ℕ) (one other : List Update) (c d : Call) (st : State) → is_select c ≡ is_select d → reply_lines cs c (reply_to limit one c) ≡ reply_lines ds d (reply_to limit other d) → Agrees cs limit one c st → Agrees ds limit other d (in_lines cs c st)
state-same cs ds limit one other c d (state.Answered r) s h a = ap (reply_lines cs c) a ∙ h
state-same cs ds limit one other c d (state.Lines ls) s h a = a ∙ h
state-same cs ds limit one other c d state.Open s h a = sym s ∙ a
state-same cs ds limit one other c d state.Void s h a = sym s ∙ a

-- entries agree under other codes as before
pub all_agree_still : (ts us : Texts) (cs : List Column) (limit : ℕ) (one other : List Update) (es fs : List Entry) → Apart ts us cs → SameUpdates ts us cs one other → SameEntries ts us cs es fs → AllAgree cs limit one es → AllAgree (holding us cs) limit other fs
all_agree_still ts us cs limit one other [] [] a h s agree = tt
all_agree_still ts us cs limit one other [] (f ∷ fs) a h s agree = absurd s
all_agree_still ts us cs limit one other (e ∷ es) [] a h s agree = absurd s
all_agree_still ts us cs limit one other (e ∷ es) (f ∷ fs) a h s agree =
    let then_ = call-same ts us cs limit one other e.call f.call a h s.0 in (
      subst (Agrees (holding us cs) limit other f.call) (sym s.1) (state-same cs (holding us cs) limit one other e.call f.call e.state (select_same ts us cs e.call f.call s.0) then_.0 agree.0),
      all_agree_still ts us cs limit (updates_then limit one e.call) (updates_then limit other f.call) es fs a then_.1 s.2 agree.1,
    )
