-- What a session's visit to the spine leaves of the desk, and of the session.
use Rattle.std.proofs.Common.{◌≡◌, ℕ, ◌+◌, ◌≤◌, List, [], ◌∷◌, ◌++◌, length, set, Bool, false, Option, Some, None, refl, sym, ap, ◌∙◌, subst, arith}
use Rattle.std.specs.Prelude.{IfSome, slice_get}
use Rattle.std.proofs.lemmas.List.{append-nil}
use mathlib.Core.List.{IsPrefix}
use Rattle.sw_rows.specs.Header.{Column}
use Rattle.sw_table.specs.declared.row.Row.{Row}
use Rattle.sw_table.specs.declared.row.Update.{Update}
use Rattle.sw_query.specs.declared.query.Query.{Query}
use Rattle.sw_query.specs.declared.query.Call.{Call}
use Rattle.sw_query.specs.declared.query.Call.TheVariants as call
use Rattle.sw_query.specs.declared.reply.Reply.{Reply}
use Rattle.sw_spine.specs.Table.{opened}
use Rattle.sw_spine.specs.History.{entry, mine, with_answer}
use Rattle.sw_spine.specs.Books.{Books, KeepsOthers, KeepsTaken, reply_now, updates, waits_for, with_answered, with_open, with_published, with_settled}
use Rattle.sw_spine.specs.declared.history.State.{State}
use Rattle.sw_spine.specs.declared.history.State.TheVariants as state
use Rattle.sw_tie.specs.declared.Book.{Book}
use Rattle.sw_tie.specs.declared.Share.{Share}
use Rattle.sw_versions.specs.Rules.{updates_in}
use Rattle.sw_versions.proofs.Prefixes.{prefix_trans}
use Rattle.sw_engine.specs.Desk.{IsDesk, IsTied}
use Rattle.sw_engine.specs.Own.{own, own_settled}
use Rattle.sw_engine.specs.Published.{EndsEntry, Grows, IsWhole, published_of, session_shown}
use Rattle.sw_engine.specs.Sessions.{Answers, Begins, IsHeld, Settles, Stays, Visited, standing}
use Rattle.sw_engine.proofs.Owned.{KeepsOwn, answered_keeps, open_keeps, own_after_settled, own_push, published_keeps, settled_keeps, settled_last}
use Rattle.sw_engine.proofs.Published.{behind_set, prefix_same, published_grows, published_kept, published_more, share_grows}
use Rattle.sw_engine.proofs.Ties.{is_of_same, length_set, mine_is, own_is, visit_tied, waits_is}
use Rattle.sw_engine.proofs.Whole.{ends_answered, ends_open, ends_published, ends_settled, whole_after}

-- ---- of the spine

-- the table is the same, all other sessions keep what is theirs, all that is published stays, and it ends with an entry
pub record Moves (limit : ℕ) (opening : List Row) (n : ℕ) (s x : Books) : Type 0 where
  pub columns_are : x.columns ≡ s.columns
  pub rows_are : x.rows ≡ s.rows
  pub limit_is : x.limit ≡ s.limit
  pub sessions_are : x.sessions ≡ s.sessions
  pub own : KeepsOwn n s x
  pub published : IsPrefix (published_of opening s) (published_of opening x)
  pub ends : EndsEntry limit opening x.entries x.published

-- so it is where a select begins, which brings no update
pub moves_open : (limit : ℕ) (opening : List Row) (n : ℕ) (q : Query) (head : ℕ) (s x : Books) → x ≡ with_open n q head s → updates x ≡ updates s → EndsEntry limit opening s.entries s.published → Moves limit opening n s x
moves_open limit opening n q head s x is same ends = record {
  columns_are = ap (λ (b : Books). b.columns) is;
  rows_are = ap (λ (b : Books). b.rows) is;
  limit_is = ap (λ (b : Books). b.limit) is;
  sessions_are = ap (λ (b : Books). b.sessions) is;
  own = open_keeps n q head s x is;
  published = prefix_same (published_of opening s) (published_of opening x) (sym (published_kept opening s x (ap (λ (b : Books). b.published) is) same));
  ends = ends_open limit opening n q head s x is ends;
}

-- so it is where an entry is settled, which brings no update
pub moves_settled : (limit : ℕ) (opening : List Row) (n : ℕ) (st : State) (s x : Books) → x ≡ with_settled n st s → updates x ≡ updates s → EndsEntry limit opening s.entries s.published → Moves limit opening n s x
moves_settled limit opening n st s x is same ends = record {
  columns_are = ap (λ (b : Books). b.columns) is;
  rows_are = ap (λ (b : Books). b.rows) is;
  limit_is = ap (λ (b : Books). b.limit) is;
  sessions_are = ap (λ (b : Books). b.sessions) is;
  own = settled_keeps n st s x is;
  published = prefix_same (published_of opening s) (published_of opening x) (sym (published_kept opening s x (ap (λ (b : Books). b.published) is) same));
  ends = ends_settled limit opening n st s x is ends;
}

-- so it is where a call is answered, whose updates come last
pub moves_answered : (limit : ℕ) (opening : List Row) (n : ℕ) (c : Call) (s x : Books) (more : List Update) → x ≡ with_answered n c s → updates x ≡ updates s ++ more → s.published ≤ length (updates s) → EndsEntry limit opening s.entries s.published → Moves limit opening n s x
moves_answered limit opening n c s x more is added le ends = record {
  columns_are = ap (λ (b : Books). b.columns) is;
  rows_are = ap (λ (b : Books). b.rows) is;
  limit_is = ap (λ (b : Books). b.limit) is;
  sessions_are = ap (λ (b : Books). b.sessions) is;
  own = answered_keeps n c s x is;
  published = prefix_same (published_of opening s) (published_of opening x) (sym (published_more opening s x more (ap (λ (b : Books). b.published) is) added le));
  ends = ends_answered limit opening n c s x is ends;
}

-- so it is where no less is published, up to a number at which an entry ends
pub moves_published : (limit : ℕ) (opening : List Row) (n count : ℕ) (s x : Books) → x ≡ with_published count s → s.published ≤ count → EndsEntry limit opening s.entries count → Moves limit opening n s x
moves_published limit opening n count s x is low ends = record {
  columns_are = ap (λ (b : Books). b.columns) is;
  rows_are = ap (λ (b : Books). b.rows) is;
  limit_is = ap (λ (b : Books). b.limit) is;
  sessions_are = ap (λ (b : Books). b.sessions) is;
  own = published_keeps n count s x is;
  published = subst (λ (b : Books). IsPrefix (published_of opening s) (published_of opening b)) (sym is) (published_grows opening s count low);
  ends = ends_published limit opening count s x is ends;
}

-- ---- of the desk

-- the desk stays one behind a visit, where the session's row shows the new books and all stay tied
pub desk_moved : (sn hn : ℕ) (columns : List Column) (opening : List Row) (limit may : ℕ) (s x : Books) (many most : ℕ) (sessions heads sessions' heads' : Book Books) (n k : ℕ) (v : Books)
    → IsDesk sn hn columns opening limit may s many most sessions heads → Moves limit opening n s x → sessions'.name ≡ sessions.name → heads'.name ≡ heads.name
    → sessions'.rows ≡ set sessions.rows k (v, false) → v ≡ x → IsTied x sessions'.rows heads'.rows → IsDesk sn hn columns opening limit may x many most sessions' heads'
desk_moved sn hn columns opening limit may s x many most sessions heads sessions' heads' n k v had m named named' rows new tied = record {
  sessions_named = named ∙ had.sessions_named;
  heads_named = named' ∙ had.heads_named;
  many_are = had.many_are ∙ sym (ap length rows ∙ length_set sessions.rows k (v, false));
  of = is_of_same columns opening limit s x had.of m.columns_are m.rows_are m.limit_is;
  tied = tied;
  behind = behind_set limit opening s x v sessions.rows sessions'.rows k had.behind m.published (whole_after columns opening limit s x had.of m.columns_are m.rows_are m.limit_is m.ends) new rows;
  ends = m.ends;
  most_is = had.most_is;
  few = had.few;
  within = let same = m.sessions_are in let was = had.within in omega (arith, same, was);
}

-- of a visit that no head makes
pub desk_visited : (sn hn : ℕ) (columns : List Column) (opening : List Row) (limit may : ℕ) (s x : Books) (many most : ℕ) (sessions heads sessions' : Book Books) (n k : ℕ) (v : Books)
    → IsDesk sn hn columns opening limit may s many most sessions heads → Moves limit opening n s x → n ≡ k + 1 → KeepsOthers n s x → KeepsTaken s x → sessions'.name ≡ sessions.name
    → sessions'.rows ≡ set sessions.rows k (v, false) → v ≡ x → IsDesk sn hn columns opening limit may x many most sessions' heads
desk_visited sn hn columns opening limit may s x many most sessions heads sessions' n k v had m is others taken named rows new =
    desk_moved sn hn columns opening limit may s x many most sessions heads sessions' heads n k v had m named refl rows new (visit_tied s x sessions.rows sessions'.rows heads.rows k n v had.tied is others m.own taken m.sessions_are new rows)

-- ---- of the session

-- what its share shows grows
pub grows_visited : (sn hn : ℕ) (columns : List Column) (opening : List Row) (limit may : ℕ) (s x : Books) (many most : ℕ) (sessions heads : Book Books) (n k : ℕ) (a v : Books)
    → IsDesk sn hn columns opening limit may s many most sessions heads → Moves limit opening n s x → slice_get sessions.rows k ≡ Some (a, false) → v ≡ x → Grows opening a v
grows_visited sn hn columns opening limit may s x many most sessions heads n k a v had m at new = share_grows limit opening s x a v sessions.rows heads.rows k had.tied had.behind at m.published m.own.1 new

-- its state is sound
pub held_visited : (sn hn : ℕ) (columns : List Column) (opening : List Row) (limit may : ℕ) (s x : Books) (many most : ℕ) (sessions heads : Book Books) (n : ℕ) (share share' : Share Books) (receipt : List (List Update))
    → IsDesk sn hn columns opening limit may s many most sessions heads → Moves limit opening n s x → IsHeld sn limit opening n share receipt → slice_get sessions.rows share.number ≡ Some (share.value, false)
    → share'.name ≡ share.name → share'.number ≡ share.number → share'.value ≡ x → IsHeld sn limit opening n share' receipt
held_visited sn hn columns opening limit may s x many most sessions heads n share share' receipt had m held at named number new = (
  named ∙ held.0,
  held.1 ∙ ap (λ i. i + 1) (sym number),
  prefix_trans (updates_in receipt) (published_of opening share.value) (published_of opening share'.value) held.2 (grows_visited sn hn columns opening limit may s x many most sessions heads n share.number share.value share'.value had m at new).0,
  subst (IsWhole limit opening) (sym new) (whole_after columns opening limit s x had.of m.columns_are m.rows_are m.limit_is m.ends),
)

-- where what its share shows grows, the session was visited
pub visited_by : (opening : List Row) (n : ℕ) (a b : Books) (receipt : List (List Update)) (missed : ℕ) → Grows opening a b → Visited (session_shown opening n a receipt missed) (session_shown opening n b receipt missed)
visited_by opening n a b receipt missed grows = record { number = refl; given = refl; missed = refl; entries = grows.1; published = grows.0 }

-- where the history's entries stay, nothing of the session's changes
pub stays_by : (opening : List Row) (n : ℕ) (s x a v : Books) (rows heads : List (Books × Bool)) (k : ℕ) (receipt : List (List Update)) (missed : ℕ)
    → IsTied s rows heads → slice_get rows k ≡ Some (a, false) → n ≡ k + 1 → Grows opening a v → x.entries ≡ s.entries → v ≡ x
    → Stays (session_shown opening n a receipt missed) (session_shown opening n v receipt missed)
stays_by opening n s x a v rows heads k receipt missed tied at is grows same new = record {
  visited = visited_by opening n a v receipt missed grows;
  calls = ap (λ (b : Books). mine n b.entries) new ∙ ap (mine n) same ∙ mine_is s rows heads k n a tied at is;
  own = ap (λ (b : Books). own n b.entries) new ∙ ap (own n) same ∙ own_is s rows heads k n a tied at is;
}

-- a call that the spine answers at its end is answered to the session
pub answers_by : (opening : List Row) (n : ℕ) (c : Call) (r : Reply) (s x a v : Books) (rows heads : List (Books × Bool)) (k : ℕ) (receipt : List (List Update)) (missed : ℕ)
    → IsTied s rows heads → slice_get rows k ≡ Some (a, false) → n ≡ k + 1 → Grows opening a v → r ≡ reply_now c s → x ≡ with_answered n c s → mine n x.entries ≡ mine n s.entries ++ (c, r) ∷ [] → v ≡ x
    → Answers c r (session_shown opening n a receipt missed) (session_shown opening n v receipt missed)
answers_by opening n c r s x a v rows heads k receipt missed tied at is grows reply done one new = record {
  visited = visited_by opening n a v receipt missed grows;
  calls = ap (λ (b : Books). mine n b.entries) new ∙ one ∙ ap (λ (l : List (Call × Reply)). l ++ (c, r) ∷ []) (mine_is s rows heads k n a tied at is);
  own = ap (λ (b : Books). own n b.entries) (new ∙ done)
      ∙ own_push n s.entries (entry n c (state.Answered (reply_now c s))) refl
      ∙ (λ i. own_is s rows heads k n a tied at is i ++ (c, state.Answered (sym reply i)) ∷ []);
}

-- where the spine settles a session's entry, the session shows its select as settled
pub settles_by : (opening : List Row) (n : ℕ) (st : State) (s x a v : Books) (rows heads : List (Books × Bool)) (k : ℕ) (receipt : List (List Update)) (missed : ℕ)
    → IsTied s rows heads → slice_get rows k ≡ Some (a, false) → n ≡ k + 1 → Grows opening a v → x ≡ with_settled n st s
    → IfSome (waits_for n s) (λ w. mine n x.entries ≡ mine n s.entries ++ with_answer w.0 st []) → waits_for n x ≡ None → v ≡ x
    → Settles st (standing opening n a receipt missed) (standing opening n v receipt missed)
settles_by opening n st s x a v rows heads k receipt missed tied at is grows done calls rest new =
    let waited : waits_for n s ≡ waits_for n a = waits_is s rows heads k n a (waits_for n a) tied at is refl in
    let had : mine n s.entries ≡ mine n a.entries = mine_is s rows heads k n a tied at is in record {
      visited = visited_by opening n a v receipt missed grows;
      calls = subst (λ (w : Option (Call × List Update)). IfSome w (λ o. mine n v.entries ≡ mine n a.entries ++ with_answer o.0 st [])) waited
          (subst (λ (u : List (Call × Reply)). IfSome (waits_for n s) (λ o. mine n v.entries ≡ u ++ with_answer o.0 st [])) had
          (subst (λ (b : Books). IfSome (waits_for n s) (λ o. mine n b.entries ≡ mine n s.entries ++ with_answer o.0 st [])) (sym new) calls));
      own = ap (λ (b : Books). own n b.entries) (new ∙ done) ∙ own_after_settled n st s.entries ∙ ap (own_settled st) (own_is s rows heads k n a tied at is);
      rest = ap (waits_for n) new ∙ rest;
    }

-- a void entry adds no answered call
pub void_calls : (w : Option (Call × List Update)) (xs ys : List (Call × Reply)) → xs ≡ ys → IfSome w (λ o. xs ≡ ys ++ with_answer o.0 state.Void [])
void_calls None xs ys e = tt
void_calls (Some o) xs ys e = e ∙ sym (append-nil ys)

-- a select that begins in the spine begins as the session shows it, which waited for none
pub begins_by : (opening : List Row) (n : ℕ) (q : Query) (head : ℕ) (us : List Update) (s x a v : Books) (rows heads : List (Books × Bool)) (k : ℕ) (receipt : List (List Update)) (missed : ℕ)
    → IsTied s rows heads → slice_get rows k ≡ Some (a, false) → n ≡ k + 1 → Grows opening a v → waits_for n s ≡ None → x ≡ with_open n q head s → mine n x.entries ≡ mine n s.entries
    → waits_for n x ≡ Some (call.Select q, us) → v ≡ x → Begins q us (standing opening n a receipt missed) (standing opening n v receipt missed)
begins_by opening n q head us s x a v rows heads k receipt missed tied at is grows none done same waits new = record {
  visited = visited_by opening n a v receipt missed grows;
  calls = ap (λ (b : Books). mine n b.entries) new ∙ same ∙ mine_is s rows heads k n a tied at is;
  own = λ st. ap (λ (b : Books). own_settled st (own n b.entries)) (new ∙ done)
      ∙ ap (own_settled st) (own_push n s.entries (entry n (call.Select q) state.Open) refl)
      ∙ settled_last n s.limit (opened s.rows) s.entries (call.Select q) st none
      ∙ ap (λ (l : List (Call × State)). l ++ (call.Select q, st) ∷ []) (own_is s rows heads k n a tied at is);
  waits = ap (waits_for n) new ∙ waits;
}
