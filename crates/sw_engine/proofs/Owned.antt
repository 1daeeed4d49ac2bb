-- What one more entry, and an entry that is settled, do to the sessions' own entries.
use Rattle.std.proofs.Common.{◌≡◌, ◌≢◌, ◌++◌, ◌==◌, ℕ, true, false, List, [], ◌∷◌, None, refl, sym, ap, ◌∙◌, ◌+◌, arith, cond, subst}
use Rattle.std.proofs.lemmas.Bool.Decides.{nat_tests}
use Rattle.sw_table.specs.declared.row.Update.{Update}
use Rattle.sw_query.specs.declared.query.Query.{Query}
use Rattle.sw_query.specs.declared.query.Call.{Call}
use Rattle.sw_query.specs.declared.query.Call.TheVariants as call
use Rattle.sw_spine.specs.Table.{updates_then}
use Rattle.sw_spine.specs.History.{entry, is_absent, mine, settled, waiting_after}
use Rattle.sw_query.specs.declared.refusal.Refusal.{Refusal}
use Rattle.sw_query.specs.declared.refusal.Refusal.TheVariants as refusal
use Rattle.sw_spine.specs.Books.{Books, Opens, RefusesEntry, is_opened, reply_now, with_answered, with_open, with_published, with_settled}
use Rattle.sw_spine.specs.declared.history.Entry.{Entry}
use Rattle.sw_spine.specs.declared.history.State.{State}
use Rattle.sw_spine.specs.declared.history.State.TheVariants as state
use Rattle.sw_table.specs.declared.row.Row.{Row}
use Rattle.sw_spine.proofs.Histories.{mine_absent}
use Rattle.sw_tie.specs.declared.Share.{Share}
use Rattle.sw_versions.specs.Rules.{updates_in}
use Rattle.sw_engine.specs.Later.{Begin}
use Rattle.sw_engine.specs.Own.{IsNew, own, own_settled}
use Rattle.sw_engine.specs.Sessions.{Refuses}
use Rattle.sw_engine.specs.Published.{IsNewShare, published_of, session_shown}
use Rattle.sw_engine.proofs.Later.{begin_push, begin_self, begin_settled}

-- ---- of entries

-- an entry of a session, at the end of the history, is the last of its own entries
pub own_push : (s : ℕ) (es : List Entry) (e : Entry) → e.session ≡ s → own s (es ++ e ∷ []) ≡ own s es ++ (e.call, e.state) ∷ []
own_push s [] e same = grind (arith, nat_tests, same)
own_push s (x ∷ es) e same = grind (arith, nat_tests, own_push s es e same)

-- an entry of another session there leaves them
pub own_push_other : (s : ℕ) (es : List Entry) (e : Entry) → e.session ≢ s → own s (es ++ e ∷ []) ≡ own s es
own_push_other s [] e apart = grind (arith, nat_tests, apart)
own_push_other s (x ∷ es) e apart = ap (λ l. cond (x.session == s) ((x.call, x.state) ∷ l) l) (own_push_other s es e apart)

-- where a session's open entry is settled, so is the one among its own entries
pub own_after_settled : (s : ℕ) (st : State) (es : List Entry) → own s (settled s st es) ≡ own_settled st (own s es)
own_after_settled s st [] = refl
own_after_settled s st (x ∷ es) = grind (arith, nat_tests, own_after_settled s st es)

-- where another session's is settled, they stay
pub own_settled_other : (s : ℕ) (st : State) (k : ℕ) (es : List Entry) → k ≢ s → own k (settled s st es) ≡ own k es
own_settled_other s st k [] apart = refl
own_settled_other s st k (x ∷ es) apart = grind (arith, nat_tests, apart, own_settled_other s st k es apart)

-- a session of which no entry is has no own entries
pub own_absent : (s : ℕ) (es : List Entry) → is_absent s es ≡ true → own s es ≡ []
own_absent s [] h = refl
own_absent s (x ∷ es) h = grind (arith, nat_tests, h, own_absent s es)

-- where a session waits for nothing, the entry that it adds is the one that is settled
pub settled_last : (s limit : ℕ) (us : List Update) (es : List Entry) (c : Call) (st : State) → waiting_after s limit us es ≡ None → own_settled st (own s es ++ (c, state.Open) ∷ []) ≡ own s es ++ (c, st) ∷ []
settled_last s limit us [] c st none = refl
settled_last s limit us (x ∷ es) c st none = grind (arith, nat_tests, none, settled_last s limit (updates_then limit us x.call) es c st)

-- ---- of books

-- the own entries of all other sessions stay, and the entries begin those afterwards
abbrev pub KeepsOwn : ℕ → Books → Books → Type 0
KeepsOwn session old new = ((s : ℕ) → s ≢ session → own s new.entries ≡ own s old.entries) × Begin old.entries new.entries

-- a select that begins leaves the own entries of other sessions, and all entries stay
pub open_keeps : (session : ℕ) (q : Query) (head : ℕ) (b x : Books) → x ≡ with_open session q head b → KeepsOwn session b x
open_keeps session q head b x is = (
  (λ k apart. ap (λ (y : Books). own k y.entries) is ∙ own_push_other k b.entries (entry session (call.Select q) state.Open) (λ e. apart (sym e))),
  subst (λ (y : Books). Begin b.entries y.entries) (sym is) (begin_push b.entries (entry session (call.Select q) state.Open)),
)

-- so does an entry that is settled
pub settled_keeps : (session : ℕ) (st : State) (b x : Books) → x ≡ with_settled session st b → KeepsOwn session b x
settled_keeps session st b x is = (
  (λ k apart. ap (λ (y : Books). own k y.entries) is ∙ own_settled_other session st k b.entries apart),
  subst (λ (y : Books). Begin b.entries y.entries) (sym is) (begin_settled session st b.entries),
)

-- so does a call that is answered
pub answered_keeps : (session : ℕ) (c : Call) (b x : Books) → x ≡ with_answered session c b → KeepsOwn session b x
answered_keeps session c b x is = (
  (λ k apart. ap (λ (y : Books). own k y.entries) is ∙ own_push_other k b.entries (entry session c (state.Answered (reply_now c b))) (λ e. apart (sym e))),
  subst (λ (y : Books). Begin b.entries y.entries) (sym is) (begin_push b.entries (entry session c (state.Answered (reply_now c b)))),
)

-- so does a publishing
pub published_keeps : (session n : ℕ) (b x : Books) → x ≡ with_published n b → KeepsOwn session b x
published_keeps session n b x is = (
  (λ k apart. ap (λ (y : Books). own k y.entries) is),
  subst (λ (y : Books). Begin b.entries y.entries) (sym is) (begin_self b.entries),
)

-- why a visit that adds an entry is refused
pub refuses : (b : Books) (e : Refusal) → RefusesEntry b e → Refuses b.entries e
refuses b refusal.NoMemory h = (tt, tt)
refuses b (refusal.HistoryFull _) h = (h.0, h.1)
refuses b (refusal.TooMany _) h = absurd h
refuses b (refusal.BadTable _ _) h = absurd h
refuses b (refusal.BadLine _ _) h = absurd h
refuses b (refusal.UnknownAttribute _) h = absurd h
refuses b (refusal.NoBlank _ _) h = absurd h
refuses b (refusal.Short _ _ _) h = absurd h
refuses b (refusal.Contended _ _) h = absurd h
refuses b (refusal.SharesOut _ _) h = absurd h
refuses b (refusal.NotLegal _) h = absurd h
refuses b refusal.Input h = absurd h
refuses b refusal.Output h = absurd h
refuses b (refusal.Ahead _ _) h = absurd h

-- a session that was just opened has no entries
pub new_absent : (b x : Books) (n : ℕ) → Opens b x n → ((s : ℕ) → is_opened s b ≡ false → is_absent s b.entries ≡ true) → is_absent n x.entries ≡ true
new_absent b x n opens known =
    let next : n ≡ b.sessions + 1 = opens.0 ∙ ap (λ (y : Books). y.sessions) opens.2 in
    let unknown : is_opened n b ≡ false = grind (arith, nat_tests, next) in
    ap (λ (y : Books). is_absent n y.entries) opens.2 ∙ known n unknown

-- a session that was just opened
pub new_session : (opening : List Row) (name : ℕ) (b : Books) (n : ℕ) (share : Share Books) (receipt : List (List Update)) (missed : ℕ) → IsNewShare name b n share → updates_in receipt ≡ published_of opening share.value → IsNew (session_shown opening n share.value receipt missed)
new_session opening name b n share receipt missed h is = record {
  number = h.0 ∙ ap (λ (x : Books). x.sessions) (sym h.3);
  none = ap (λ (x : Books). mine n x.entries) h.3 ∙ mine_absent n b.entries h.5;
  own = ap (λ (x : Books). own n x.entries) h.3 ∙ own_absent n b.entries h.5;
  receipt = is;
}
