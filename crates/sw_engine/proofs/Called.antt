-- What visits one after the other do to a session.
use Rattle.std.proofs.Common.{◌≡◌, ◌⊎◌, inl, inr, ℕ, List, [], ◌∷◌, ◌++◌, Option, refl, sym, ap, ◌∙◌, subst}
use Rattle.std.specs.Prelude.{Err, IfErr, IfOk, IfSome, IsErrAnd, Ok, OnErr, Result}
use mathlib.Core.List.{IsPrefix}
use Rattle.std.proofs.lemmas.List.{append-nil}
use Rattle.sw_table.specs.declared.row.Update.{Update}
use Rattle.sw_query.specs.declared.query.Query.{Query}
use Rattle.sw_query.specs.declared.query.Call.{Call}
use Rattle.sw_query.specs.declared.query.Call.TheVariants as call
use Rattle.sw_query.specs.declared.refusal.Refusal.{Refusal}
use Rattle.sw_query.specs.declared.reply.Reply.{Reply}
use Rattle.sw_spine.specs.History.{with_answer}
use Rattle.sw_spine.specs.declared.history.State.TheVariants as state
use Rattle.sw_versions.proofs.Prefixes.{prefix_self, prefix_trans}
use Rattle.sw_engine.specs.Published.{GivesReceipt, IsOneMore, Receipted, Shown}
use Rattle.sw_engine.specs.Desk.{RefusesCall, TellsFull}
use Rattle.sw_engine.specs.Later.{Begin}
use Rattle.sw_engine.specs.Own.{LeavesCommit, LeavesSelect, own_of}
use Rattle.sw_engine.specs.Sessions.{Answers, Begins, GivesUp, HasMissed, Receives, Refuses, Settles, Standing, Stays, Visited, Voids}
use Rattle.sw_engine.proofs.Later.{begin_self, begin_trans}

-- a session that shows the same is as a visit may leave it
pub visited_self : (a : Shown) → Visited a a
visited_self a = record { number = refl; given = refl; missed = refl; entries = begin_self a.2.entries; published = prefix_self a.2.published }

-- what two visits leave, one after the other, one may leave
visited_trans : (a b d : Shown) → Visited a b → Visited b d → Visited a d
visited_trans a b d first then = record {
  number = then.number ∙ first.number;
  given = then.given ∙ first.given;
  missed = then.missed ∙ first.missed;
  entries = begin_trans a.2.entries b.2.entries d.2.entries first.entries then.entries;
  published = prefix_trans a.2.published b.2.published d.2.published first.published then.published;
}

-- of a session that shows the same nothing has changed
pub stays_self : (a : Shown) → Stays a a
stays_self a = record { visited = visited_self a; calls = refl; own = refl }

-- where nothing of a session changes twice, nothing does over both
pub stays_trans : (a b d : Shown) → Stays a b → Stays b d → Stays a d
stays_trans a b d first then = record {
  visited = visited_trans a b d first.visited then.visited;
  calls = then.calls ∙ first.calls;
  own = then.own ∙ first.own;
}

-- a call stays answered where nothing of the session's changes afterwards
pub answers_then : (c : Call) (r : Reply) (a b d : Shown) → Answers c r a b → Stays b d → Answers c r a d
answers_then c r a b d first then = record {
  visited = visited_trans a b d first.visited then.visited;
  calls = then.calls ∙ first.calls;
  own = then.own ∙ first.own;
}

-- a select that began and is settled

-- a select that began, and is settled with a reply, is answered by that reply
pub begun_answers : (q : Query) (us : List Update) (r : Reply) (a b d : Standing) → Begins q us a b → Settles (state.Answered r) b d → Answers (call.Select q) r a.shown d.shown
begun_answers q us r a b d begun settled = record {
  visited = visited_trans a.shown b.shown d.shown begun.visited settled.visited;
  calls = subst (λ (w : Option (Call × List Update)). IfSome w (λ o. d.shown.1 ≡ b.shown.1 ++ with_answer o.0 (state.Answered r) [])) begun.waits settled.calls
      ∙ ap (λ (l : List (Call × Reply)). l ++ (call.Select q, r) ∷ []) begun.calls;
  own = settled.own ∙ begun.own (state.Answered r);
}

-- a select that began, and is settled as void, is void
pub begun_voids : (q : Query) (us : List Update) (a b d : Standing) → Begins q us a b → Settles state.Void b d → Voids q a.shown d.shown
begun_voids q us a b d begun settled = record {
  visited = visited_trans a.shown b.shown d.shown begun.visited settled.visited;
  calls = subst (λ (w : Option (Call × List Update)). IfSome w (λ o. d.shown.1 ≡ b.shown.1 ++ with_answer o.0 state.Void [])) begun.waits settled.calls
      ∙ append-nil b.shown.1 ∙ begun.calls;
  own = settled.own ∙ begun.own state.Void;
}

-- ---- a select that was answered or refused

given_up : (q : Query) (a b : Shown) → GivesUp q a b → Visited a b × (b.1 ≡ a.1)
given_up q a b (inl s) = (s.visited, s.calls)
given_up q a b (inr v) = (v.visited, v.calls)

abbrev Answered : Query → Result Reply Refusal → Shown → Shown → Type 0
Answered q told a b = IfOk told (λ r. Answers (call.Select q) r a b)

abbrev Refused : Query → Result Reply Refusal → Shown → Shown → Type 0
Refused q told a b = IfErr told (λ e. GivesUp q a b × Refuses b.2.entries e)

-- the session was visited, whether the select was answered or refused
pub select_visited : (q : Query) (told : Result Reply Refusal) (a b : Shown) → Answered q told a b → Refused q told a b → Visited a b
select_visited q (Ok r) a b ok err = ok.visited
select_visited q (Err e) a b ok err = (given_up q a b err.0).0

-- an answered select, with its reply, is the last of the session's answered calls
pub select_calls : (q : Query) (told : Result Reply Refusal) (a b : Shown) → Answered q told a b → IfOk told (λ r. b.1 ≡ a.1 ++ (call.Select q, r) ∷ [])
select_calls q (Ok r) a b ok = ok.calls
select_calls q (Err e) a b ok = tt

-- a refused select leaves the session's answered calls
pub select_stays : (q : Query) (told : Result Reply Refusal) (a b : Shown) → Refused q told a b → OnErr told (b.1 ≡ a.1)
select_stays q (Ok r) a b err = tt
select_stays q (Err e) a b err = (given_up q a b err.0).1

left_void : (q : Query) (a b : Shown) → GivesUp q a b → (own_of b ≡ own_of a) ⊎ (own_of b ≡ own_of a ++ (call.Select q, state.Void) ∷ [])
left_void q a b (inl s) = inl s.own
left_void q a b (inr v) = inr v.own

-- of a select the session's own entries have the answered one, or at most a void one
pub select_leaves : (q : Query) (told : Result Reply Refusal) (a b : Shown) → Answered q told a b → Refused q told a b → LeavesSelect q told a b
select_leaves q (Ok r) a b ok err = ok.own
select_leaves q (Err e) a b ok err = left_void q a b err.0

-- a select is refused only for want of memory or since the history is full
pub select_refused : (q : Query) (told : Result Reply Refusal) (a b : Shown) → Refused q told a b → IfErr told (λ e. RefusesCall e)
select_refused q (Ok r) a b err = tt
select_refused q (Err e) a b err = err.1.0

-- a select is told that the history is full only where the session shows that it is
pub select_full : (q : Query) (told : Result Reply Refusal) (a b : Shown) → Refused q told a b → IfErr told (TellsFull b.2.entries)
select_full q (Ok r) a b err = tt
select_full q (Err e) a b err = err.1.1

-- ---- another call that was refused

-- what holds anyhow holds where a call was refused
pub on_err : {A : Type 0} {P : Type 0} (told : Result A Refusal) → P → OnErr told P
on_err (Ok r) p = tt
on_err (Err e) p = p

-- a call that was refused leaves no entry, where the session's own entries stay
pub commit_stays : (R : Refusal → Type 0) (c : Call) (told : Result Reply Refusal) (a b : Shown) → IsErrAnd told R → own_of b ≡ own_of a → LeavesCommit c told a b
commit_stays R c (Ok r) a b err same = absurd err
commit_stays R c (Err e) a b err same = same

-- a call that was refused gives no receipt, where the one before stays
pub keeps_receipt : {A : Type 0} (R : Refusal → Type 0) (told : Result A Refusal) (old new : Receipted) → IsErrAnd told R → new.given ≡ old.given → GivesReceipt told old new
keeps_receipt R (Ok r) old new err same = absurd err
keeps_receipt R (Err e) old new err same = same

-- ---- receipts

-- what a session shows that has a receipt more after a visit
pub record IsReceived (list : List (List Update)) (a b d : Shown) : Type 0 where
  pub number : d.0 ≡ a.0
  pub calls : d.1 ≡ b.1
  pub own : own_of d ≡ own_of b
  pub grows : Begin a.2.entries d.2.entries
  pub entries : d.2.entries ≡ b.2.entries
  pub published : d.2.published ≡ b.2.published
  pub given : d.2.given ≡ list
  pub longer : IsPrefix a.2.given d.2.given
  pub missed : d.2.missed ≡ a.2.missed

-- after a visit, a receipt of a list changes the receipt alone, which begins with the one before
pub received : (list : List (List Update)) (a b d : Shown) → Visited a b → Receives list b d → IsReceived list a b d
received list a b d v r = record {
  number = ap (λ (x : Shown). x.0) r.0 ∙ v.number;
  calls = ap (λ (x : Shown). x.1) r.0;
  own = ap own_of r.0;
  grows = subst (λ (x : Shown). Begin a.2.entries x.2.entries) (sym r.0) v.entries;
  entries = ap (λ (x : Shown). x.2.entries) r.0;
  published = ap (λ (x : Shown). x.2.published) r.0;
  given = ap (λ (x : Shown). x.2.given) r.0;
  longer = subst (λ (x : Shown). IsPrefix a.2.given x.2.given) (sym r.0) (subst (λ (l : List (List Update)). IsPrefix l list) v.given r.1);
  missed = ap (λ (x : Shown). x.2.missed) r.0 ∙ v.missed;
}

-- one that could not publish once more
pub record IsMissed (a b d : Shown) : Type 0 where
  pub number : d.0 ≡ a.0
  pub calls : d.1 ≡ b.1
  pub own : own_of d ≡ own_of b
  pub grows : Begin a.2.entries d.2.entries
  pub given : d.2.given ≡ a.2.given
  pub one : IsOneMore a.2.missed d.2.missed

-- after a visit, a miss is counted, and nothing else changes
pub missed : (a b d : Shown) → Visited a b → HasMissed b d → IsMissed a b d
missed a b d v m = record {
  number = ap (λ (x : Shown). x.0) m.0 ∙ v.number;
  calls = ap (λ (x : Shown). x.1) m.0;
  own = ap own_of m.0;
  grows = subst (λ (x : Shown). Begin a.2.entries x.2.entries) (sym m.0) v.entries;
  given = ap (λ (x : Shown). x.2.given) m.0 ∙ v.given;
  one = subst (λ (n : ℕ). IsOneMore n d.2.missed) v.missed m.1;
}
