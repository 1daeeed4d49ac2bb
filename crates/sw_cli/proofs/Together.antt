-- Calls that were answered together, beside what came of those before.
use Rattle.std.proofs.Common.{rules, ◌≡◌, inl, inr, ◌∙◌, ◌<◌, ◌≤◌, ◌+◌, ◌++◌, ◌∷◌, ℕ, zero, suc, List, [], length, map, drop, take, get_or, refl, sym, ap, subst, arith, append_assoc, All, Ok, Err}
use Rattle.std.specs.List.{zip}
use Rattle.std.specs.Prelude.{IfOk, OnErr}
use Rattle.std.proofs.lemmas.List.{length-append, length-drop, length-map}
use Rattle.std.proofs.lemmas.List.Elements.{All-append, All-map, All-push}
use Rattle.sw_query.specs.declared.query.Call.{Call}
use Rattle.sw_query.specs.declared.reply.Reply.{Reply}
use Rattle.sw_spine.specs.declared.history.State.{State}
use Rattle.sw_spine.specs.declared.history.State.TheVariants as state
use Rattle.sw_engine.specs.Own.{LeavesAnswered, LeavesCall, own_of}
use Rattle.sw_engine.specs.Published.{Shown}
use Rattle.sw_cli.specs.Outcomes.{AllLeft, Outcome, SaysWhy, Told, answered, outcomes_of}
use Rattle.sw_cli.specs.Served.{GoesOn, HasMade, Making}
use Rattle.sw_cli.proofs.Left.{left_push}
use Rattle.sw_cli.proofs.Lists.{length_push}
use Rattle.sw_cli.proofs.Outcomes.{answered_push}

-- ---- outcomes

outcomes_none : (cs : List Call) → outcomes_of cs [] ≡ []
outcomes_none [] = refl
outcomes_none (c ∷ cs) = refl

-- what came of calls, and of those behind them
pub outcomes_then : (cs : List Call) (ts us : List Told) → length ts ≤ length cs → outcomes_of cs (ts ++ us) ≡ outcomes_of cs ts ++ outcomes_of (drop (length ts) cs) us
outcomes_then cs [] us few = sym (ap (λ (l : List Outcome). l ++ outcomes_of cs us) (outcomes_none cs))
outcomes_then [] (t ∷ ts) us few = absurd (omega (arith, few))
outcomes_then (c ∷ cs) (t ∷ ts) us few = ap (λ (l : List Outcome). (c, t) ∷ l) (outcomes_then cs ts us (omega (arith, few)))

-- replies, as what came of calls
abbrev pub all_told : List Reply → List Told
all_told rs = map (λ r. Ok r) rs

-- none of them says why
pub all_say_why : (rs : List Reply) → All SaysWhy (all_told rs)
all_say_why rs = All-map SaysWhy (λ r. Ok r) rs (λ k d less. tt)

-- the answered ones of two lists of outcomes
pub answered_both : (os ps : List Outcome) → answered (os ++ ps) ≡ answered os ++ answered ps
answered_both [] ps = refl
answered_both ((c, Ok r) ∷ os) ps = ap (λ l. (c, r) ∷ l) (answered_both os ps)
answered_both ((c, Err e) ∷ os) ps = answered_both os ps

-- of calls that were answered, all
pub answered_all : (cs : List Call) (rs : List Reply) → answered (outcomes_of cs (all_told rs)) ≡ zip cs rs
answered_all [] rs = refl
answered_all (c ∷ cs) [] = refl
answered_all (c ∷ cs) (r ∷ rs) = ap (λ l. (c, r) ∷ l) (answered_all cs rs)

-- ---- entries

-- what two lists of outcomes left
pub left_both : (os ps : List Outcome) (es fs : List (Call × State)) → AllLeft os es → AllLeft ps fs → AllLeft (os ++ ps) (es ++ fs)
left_both [] ps es fs none left = subst (λ (l : List (Call × State)). AllLeft ps (l ++ fs)) (sym none) left
left_both (o ∷ os) ps es fs h left = (h.0, h.1 ++ fs, ap (λ l. l ++ fs) h.2 ∙ append_assoc h.0 h.1 fs, h.3, left_both os ps h.1 fs h.4 left)

-- calls that were answered left an answered entry each
pub left_all : (cs : List Call) (rs : List Reply) → AllLeft (outcomes_of cs (all_told rs)) (map (λ m. (m.0, state.Answered m.1)) (zip cs rs))
left_all [] rs = refl
left_all (c ∷ cs) [] = refl
left_all (c ∷ cs) (r ∷ rs) = ((c, state.Answered r) ∷ [], map (λ m. (m.0, state.Answered m.1)) (zip cs rs), refl, refl, left_all cs rs)

-- ---- what a session made

-- no more than the first of a list go with these as with all
pub zip_firsts : {A B : Type 0} (n : ℕ) (xs : List A) (ys : List B) → length ys ≤ length (take n xs) → zip (take n xs) ys ≡ zip xs ys
zip_firsts zero [] ys few = refl
zip_firsts (suc n) [] ys few = refl
zip_firsts zero (x ∷ xs) [] few = refl
zip_firsts zero (x ∷ xs) (y ∷ ys) few = absurd (omega (arith, few))
zip_firsts (suc n) (x ∷ xs) [] few = refl
zip_firsts (suc n) (x ∷ xs) (y ∷ ys) few = ap (λ l. (x, y) ∷ l) (zip_firsts n xs ys (omega (arith, few)))

-- behind calls that were answered together
pub made_together : (cs : List Call) (ts : List Told) (rs : List Reply) (old new : Shown) → HasMade old cs ts → length rs ≤ length (drop (length ts) cs)
    → new.1 ≡ old.1 ++ zip (drop (length ts) cs) rs → LeavesAnswered (zip (drop (length ts) cs) rs) old new → HasMade new cs (ts ++ all_told rs)
made_together cs ts rs old new h few mine own = record {
  few = let e = length-append ts (all_told rs) in let k = length-map {B = Told} rs (λ r. Ok r) in let d = length-drop (length ts) cs in let low = h.few in omega (arith, e, k, d, low, few);
  made = mine ∙ ap (λ l. l ++ zip (drop (length ts) cs) rs) h.made
      ∙ ap (λ l. answered (outcomes_of cs ts) ++ l) (sym (answered_all (drop (length ts) cs) rs))
      ∙ sym (answered_both (outcomes_of cs ts) (outcomes_of (drop (length ts) cs) (all_told rs)))
      ∙ ap answered (sym (outcomes_then cs ts (all_told rs) h.few));
  left = subst (λ (os : List Outcome). AllLeft os (own_of new)) (sym (outcomes_then cs ts (all_told rs) h.few))
      (subst (λ (es : List (Call × State)). AllLeft (outcomes_of cs ts ++ outcomes_of (drop (length ts) cs) (all_told rs)) es) (sym own)
      (left_both (outcomes_of cs ts) (outcomes_of (drop (length ts) cs) (all_told rs)) (own_of old) (map (λ m. (m.0, state.Answered m.1)) (zip (drop (length ts) cs) rs)) h.left (left_all (drop (length ts) cs) rs)));
  why = All-append SaysWhy ts (all_told rs) h.why (all_say_why rs);
}

-- where no call was made yet
pub made_none : (cs : List Call) (shown : Shown) → shown.1 ≡ [] → own_of shown ≡ [] → HasMade shown cs []
made_none cs shown none own = record {
  few = omega arith;
  made = none ∙ ap answered (sym (outcomes_none cs));
  left = subst (λ (os : List Outcome). AllLeft os (own_of shown)) (sym (outcomes_none cs)) own;
  why = search rules;
}

next_outcome : (cs : List Call) (n : ℕ) (c : Call) (t : Told) → n < length cs → c ≡ get_or cs n c → outcomes_of (drop n cs) (t ∷ []) ≡ (c, t) ∷ []
next_outcome [] n c t less is = absurd (omega (arith, less))
next_outcome (d ∷ cs) zero c t less is = ap (λ (x : Call). (x, t) ∷ outcomes_of cs []) (sym is) ∙ ap (λ (l : List Outcome). (c, t) ∷ l) (outcomes_none cs)
next_outcome (d ∷ cs) (suc n) c t less is = next_outcome cs n c t (omega (arith, less)) is

-- behind one call more
pub made_one : (cs : List Call) (ts : List Told) (c : Call) (t : Told) (old new : Shown) → HasMade old cs ts → length ts < length cs → c ≡ get_or cs (length ts) c
    → IfOk t (λ r. new.1 ≡ old.1 ++ (c, r) ∷ []) → OnErr t (new.1 ≡ old.1) → LeavesCall c t old new → SaysWhy t → HasMade new cs (ts ++ t ∷ [])
made_one cs ts c t old new h less is mine err own why =
    let longer : outcomes_of cs (ts ++ t ∷ []) ≡ outcomes_of cs ts ++ (c, t) ∷ [] = outcomes_then cs ts (t ∷ []) h.few ∙ ap (λ (l : List Outcome). outcomes_of cs ts ++ l) (next_outcome cs (length ts) c t less is) in
    record {
      few = let e = length_push ts t in omega (arith, e, less);
      made = answered_push (outcomes_of cs ts) c t old.1 new.1 h.made mine err ∙ ap answered (sym longer);
      left = subst (λ (os : List Outcome). AllLeft os (own_of new)) (sym longer) (left_push (outcomes_of cs ts) c t old new h.left own);
      why = All-push SaysWhy ts t h.why why;
    }

-- a job that goes on in each turn has gone on as often as there were turns
pub turn_more : (turn : ℕ) (old new : Making) → turn ≤ length old.told → turn < length old.calls → GoesOn old new → turn + 1 ≤ length new.told
turn_more turn old new most less (inl more) = omega (arith, most, more)
turn_more turn old new most less (inr all) = let e = all.0 in let k = ap length all.1 in omega (arith, less, e, k)
