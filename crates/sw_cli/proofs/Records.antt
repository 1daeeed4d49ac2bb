-- The record of blocks that were made, each by a session of its own.
use Rattle.std.proofs.Common.{◌≡◌, ◌∙◌, ap, refl, sym, subst, ℕ, zero, suc, ◌+◌, ◌<◌, ◌≤◌, inl, inr, List, [], ◌∷◌, arith, get_or, length, map, All, ⊎_elim}
use Rattle.std.proofs.lemmas.List.Elements.{All-cons, All-head, All-nil, All-tail}
use Rattle.std.proofs.lemmas.Bool.Decides.{nat_tests}
use Rattle.std.proofs.lemmas.List.{get_or-map}
use Rattle.sw_rows.specs.Header.{Column}
use Rattle.sw_table.specs.declared.row.Row.{Row}
use Rattle.sw_query.specs.declared.query.Call.{Call}
use Rattle.sw_query.specs.declared.reply.Reply.{Reply}
use Rattle.sw_spine.specs.History.{History, mine}
use Rattle.sw_engine.specs.Desk.{IsNamed}
use Rattle.sw_spine.specs.declared.history.State.{State}
use Rattle.sw_engine.specs.Headline.{IsHistoryOfOneThread}
use Rattle.sw_engine.specs.Own.{IsEnded, own, own_of}
use Rattle.sw_engine.specs.Published.{Shown, answered_to}
use Rattle.sw_cli.specs.Outcomes.{AllLeft, AllSayWhy, AreTold, Outcome, SaysWhy, Told, answered, blocks_told, outcomes_of}
use Rattle.sw_cli.specs.Run.{IsRecordOf}
use Rattle.sw_cli.specs.Served.{AreAnswered}
use Rattle.sw_cli.proofs.Lists.{length_map}

-- a ticket for a place where there is none
abbrev pub no_ticket : Shown
no_ticket = (0, [], record { given = []; missed = 0; published = []; entries = []; sessions = 0 })

-- what a session of each block was answered
pub collected : (k : ℕ) (bs : List (List Call)) (ts : List (List Told)) (vs : List Shown) → length ts ≡ length bs → length vs ≡ length bs
    → ((i : ℕ) → i < length bs → ((get_or vs i no_ticket).0 ≡ k + i) × (length (get_or ts i []) ≡ length (get_or bs i [])) × ((get_or vs i no_ticket).1 ≡ answered (outcomes_of (get_or bs i []) (get_or ts i []))) × AllLeft (outcomes_of (get_or bs i []) (get_or ts i [])) (own_of (get_or vs i no_ticket)))
    → AreTold bs ts × AreAnswered k (blocks_told bs ts) vs
collected k [] [] [] et ev each = (refl, tt)
collected k [] [] (v ∷ vs) et ev each = absurd (omega (arith, ev))
collected k [] (t ∷ ts) vs et ev each = absurd (omega (arith, et))
collected k (b ∷ bs) [] vs et ev each = absurd (omega (arith, et))
collected k (b ∷ bs) (t ∷ ts) [] et ev each = absurd (omega (arith, ev))
collected k (b ∷ bs) (t ∷ ts) (v ∷ vs) et ev each =
    let here = each 0 (omega arith) in
    let rest = collected (k + 1) bs ts vs (omega (arith, et)) (omega (arith, ev)) (λ i less. let e = each (suc i) (omega (arith, less)) in (e.0 ∙ (let s : k + suc i ≡ k + 1 + i = omega arith in s), e.1, e.2, e.3)) in
    (ap (λ (n : ℕ). n ∷ map (λ t. length t) ts) here.1 ∙ ap (λ (l : List ℕ). length b ∷ l) rest.0, ((here.0 ∙ (let s : k + 0 ≡ k = omega arith in s)), here.2, here.3, rest.1))

-- there are as many tickets as blocks
pub answered_many : (n : ℕ) (bs : List (List Outcome)) (vs : List Shown) → AreAnswered n bs vs → length vs ≡ length bs
answered_many n [] [] h = refl
answered_many n [] (v ∷ vs) h = absurd h
answered_many n (b ∷ bs) [] h = absurd h
answered_many n (b ∷ bs) (v ∷ vs) h = ap suc (answered_many (n + 1) bs vs h.3)

answered_at : (n : ℕ) (bs : List (List Outcome)) (vs : List Shown) (i : ℕ) → AreAnswered n bs vs → i < length bs → ((get_or vs i no_ticket).0 ≡ n + i) × ((get_or vs i no_ticket).1 ≡ answered (get_or bs i [])) × AllLeft (get_or bs i []) (own_of (get_or vs i no_ticket))
answered_at n [] vs i h less = absurd (omega (arith, less))
answered_at n (b ∷ bs) [] i h less = absurd h
answered_at n (b ∷ bs) (v ∷ vs) zero h less = (h.0 ∙ (let s : n ≡ n + 0 = omega arith in s), h.1, h.2)
answered_at n (b ∷ bs) (v ∷ vs) (suc i) h less = let e = answered_at (n + 1) bs vs i h.3 (omega (arith, less)) in (e.0 ∙ (let s : n + 1 + i ≡ n + suc i = omega arith in s), e.1, e.2)

named_within : (n : ℕ) (bs : List (List Outcome)) (vs : List Shown) (s : ℕ) → AreAnswered n bs vs → IsNamed s (map answered_to vs) → (n ≤ s) × (s < n + length bs)
named_within n bs [] s h is = absurd is
named_within n [] (v ∷ vs) s h is = absurd h
named_within n (b ∷ bs) (v ∷ vs) s h (inl e) = let f = h.0 in (omega (arith, e, f), omega (arith, e, f))
named_within n (b ∷ bs) (v ∷ vs) s h (inr later) = let r = named_within (n + 1) bs vs s h.3 later in let x = r.0 in let y = r.1 in (omega (arith, x), omega (arith, y))

-- the history of one thread whose sessions made these blocks
pub record_of : (columns : List Column) (rows : List Row) (limit : ℕ) (told : List (List Outcome)) (tickets : List Shown) (h : History) → AreAnswered 1 told tickets → IsHistoryOfOneThread columns rows limit (map answered_to tickets) h → All (IsEnded h.entries) tickets → IsRecordOf columns rows limit told h
record_of columns rows limit told tickets h are is ended = record {
  columns_are = is.columns_are;
  rows_are = is.rows_are;
  limit_is = is.limit_is;
  legal = is.legal;
  given = is.given;
  answered_are = λ i less.
      let at = answered_at 1 told tickets i are less in
      let many = answered_many 1 told tickets are in
      let number : i + 1 ≡ (get_or tickets i no_ticket).0 = let e = at.0 in omega (arith, e) in
      let inside : i < length tickets = omega (arith, less, many) in
      let seen : get_or (map answered_to tickets) i (0, []) ≡ answered_to (get_or tickets i no_ticket) = get_or-map answered_to tickets i no_ticket (0, []) inside in
      let same : mine (get_or tickets i no_ticket).0 h.entries ≡ (get_or tickets i no_ticket).1 = subst (λ (t : ℕ × List (Call × Reply)). mine t.0 h.entries ≡ t.1) seen (is.answered i (0, []) (let long = length_map answered_to tickets in omega (arith, inside, long))) in
      ap (λ (n : ℕ). mine n h.entries) number ∙ same ∙ at.1;
  left_are = λ i less.
      let at = answered_at 1 told tickets i are less in
      let many = answered_many 1 told tickets are in
      let number : (get_or tickets i no_ticket).0 ≡ i + 1 = let e = at.0 in omega (arith, e) in
      let same = ended i no_ticket (omega (arith, less, many)) in
      subst (λ (n : ℕ). AllLeft (get_or told i []) (own n h.entries)) number (subst (λ (es : List (Call × State)). AllLeft (get_or told i []) es) (sym same.own) at.2);
  alone = λ session other. ⊎_elim (λ absent. absent) (λ named. let w = named_within 1 told tickets session are named in let x = w.0 in let y = w.1 in absurd (grind (arith, nat_tests, other, x, y))) (is.others session);
  closed = is.closed;
}

-- ---- why calls were refused

-- where all that came of calls says why, their outcomes do
pub call_why : (cs : List Call) (ts : List Told) → All SaysWhy ts → All (λ (o : Outcome). SaysWhy o.1) (outcomes_of cs ts)
call_why [] ts h = All-nil (λ (o : Outcome). SaysWhy o.1)
call_why (c ∷ cs) [] h = All-nil (λ (o : Outcome). SaysWhy o.1)
call_why (c ∷ cs) (t ∷ ts) h = All-cons (λ (o : Outcome). SaysWhy o.1) (c, t) (outcomes_of cs ts) (All-head SaysWhy t ts h) (call_why cs ts (All-tail SaysWhy t ts h))

-- and so do those of all blocks
pub blocks_why : (bs : List (List Call)) (ts : List (List Told)) → All (λ (t : List Told). All SaysWhy t) ts → AllSayWhy (blocks_told bs ts)
blocks_why [] ts h = All-nil (λ (b : List Outcome). All (λ (o : Outcome). SaysWhy o.1) b)
blocks_why (b ∷ bs) [] h = All-nil (λ (b : List Outcome). All (λ (o : Outcome). SaysWhy o.1) b)
blocks_why (b ∷ bs) (t ∷ ts) h =
    All-cons (λ (b : List Outcome). All (λ (o : Outcome). SaysWhy o.1) b) (outcomes_of b t) (blocks_told bs ts)
    (call_why b t (All-head (λ (t : List Told). All SaysWhy t) t ts h)) (blocks_why bs ts (All-tail (λ (t : List Told). All SaysWhy t) t ts h))
