-- What holds of the calls of a script's blocks holds of the calls of all entries of the record.
use Rattle.std.proofs.Common.{◌≡◌, refl, sym, subst, inl, inr, ℕ, ◌+◌, ◌-◌, ◌<◌, ◌==◌, Bool, true, false, cond, All, List, [], ◌∷◌, length, map, get_or, arith, Option, Ok, Err}
use Rattle.std.proofs.lemmas.Bool.Decides.{nat_tests}
use Rattle.std.proofs.lemmas.List.{get_or-map, length-map}
use Rattle.std.proofs.lemmas.List.Elements.{All-append, All-cons, All-head, All-nil, All-tail}
use Rattle.sw_query.specs.declared.query.Call.{Call}
use Rattle.sw_spine.specs.History.{History}
use Rattle.sw_spine.specs.declared.history.Entry.{Entry}
use Rattle.sw_spine.specs.declared.history.State.{State}
use Rattle.sw_engine.specs.Own.{own}
use Rattle.sw_engine.proofs.Owned.{own_absent}
use Rattle.sw_cli.specs.Outcomes.{AllLeft, Left, Outcome, Told, calls_of}
use Rattle.sw_cli.specs.Run.{Leaves, Start, is_session}

module _ (P : Call → Type 0) where
  -- it holds of the call of an own entry
  abbrev Holds : Call × State → Type 0
  Holds x = P x.0

  -- and of that of each
  abbrev pub AllOfEntries : List Entry → Type 0
  AllOfEntries es = All (λ (e : Entry). P e.call) es

  one-left : (c : Call) (t : Told) (es : List (Call × State)) → P c → Left c t es → All Holds es
  one-left c (Ok r) es holds left = subst (All Holds) (sym left) (All-cons Holds (c, _) [] holds (All-nil Holds))
  one-left c (Err e) es holds (inl none) = subst (All Holds) (sym none) (All-nil Holds)
  one-left c (Err e) es holds (inr void) = subst (All Holds) (sym void.1) (All-cons Holds (c, _) [] holds (All-nil Holds))

  -- what calls left is of these calls
  all-left : (told : List Outcome) (es : List (Call × State)) → All P (calls_of told) → AllLeft told es → All Holds es
  all-left [] es holds none = subst (All Holds) (sym none) (All-nil Holds)
  all-left (o ∷ told) es holds left =
      subst (All Holds) (sym left.2)
      (All-append Holds left.0 left.1 (one-left o.0 o.1 left.0 (All-head P o.0 (calls_of told) holds) left.3) (all-left told left.1 (All-tail P o.0 (calls_of told) holds) left.4))

  rest-own : (b : Bool) (x : Call × State) (xs : List (Call × State)) → All Holds (cond b (x ∷ xs) xs) → All Holds xs
  rest-own true x xs h = All-tail Holds x xs h
  rest-own false x xs h = h

  -- what holds of each session's own entries holds of all
  all-own : (es : List Entry) → ((session : ℕ) → All Holds (own session es)) → AllOfEntries es
  all-own [] h = All-nil (λ (e : Entry). P e.call)
  all-own (e ∷ es) h =
      let itself : (e.session == e.session) ≡ true = grind (arith, nat_tests) in
      let first : All Holds ((e.call, e.state) ∷ own e.session es) = subst (λ (b : Bool). All Holds (cond b ((e.call, e.state) ∷ own e.session es) (own e.session es))) itself (h e.session) in
      All-cons (λ (x : Entry). P x.call) e es (All-head Holds (e.call, e.state) (own e.session es) first) (all-own es (λ session. rest-own (e.session == session) (e.call, e.state) (own session es) (h session)))

  -- the calls of a block of outcomes are those of the start's block
  block-holds : (limit : ℕ) (s : Start) (told : List (List Outcome)) (old new : Option (List ℕ)) (h : History) (i : ℕ) → Leaves limit s told old new h → All (All P) s.blocks → i < length told → All P (calls_of (get_or told i []))
  block-holds limit s told old new h i l holds less =
      let all : All (All P) (map calls_of told) = subst (All (All P)) (sym l.calls) holds in
      let many : length (map calls_of told) ≡ length told = length-map told calls_of in
      subst (All P) (get_or-map calls_of told i [] [] less) (all i [] (omega (arith, many, less)))

  -- each session has entries of calls of its block, or none
  pub all_entries : (limit : ℕ) (s : Start) (told : List (List Outcome)) (old new : Option (List ℕ)) (h : History) → Leaves limit s told old new h → All (All P) s.blocks → AllOfEntries h.entries
  all_entries limit s told old new h l holds = all-own h.entries (λ session. by_session session (is_session (length told) session) refl)
    where
      by_session : (session : ℕ) (b : Bool) → is_session (length told) session ≡ b → All Holds (own session h.entries)
      by_session session false e = subst (All Holds) (sym (own_absent session h.entries (l.record_is.alone session e))) (All-nil Holds)
      by_session session true e =
          let inside : session - 1 < length told = grind (arith, nat_tests, e) in
          let number : session - 1 + 1 ≡ session = grind (arith, nat_tests, e) in
          subst (λ (n : ℕ). All Holds (own n h.entries)) number (all-left (get_or told (session - 1) []) (own (session - 1 + 1) h.entries) (block-holds limit s told old new h (session - 1) l holds inside) (l.record_is.left_are (session - 1) inside))
