-- Calls whose lines go out as each is answered: one call more, one page more, and what is left where the sink failed.
use Rattle.std.proofs.Common.{true, false, true≢false, ◌≡◌, ◌∙◌, sym, ap, subst, refl, inl, inr, ℕ, suc, ◌+◌, ◌<◌, List, [], ◌∷◌, ◌++◌, append_assoc, arith, All, get_or, length, length-append, map, take, Option, Result, Ok, Err, IfOk, IfErr, OnErr}
use Rattle.std.specs.Prelude.{is_err}
use Rattle.std.specs.Result.{IsErrAnd}
use Rattle.std.proofs.lemmas.List.{append-nil, take_more}
use Rattle.std.proofs.Math.Seq.{get_or-append_seam}
use Rattle.sw_spine.specs.History.{CallsBelow}
use Rattle.sw_cli.specs.Script.{AllCallsBelow}
use Rattle.std.proofs.lemmas.List.Elements.{All-append, All-cons, All-nil, All-push}
use Rattle.sw_rows.specs.Header.{Column}
use Rattle.sw_query.specs.declared.query.Call.{Call}
use Rattle.sw_query.specs.declared.reply.Reply.{Reply}
use Rattle.sw_query.specs.declared.refusal.Refusal.{Refusal}
use Rattle.sw_query.specs.declared.refusal.Refusal.TheVariants as refusal
use Rattle.sw_lang.specs.Sinks.{Writes}
use Rattle.sw_lang.proofs.Progress.{both, stops}
use Rattle.sw_spine.specs.declared.history.State.{State}
use Rattle.sw_engine.specs.Desk.{IsNamed, RefusesCall}
use Rattle.sw_engine.specs.Own.{LeavesCall, own_of}
use Rattle.sw_engine.specs.Published.{Shown, answered_to}
use Rattle.sw_cli.specs.Outcomes.{AllLeft, AllSayWhy, AreTold, Outcome, SaysWhy, Told, answered, block_bytes, blocks_told, divider, line_before, outcomes_of, text_of, told_bytes}
use Rattle.sw_cli.specs.Served.{AreAnswered, IsDone}
use Rattle.sw_cli.proofs.Left.{left_push}
use Rattle.sw_cli.proofs.Lists.{length_push, map_push}
use Rattle.sw_cli.proofs.Outcomes.{answered_push, length_take, outcomes_push}
use Rattle.sw_cli.proofs.Records.{call_why}

-- ---- lines

-- the lines of one outcome more come behind those of the others
pub block_push : (columns : List Column) (os : List Outcome) (o : Outcome) → block_bytes columns (os ++ o ∷ []) ≡ block_bytes columns os ++ told_bytes columns o.0 o.1
block_push columns [] o = append-nil (told_bytes columns o.0 o.1)
block_push columns (x ∷ os) o = ap (λ (l : List ℕ). told_bytes columns x.0 x.1 ++ l) (block_push columns os o) ∙ sym (append_assoc (told_bytes columns x.0 x.1) (block_bytes columns os) (told_bytes columns o.0 o.1))

-- the lines of some outcomes and others are theirs and those of the others
pub block_append : (columns : List Column) (os more : List Outcome) → block_bytes columns (os ++ more) ≡ block_bytes columns os ++ block_bytes columns more
block_append columns [] more = refl
block_append columns (x ∷ os) more = ap (λ (l : List ℕ). told_bytes columns x.0 x.1 ++ l) (block_append columns os more) ∙ sym (append_assoc (told_bytes columns x.0 x.1) (block_bytes columns os) (block_bytes columns more))

-- the lines of one block more, after the line before it, come behind those of the others
pub text_push : (columns : List Column) (bs : List (List Outcome)) (b : List Outcome) → text_of columns (bs ++ b ∷ []) ≡ text_of columns bs ++ (line_before (length bs) ++ block_bytes columns b)
text_push columns [] b = refl
text_push columns (x ∷ []) b = refl
text_push columns (x ∷ y ∷ bs) b =
    let last = line_before (length (y ∷ bs)) ++ block_bytes columns b in
    ap (λ (l : List ℕ). block_bytes columns x ++ (divider ++ l)) (text_push columns (y ∷ bs) b)
    ∙ ap (λ (l : List ℕ). block_bytes columns x ++ l) (sym (append_assoc divider (text_of columns (y ∷ bs)) last))
    ∙ sym (append_assoc (block_bytes columns x) (divider ++ text_of columns (y ∷ bs)) last)

-- ---- calls that were not made

-- each counts as refused
abbrev pub given_up : List Call → List Told
given_up cs = map (λ (c : Call). Err refusal.NoMemory) cs

-- something comes of each call that is given up
pub length_given_up : (cs : List Call) → length (given_up cs) ≡ length cs
length_given_up [] = refl
length_given_up (c ∷ cs) = ap suc (length_given_up cs)

why_given_up : (cs : List Call) → All SaysWhy (given_up cs)
why_given_up [] = All-nil SaysWhy
why_given_up (c ∷ cs) = All-cons SaysWhy (Err refusal.NoMemory) (given_up cs) tt (why_given_up cs)

outcomes_append : (cs more : List Call) (ts us : List Told) → length ts ≡ length cs → outcomes_of (cs ++ more) (ts ++ us) ≡ outcomes_of cs ts ++ outcomes_of more us
outcomes_append [] more [] us e = refl
outcomes_append [] more (t ∷ ts) us e = absurd (omega (arith, e))
outcomes_append (c ∷ cs) more [] us e = absurd (omega (arith, e))
outcomes_append (c ∷ cs) more (t ∷ ts) us e = ap (λ (os : List Outcome). (c, t) ∷ os) (outcomes_append cs more ts us (omega (arith, e)))

none_answered : (cs : List Call) → answered (outcomes_of cs (given_up cs)) ≡ []
none_answered [] = refl
none_answered (c ∷ cs) = none_answered cs

answered_append : (os more : List Outcome) → answered more ≡ [] → answered (os ++ more) ≡ answered os
answered_append [] more none = none
answered_append ((c, Ok r) ∷ os) more none = ap (λ (l : List (Call × Reply)). (c, r) ∷ l) (answered_append os more none)
answered_append ((c, Err e) ∷ os) more none = answered_append os more none

nothing_left : (cs : List Call) → AllLeft (outcomes_of cs (given_up cs)) []
nothing_left [] = refl
nothing_left (c ∷ cs) = ([], [], refl, inl refl, nothing_left cs)

left_append : (os more : List Outcome) (es : List (Call × State)) → AllLeft os es → AllLeft more [] → AllLeft (os ++ more) es
left_append [] more es none left = subst (AllLeft more) (sym none) left
left_append (o ∷ os) more es h left = (h.0, h.1, h.2, h.3, left_append os more h.1 h.4 left)

-- calls behind those that were made are given up
pub done_before : (number : ℕ) (cs more : List Call) (ticket : Shown) (told : List Told) → IsDone number cs ticket told → IsDone number (cs ++ more) ticket (told ++ given_up more)
done_before number cs more ticket told d =
    let longer = outcomes_append cs more told (given_up more) d.all in
    record {
      number = d.number;
      all = length_both cs more told (given_up more) d.all (length_given_up more);
      made = d.made ∙ sym (ap answered longer ∙ answered_append (outcomes_of cs told) (outcomes_of more (given_up more)) (none_answered more));
      left = subst (λ (os : List Outcome). AllLeft os (own_of ticket)) (sym longer) (left_append (outcomes_of cs told) (outcomes_of more (given_up more)) (own_of ticket) d.left (nothing_left more));
      why = All-append SaysWhy told (given_up more) d.why (why_given_up more);
    }
  where
    length_both : (cs more : List Call) (ts us : List Told) → length ts ≡ length cs → length us ≡ length more → length (ts ++ us) ≡ length (cs ++ more)
    length_both [] more [] us e h = h
    length_both [] more (t ∷ ts) us e h = absurd (omega (arith, e))
    length_both (c ∷ cs) more [] us e h = absurd (omega (arith, e))
    length_both (c ∷ cs) more (t ∷ ts) us e h = ap suc (length_both cs more ts us (omega (arith, e)) h)

-- a session that made no call
pub done_none : (session : Shown) → session.1 ≡ [] → own_of session ≡ [] → IsDone session.0 [] session []
done_none session none own = record { number = refl; all = refl; made = none; left = own; why = All-nil SaysWhy }

-- one call more
pub done_push : (number : ℕ) (cs : List Call) (c : Call) (old new : Shown) (told : List Told) (t : Told) → IsDone number cs old told → new.0 ≡ old.0
    → IfOk t (λ r. new.1 ≡ old.1 ++ (c, r) ∷ []) → OnErr t (new.1 ≡ old.1) → LeavesCall c t old new → IfErr t RefusesCall → IsDone number (cs ++ c ∷ []) new (told ++ t ∷ [])
done_push number cs c old new told t d same mine err own why =
    let longer = outcomes_push cs told c t d.all in
    record {
      number = same ∙ d.number;
      all = let a = length_push told t in let b = length_push cs c in omega (arith, a, b, d.all);
      made = answered_push (outcomes_of cs told) c t old.1 new.1 d.made mine err ∙ sym (ap answered longer);
      left = subst (λ (os : List Outcome). AllLeft os (own_of new)) (sym longer) (left_push (outcomes_of cs told) c t old new d.left own);
      why = All-push SaysWhy told t d.why why;
    }

-- ---- a page

-- calls of a page were made, and their lines went out after the line before it
pub record Begun (columns : List Column) (cs : List Call) (number : ℕ) (session : Shown) (front : List ℕ) (old new : Option (List ℕ)) (f g : ℕ) : Type 0 where
  pub told : List Told
  pub done : IsDone number cs session told
  pub out : Writes old new f g (Ok (tt {0})) (front ++ block_bytes columns (outcomes_of cs told))

-- what came of a page
abbrev pub Ended : List Column → List Call → ℕ → Shown → List ℕ → Option (List ℕ) → Option (List ℕ) → ℕ → ℕ → Result (Unit {0}) Refusal → Type 0
Ended columns cs number session front old new f g result =
    (told : List Told) × IsDone number cs session told × Writes old new f g result (front ++ block_bytes columns (outcomes_of cs told))

-- no call of it was made, and the line before it went out
pub begun : {u : Unit {0}} (columns : List Column) (session : Shown) (front : List ℕ) (old new : Option (List ℕ)) (f g : ℕ) → session.1 ≡ [] → own_of session ≡ [] → Writes old new f g (Ok u) front → Begun columns [] session.0 session front old new f g
begun columns session front old new f g none own w = record {
  told = [];
  done = done_none session none own;
  out = subst (λ (l : List ℕ). Writes old new f g (Ok (tt {0})) l) (sym (append-nil front)) (record { whole = w.whole; part = tt });
}

longer : (columns : List Column) (cs : List Call) (c : Call) (told : List Told) (t : Told) (front : List ℕ) → length told ≡ length cs
    → front ++ block_bytes columns (outcomes_of (cs ++ c ∷ []) (told ++ t ∷ [])) ≡ (front ++ block_bytes columns (outcomes_of cs told)) ++ told_bytes columns c t
longer columns cs c told t front e =
    ap (λ (l : List ℕ). front ++ l) (ap (block_bytes columns) (outcomes_push cs told c t e) ∙ block_push columns (outcomes_of cs told) (c, t))
    ∙ sym (append_assoc front (block_bytes columns (outcomes_of cs told)) (told_bytes columns c t))

-- one call more of it was made, and its lines went out
pub begun_more : {u : Unit {0}} (columns : List Column) (cs : List Call) (c : Call) (t : Told) (number : ℕ) (session next : Shown) (front : List ℕ) (old new newer : Option (List ℕ)) (f g h : ℕ) → (b : Begun columns cs number session front old new f g)
    → next.0 ≡ session.0 → IfOk t (λ r. next.1 ≡ session.1 ++ (c, r) ∷ []) → OnErr t (next.1 ≡ session.1) → LeavesCall c t session next → IfErr t RefusesCall
    → Writes new newer g h (Ok u) (told_bytes columns c t) → Begun columns (cs ++ c ∷ []) number next front old newer f h
begun_more columns cs c t number session next front old new newer f g h b same mine err own why w = record {
  told = b.told ++ t ∷ [];
  done = done_push number cs c session next b.told t b.done same mine err own why;
  out = subst (λ (l : List ℕ). Writes old newer f h (Ok (tt {0})) l) (sym (longer columns cs c b.told t front b.done.all))
      (both (front ++ block_bytes columns (outcomes_of cs b.told)) (told_bytes columns c t) (Ok (tt {0})) b.out (record { whole = w.whole; part = tt }));
}

-- the lines of calls that were given up come behind
given_up_lines : (columns : List Column) (cs more : List Call) (told : List Told) (front : List ℕ) → length told ≡ length cs
    → front ++ block_bytes columns (outcomes_of (cs ++ more) (told ++ given_up more)) ≡ (front ++ block_bytes columns (outcomes_of cs told)) ++ block_bytes columns (outcomes_of more (given_up more))
given_up_lines columns cs more told front e =
    ap (λ (l : List ℕ). front ++ l) (ap (block_bytes columns) (outcomes_append cs more told (given_up more) e) ∙ block_append columns (outcomes_of cs told) (outcomes_of more (given_up more)))
    ∙ sym (append_assoc front (block_bytes columns (outcomes_of cs told)) (block_bytes columns (outcomes_of more (given_up more))))

-- the sink failed at a call's lines: those behind are given up
pub failed_at : {e : Refusal} (columns : List Column) (cs calls : List Call) (c : Call) (t : Told) (number : ℕ) (session next : Shown) (front : List ℕ) (old new newer : Option (List ℕ)) (f g h : ℕ) (rest : List Call) (result : Result (Unit {0}) Refusal)
    → calls ≡ (cs ++ c ∷ []) ++ rest → Begun columns cs number session front old new f g
    → next.0 ≡ session.0 → IfOk t (λ r. next.1 ≡ session.1 ++ (c, r) ∷ []) → OnErr t (next.1 ≡ session.1) → LeavesCall c t session next → IfErr t RefusesCall
    → Writes new newer g h (Err e) (told_bytes columns c t) → IsErrAnd result (λ d. d ≡ e) → Ended columns calls number next front old newer f h result
failed_at {e} columns cs calls c t number session next front old new newer f g h rest result is b same mine err own why w says =
    let done = done_push number cs c session next b.told t b.done same mine err own why in
    let made = front ++ block_bytes columns (outcomes_of (cs ++ c ∷ []) (b.told ++ t ∷ [])) in
    let one : Writes old newer f h (Err e) made =
    subst (λ (l : List ℕ). Writes old newer f h (Err e) l) (sym (longer columns cs c b.told t front b.done.all))
    (both (front ++ block_bytes columns (outcomes_of cs b.told)) (told_bytes columns c t) (Err e) b.out w) in
    let all : Writes old newer f h result (made ++ block_bytes columns (outcomes_of rest (given_up rest))) = stops made (block_bytes columns (outcomes_of rest (given_up rest))) result says one in
    subst (λ (l : List Call). Ended columns l number next front old newer f h result) (sym is) (
      (b.told ++ t ∷ []) ++ given_up rest,
      done_before number (cs ++ c ∷ []) rest next (b.told ++ t ∷ []) done,
      subst (λ (l : List ℕ). Writes old newer f h result l) (sym (given_up_lines columns (cs ++ c ∷ []) rest (b.told ++ t ∷ []) front done.all)) all,
    )

-- it failed at the line before the page
pub failed_before : {e : Refusal} (columns : List Column) (calls : List Call) (session : Shown) (front : List ℕ) (old new : Option (List ℕ)) (f g : ℕ) (result : Result (Unit {0}) Refusal) → session.1 ≡ [] → own_of session ≡ []
    → Writes old new f g (Err e) front → IsErrAnd result (λ d. d ≡ e) → Ended columns calls session.0 session front old new f g result
failed_before columns calls session front old new f g result none own w says = (
  given_up calls,
  done_before session.0 [] calls session [] (done_none session none own),
  stops front (block_bytes columns (outcomes_of calls (given_up calls))) result says w,
)

-- ---- a page whose calls are taken one by one

-- calls of a page were made, and the others are left
pub record Underway (columns : List Column) (calls left : List Call) (number : ℕ) (session : Shown) (front : List ℕ) (old new : Option (List ℕ)) (f g : ℕ) : Type 0 where
  pub made : List Call
  pub parts : calls ≡ made ++ left
  pub begun : Begun columns made number session front old new f g

-- the next call is one of the page's
pub call_below : (n : ℕ) (calls made left later : List Call) (c : Call) → calls ≡ made ++ left → left ≡ c ∷ later → AllCallsBelow n calls → CallsBelow n c
call_below n calls made left later c parts is below =
    let whole : calls ≡ made ++ c ∷ later = parts ∙ ap (λ (cs : List Call). made ++ cs) is in
    let inside : length made < length calls = omega (arith, ap length whole, length-append made (c ∷ later)) in
    subst (CallsBelow n) (ap (λ (cs : List Call). get_or cs (length made) c) whole ∙ get_or-append_seam made c later c) (below (length made) c inside)

-- before the first call all are left
pub none_made : {u : Unit {0}} (columns : List Column) (calls : List Call) (session : Shown) (front : List ℕ) (old new : Option (List ℕ)) (f g : ℕ) → session.1 ≡ [] → own_of session ≡ [] → Writes old new f g (Ok u) front → Underway columns calls calls session.0 session front old new f g
none_made {u} columns calls session front old new f g none own w = record { made = []; parts = refl; begun = begun {u = u} columns session front old new f g none own w }

-- where no call is left all were made
pub all_made : (columns : List Column) (calls left : List Call) (number : ℕ) (session : Shown) (front : List ℕ) (old new : Option (List ℕ)) (f g : ℕ) → left ≡ [] → Underway columns calls left number session front old new f g → Ended columns calls number session front old new f g (Ok (tt {0}))
all_made columns calls left number session front old new f g none w =
    let whole : w.made ≡ calls = sym (w.parts ∙ ap (λ (cs : List Call). w.made ++ cs) none ∙ append-nil w.made) in
    subst (λ (l : List Call). Ended columns l number session front old new f g (Ok (tt {0}))) whole (w.begun.told, w.begun.done, w.begun.out)

module _ (columns : List Column) (calls : List Call) (number : ℕ) (front : List ℕ) (old : Option (List ℕ)) (f : ℕ) where
  -- the next call goes to those that were made
  next_parts : (made left later : List Call) (c : Call) → calls ≡ made ++ left → left ≡ c ∷ later → calls ≡ (made ++ c ∷ []) ++ later
  next_parts made left later c parts is = parts ∙ ap (λ (cs : List Call). made ++ cs) is ∙ sym (append_assoc made (c ∷ []) later)

  -- one call more was made, and its lines went out
  pub page_more : {u : Unit {0}} (left later : List Call) (c : Call) (t : Told) (session next : Shown) (new newer : Option (List ℕ)) (g h : ℕ) → left ≡ c ∷ later → Underway columns calls left number session front old new f g
      → next.0 ≡ session.0 → IfOk t (λ r. next.1 ≡ session.1 ++ (c, r) ∷ []) → OnErr t (next.1 ≡ session.1) → LeavesCall c t session next → IfErr t RefusesCall
      → Writes new newer g h (Ok u) (told_bytes columns c t) → Underway columns calls later number next front old newer f h
  page_more {u} left later c t session next new newer g h is b same mine err own why w = record {
    made = b.made ++ c ∷ [];
    parts = next_parts b.made left later c b.parts is;
    begun = begun_more {u = u} columns b.made c t number session next front old new newer f g h b.begun same mine err own why w;
  }

  -- the sink failed at the lines of one call more
  pub page_failed : {e : Refusal} (left later : List Call) (c : Call) (t : Told) (session next : Shown) (new newer : Option (List ℕ)) (g h : ℕ) (result : Result (Unit {0}) Refusal) → left ≡ c ∷ later → Underway columns calls left number session front old new f g
      → next.0 ≡ session.0 → IfOk t (λ r. next.1 ≡ session.1 ++ (c, r) ∷ []) → OnErr t (next.1 ≡ session.1) → LeavesCall c t session next → IfErr t RefusesCall
      → Writes new newer g h (Err e) (told_bytes columns c t) → IsErrAnd result (λ d. d ≡ e) → Ended columns calls number next front old newer f h result
  page_failed {e} left later c t session next new newer g h result is b same mine err own why w says =
      failed_at {e = e} columns b.made calls c t number session next front old new newer f g h later result (next_parts b.made left later c b.parts is) b.begun same mine err own why w says

-- ---- pages

blocks_push : (bs : List (List Call)) (ts : List (List Told)) (b : List Call) (t : List Told) → length ts ≡ length bs → blocks_told (bs ++ b ∷ []) (ts ++ t ∷ []) ≡ blocks_told bs ts ++ outcomes_of b t ∷ []
blocks_push [] [] b t e = refl
blocks_push [] (u ∷ ts) b t e = absurd (omega (arith, e))
blocks_push (a ∷ bs) [] b t e = absurd (omega (arith, e))
blocks_push (a ∷ bs) (u ∷ ts) b t e = ap (λ (os : List (List Outcome)). outcomes_of a u ∷ os) (blocks_push bs ts b t (omega (arith, e)))

-- there are as many blocks of outcomes, where something came of each block
pub length_blocks : (bs : List (List Call)) (ts : List (List Told)) → length ts ≡ length bs → length (blocks_told bs ts) ≡ length bs
length_blocks [] ts e = refl
length_blocks (b ∷ bs) [] e = absurd (omega (arith, e))
length_blocks (b ∷ bs) (t ∷ ts) e = ap suc (length_blocks bs ts (omega (arith, e)))

answered_more : (n : ℕ) (os : List (List Outcome)) (o : List Outcome) (vs : List Shown) (v : Shown) → AreAnswered n os vs → v.0 ≡ n + length os → v.1 ≡ answered o → AllLeft o (own_of v) → AreAnswered n (os ++ o ∷ []) (vs ++ v ∷ [])
answered_more n [] o [] v h number made left = ((let k : n + 0 ≡ n = omega arith in number ∙ k), made, left, tt)
answered_more n [] o (w ∷ vs) v h number made left = absurd h
answered_more n (x ∷ os) o [] v h number made left = absurd h
answered_more n (x ∷ os) o (w ∷ vs) v h number made left = (h.0, h.1, h.2, answered_more (n + 1) os o vs v h.3 (number ∙ (let k : n + suc (length os) ≡ n + 1 + length os = omega arith in k)) made left)

-- so many pages were gone through, and what came of them went out, or a beginning
pub record Reached (columns : List Column) (bs : List (List Call)) (done : List Shown) (old new : Option (List ℕ)) (f g : ℕ) (flown : Result (Unit {0}) Refusal) : Type 0 where
  pub told : List (List Told)
  pub many : length told ≡ length bs
  pub all : AreTold bs told
  pub why : AllSayWhy (blocks_told bs told)
  pub are : AreAnswered 1 (blocks_told bs told) done
  pub out : Writes old new f g flown (text_of columns (blocks_told bs told))

-- no page was gone through, and nothing went out
pub reached_none : (columns : List Column) (t : Option (List ℕ)) (f : ℕ) → Writes t t f f (Ok (tt {0})) [] → Reached columns [] [] t t f f (Ok (tt {0}))
reached_none columns t f nothing = record {
  told = [];
  many = refl;
  all = refl;
  why = All-nil (λ (b : List Outcome). All (λ (o : Outcome). SaysWhy o.1) b);
  are = tt;
  out = nothing;
}

-- what one page more adds, but for what went out
module _ (columns : List Column) (bs : List (List Call)) (done : List Shown) (old new : Option (List ℕ)) (f g : ℕ) (flown : Result (Unit {0}) Refusal) (r : Reached columns bs done old new f g flown) (b : List Call) (v : Shown) (t : List Told) (d : IsDone (1 + length bs) b v t) where
  outcomes-more : blocks_told (bs ++ b ∷ []) (r.told ++ t ∷ []) ≡ blocks_told bs r.told ++ outcomes_of b t ∷ []
  outcomes-more = blocks_push bs r.told b t r.many

  many-more : length (r.told ++ t ∷ []) ≡ length (bs ++ b ∷ [])
  many-more = let x = length_push r.told t in let y = length_push bs b in let m = r.many in omega (arith, x, y, m)

  all-more : AreTold (bs ++ b ∷ []) (r.told ++ t ∷ [])
  all-more =
      map_push (λ (l : List Told). length l) r.told t
      ∙ ap (λ (l : List ℕ). l ++ length t ∷ []) r.all
      ∙ ap (λ (n : ℕ). map (λ (l : List Call). length l) bs ++ n ∷ []) d.all
      ∙ sym (map_push (λ (l : List Call). length l) bs b)

  why-more : AllSayWhy (blocks_told (bs ++ b ∷ []) (r.told ++ t ∷ []))
  why-more = subst AllSayWhy (sym outcomes-more) (All-push (λ (l : List Outcome). All (λ (o : Outcome). SaysWhy o.1) l) (blocks_told bs r.told) (outcomes_of b t) r.why (call_why b t d.why))

  are-more : AreAnswered 1 (blocks_told (bs ++ b ∷ []) (r.told ++ t ∷ [])) (done ++ v ∷ [])
  are-more =
      subst (λ (os : List (List Outcome)). AreAnswered 1 os (done ++ v ∷ [])) (sym outcomes-more)
      (answered_more 1 (blocks_told bs r.told) (outcomes_of b t) done v r.are (d.number ∙ ap (λ (n : ℕ). 1 + n) (sym (length_blocks bs r.told r.many))) d.made d.left)

  text-more : text_of columns (blocks_told (bs ++ b ∷ []) (r.told ++ t ∷ [])) ≡ text_of columns (blocks_told bs r.told) ++ (line_before (length bs) ++ block_bytes columns (outcomes_of b t))
  text-more =
      ap (text_of columns) outcomes-more
      ∙ text_push columns (blocks_told bs r.told) (outcomes_of b t)
      ∙ ap (λ (n : ℕ). text_of columns (blocks_told bs r.told) ++ (line_before n ++ block_bytes columns (outcomes_of b t))) (length_blocks bs r.told r.many)

  -- one page more was gone through, where what came of it went out too, or a beginning
  pub reached-more : (newer : Option (List ℕ)) (h : ℕ) (result : Result (Unit {0}) Refusal) → Writes old newer f h result (text_of columns (blocks_told bs r.told) ++ (line_before (length bs) ++ block_bytes columns (outcomes_of b t)))
      → Reached columns (bs ++ b ∷ []) (done ++ v ∷ []) old newer f h result
  reached-more newer h result w = record {
    told = r.told ++ t ∷ [];
    many = many-more;
    all = all-more;
    why = why-more;
    are = are-more;
    out = subst (λ (l : List ℕ). Writes old newer f h result l) (sym text-more) w;
  }

-- one page more, of which calls were made
pub reached_page : {u : Unit {0}} (columns : List Column) (bs : List (List Call)) (done : List Shown) (old new newer : Option (List ℕ)) (f g h : ℕ) (b : List Call) (session v : Shown) (result : Result (Unit {0}) Refusal)
    → Reached columns bs done old new f g (Ok u) → session.0 ≡ 1 + length bs → Ended columns b session.0 v (line_before (length bs)) new newer g h result → Reached columns (bs ++ b ∷ []) (done ++ v ∷ []) old newer f h result
reached_page {u} columns bs done old new newer f g h b session v result r number e =
    reached-more columns bs done old new f g (Ok u) r b v e.0 (subst (λ (n : ℕ). IsDone n b v e.0) number e.1) newer h result
    (both (text_of columns (blocks_told bs r.told)) (line_before (length bs) ++ block_bytes columns (outcomes_of b e.0)) result r.out e.2)

-- and one that is left out, since the sink failed
pub reached_over : {e : Refusal} (columns : List Column) (bs : List (List Call)) (done : List Shown) (old new : Option (List ℕ)) (f g : ℕ) (b : List Call) (v : Shown)
    → Reached columns bs done old new f g (Err e) → v.0 ≡ 1 + length bs → v.1 ≡ [] → own_of v ≡ [] → Reached columns (bs ++ b ∷ []) (done ++ v ∷ []) old new f g (Err e)
reached_over {e} columns bs done old new f g b v r number none own =
    let d = done_before v.0 [] b v [] (done_none v none own) in
    reached-more columns bs done old new f g (Err e) r b v (given_up b) (subst (λ (n : ℕ). IsDone n b v (given_up b)) number d) new g (Err e)
    (stops (text_of columns (blocks_told bs r.told)) (line_before (length bs) ++ block_bytes columns (outcomes_of b (given_up b))) (Err e) refl r.out)

-- the same by how many pages were gone through

pages_at : (columns : List Column) (blocks bs : List (List Call)) (done : List Shown) (v : Shown) (b : List Call) (old new : Option (List ℕ)) (f g : ℕ) (result : Result (Unit {0}) Refusal) → length done < length blocks → b ≡ get_or blocks (length done) b → bs ≡ take (length done) blocks
    → Reached columns (bs ++ b ∷ []) (done ++ v ∷ []) old new f g result → Reached columns (take (length (done ++ v ∷ [])) blocks) (done ++ v ∷ []) old new f g result
pages_at columns blocks bs done v b old new f g result here is first r =
    let one : take (length done + 1) blocks ≡ take (length done) blocks ++ b ∷ [] = take_more blocks (length done) b here ∙ ap (λ (x : List Call). take (length done) blocks ++ x ∷ []) (sym is) in
    let whole : bs ++ b ∷ [] ≡ take (length (done ++ v ∷ [])) blocks = ap (λ (l : List (List Call)). l ++ b ∷ []) first ∙ sym one ∙ ap (λ (n : ℕ). take n blocks) (sym (length_push done v)) in
    subst (λ (l : List (List Call)). Reached columns l (done ++ v ∷ []) old new f g result) whole r

module _ (columns : List Column) (blocks : List (List Call)) (done : List Shown) (old : Option (List ℕ)) (f : ℕ) where
  -- one page more, of which calls were made
  pub pages_more : {u : Unit {0}} (b : List Call) (session v : Shown) (new newer : Option (List ℕ)) (g h : ℕ) (result : Result (Unit {0}) Refusal) → length done < length blocks → b ≡ get_or blocks (length done) b
      → Reached columns (take (length done) blocks) done old new f g (Ok u) → session.0 ≡ 1 + length done → Ended columns b session.0 v (line_before (length done)) new newer g h result
      → Reached columns (take (length (done ++ v ∷ [])) blocks) (done ++ v ∷ []) old newer f h result
  pages_more {u} b session v new newer g h result here is r number e =
      let many : length (take (length done) blocks) ≡ length done = length_take (length done) blocks here in
      pages_at columns blocks (take (length done) blocks) done v b old newer f h result here is refl
      (reached_page {u = u} columns (take (length done) blocks) done old new newer f g h b session v result r (number ∙ ap (λ (n : ℕ). 1 + n) (sym many)) (subst (λ (n : ℕ). Ended columns b session.0 v (line_before n) new newer g h result) (sym many) e))

  -- one that is left out, since the sink failed
  pub pages_over : {e : Refusal} (b : List Call) (v : Shown) (new : Option (List ℕ)) (g : ℕ) → length done < length blocks → b ≡ get_or blocks (length done) b
      → Reached columns (take (length done) blocks) done old new f g (Err e) → v.0 ≡ 1 + length done → v.1 ≡ [] → own_of v ≡ []
      → Reached columns (take (length (done ++ v ∷ [])) blocks) (done ++ v ∷ []) old new f g (Err e)
  pages_over {e} b v new g here is r number none own =
      let many : length (take (length done) blocks) ≡ length done = length_take (length done) blocks here in
      pages_at columns blocks (take (length done) blocks) done v b old new f g (Err e) here is refl
      (reached_over {e = e} columns (take (length done) blocks) done old new f g b v r (number ∙ ap (λ (n : ℕ). 1 + n) (sym many)) none own)

  -- as the sink has gone on, or has failed
  pub pages_on : (flown : Result (Unit {0}) Refusal) (b : List Call) (place : ℕ) (session next v : Shown) (new newer : Option (List ℕ)) (g h : ℕ) (result : Result (Unit {0}) Refusal) → is_err flown ≡ false → length done < length blocks → b ≡ get_or blocks (length done) b
      → place ≡ length done → v ≡ next → Reached columns (take (length done) blocks) done old new f g flown → session.0 ≡ 1 + length done → Ended columns b session.0 next (line_before place) new newer g h result
      → Reached columns (take (length (done ++ v ∷ [])) blocks) (done ++ v ∷ []) old newer f h result
  pages_on (Ok u) b place session next v new newer g h result went here is at same r number e =
      pages_more {u = u} b session v new newer g h result here is r number
      (subst (λ (n : ℕ). Ended columns b session.0 v (line_before n) new newer g h result) at (subst (λ (x : Shown). Ended columns b session.0 x (line_before place) new newer g h result) (sym same) e))
  pages_on (Err d) b place session next v new newer g h result went here is at same r number e = absurd (true≢false went)

  -- one that is left out, by whether the sink has failed
  pub pages_skip : (flown : Result (Unit {0}) Refusal) (b : List Call) (v : Shown) (new : Option (List ℕ)) (g : ℕ) → is_err flown ≡ true → length done < length blocks → b ≡ get_or blocks (length done) b
      → Reached columns (take (length done) blocks) done old new f g flown → v.0 ≡ 1 + length done → v.1 ≡ [] → own_of v ≡ []
      → Reached columns (take (length (done ++ v ∷ [])) blocks) (done ++ v ∷ []) old new f g flown
  pages_skip (Ok u) b v new g failed here is r number none own = absurd (true≢false (sym failed))
  pages_skip (Err e) b v new g failed here is r number none own = pages_over {e = e} b v new g here is r number none own

-- ---- the tickets

-- the last ticket has the number of all
pub named_last : (n k : ℕ) (os : List (List Outcome)) (vs : List Shown) → AreAnswered n os vs → 0 < length os → k + 1 ≡ n + length os → IsNamed k (map answered_to vs)
named_last n k [] vs h some is = absurd (omega (arith, some))
named_last n k (o ∷ os) [] h some is = absurd h
named_last n k (o ∷ []) (v ∷ vs) h some is = inl (h.0 ∙ (let e : n ≡ k = omega (arith, is) in e))
named_last n k (o ∷ p ∷ os) (v ∷ vs) h some is = inr (named_last (n + 1) k (p ∷ os) vs h.3 (omega arith) (omega (arith, is)))
