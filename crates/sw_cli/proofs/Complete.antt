-- Where each call was answered, the lines are those of the replies in the record; and of one block, those of the plain table.
use Rattle.std.proofs.Common.{◌≡◌, ◌∙◌, sym, ap, refl, ℕ, zero, suc, ◌+◌, ◌<◌, ◌≤◌, ◌==◌, ◌&&◌, Bool, true, false, not, List, [], ◌∷◌, ◌++◌, arith, get_or, length, map, Ok, Err}
use Rattle.std.proofs.lemmas.List.{append-nil}
use Rattle.std.proofs.lemmas.Bool.Decides.{nat_tests}
use Rattle.sw_rows.specs.Header.{Column}
use Rattle.sw_query.specs.declared.query.Call.{Call}
use Rattle.sw_query.specs.declared.query.Call.TheVariants as call
use Rattle.sw_query.specs.declared.reply.Reply.{Reply}
use Rattle.sw_table.specs.declared.row.Update.{Update}
use Rattle.sw_lang.specs.Replies.{reply_bytes}
use Rattle.sw_spine.specs.History.{Agrees, AllAgree, History, all_given, is_absent, is_given, is_open, is_select, mine, with_answer}
use Rattle.sw_spine.specs.Rest.{none_open}
use Rattle.sw_spine.specs.Table.{reply_to, updates_then}
use Rattle.sw_spine.specs.declared.history.Entry.{Entry}
use Rattle.sw_spine.specs.declared.history.State.{State}
use Rattle.sw_spine.specs.declared.history.State.TheVariants as state
use Rattle.sw_cli.specs.Outcomes.{Outcome, all_answered, answered, block_bytes, calls_of, sessions_from}
use Rattle.sw_cli.specs.Run.{is_session, replies_bytes}

-- no more are answered than are made
few_answered : (os : List Outcome) → length (answered os) ≤ length os
few_answered [] = omega arith
few_answered ((c, Ok r) ∷ os) = let h = few_answered os in omega (arith, h)
few_answered ((c, Err e) ∷ os) = let h = few_answered os in omega (arith, h)

-- where as many are answered as are made, each is
pub each_answered : (os : List Outcome) → length (answered os) ≡ length os → os ≡ all_answered (answered os)
each_answered [] h = refl
each_answered ((c, Ok r) ∷ os) h = ap (λ (l : List Outcome). (c, Ok r) ∷ l) (each_answered os (omega (arith, h)))
each_answered ((c, Err e) ∷ os) h = let few = few_answered os in absurd (omega (arith, h, few))

-- answered calls, as outcomes, are of these calls
pub calls_answered : (ms : List (Call × Reply)) → calls_of (all_answered ms) ≡ map (λ m. m.0) ms
calls_answered [] = refl
calls_answered (m ∷ ms) = ap (λ (l : List Call). m.0 ∷ l) (calls_answered ms)

length_calls : (os : List Outcome) → length (calls_of os) ≡ length os
length_calls [] = refl
length_calls (o ∷ os) = ap suc (length_calls os)

-- a block whose session has as many answered calls as it has calls
pub block_answered : (os : List Outcome) (calls : List Call) (mine_are : List (Call × Reply)) → calls_of os ≡ calls → mine_are ≡ answered os → length mine_are ≡ length calls → os ≡ all_answered mine_are
block_answered os calls ms ec em many =
    let k = length_calls os in
    let l : length (answered os) ≡ length os = sym (ap length em) ∙ many ∙ sym (ap length ec) ∙ k in
    each_answered os l ∙ ap all_answered (sym em)

-- the outcomes of blocks, block by block
pub blocks_answered : (k : ℕ) (told : List (List Outcome)) (h : History) → ((i : ℕ) → i < length told → get_or told i [] ≡ all_answered (mine (i + k) h.entries)) → told ≡ map all_answered (sessions_from k (length told) h)
blocks_answered k [] h each = refl
blocks_answered k (b ∷ bs) h each =
    let here : b ≡ all_answered (mine k h.entries) = each 0 (omega arith) ∙ ap (λ (n : ℕ). all_answered (mine n h.entries)) (let e : 0 + k ≡ k = omega arith in e) in
    let rest : bs ≡ map all_answered (sessions_from (k + 1) (length bs) h) =
    blocks_answered (k + 1) bs h (λ i less. each (suc i) (omega (arith, less)) ∙ ap (λ (n : ℕ). all_answered (mine n h.entries)) (let e : suc i + k ≡ i + (k + 1) = omega arith in e)) in
    ap (λ (x : List Outcome). x ∷ bs) here ∙ ap (λ (l : List (List Outcome)). all_answered (mine k h.entries) ∷ l) rest

-- ---- one session

and-right : (a b : Bool) → (a && b) ≡ true → b ≡ true
and-right true b h = h
and-right false b h = absurd cc

and-left : (a b : Bool) → (a && b) ≡ true → a ≡ true
and-left true b h = refl
and-left false b h = absurd cc

-- the only session that has entries is session 1
abbrev pub IsAlone : List Entry → Type 0
IsAlone es = (session : ℕ) → is_session 1 session ≡ false → is_absent session es ≡ true

alone_rest : (e : Entry) (es : List Entry) → IsAlone (e ∷ es) → IsAlone es
alone_rest e es h session other = and-right (not (e.session == session)) (is_absent session es) (h session other)

first_one : (n : ℕ) → (is_session 1 n ≡ false → not (n == n) ≡ true) → (n == 1) ≡ true
first_one zero h = let k = h refl in absurd (grind (arith, nat_tests, k))
first_one (suc zero) h = refl
first_one (suc (suc n)) h = let other : is_session 1 (suc (suc n)) ≡ false = grind (arith, nat_tests) in let k = h other in absurd (grind (arith, nat_tests, k))

alone_first : (e : Entry) (es : List Entry) → IsAlone (e ∷ es) → (e.session == 1) ≡ true
alone_first e es h = first_one e.session (λ other. and-left (not (e.session == e.session)) (is_absent e.session es) (h e.session other))

select_keeps : (limit : ℕ) (us : List Update) (c : Call) → is_select c ≡ true → updates_then limit us c ≡ us
select_keeps limit us (call.Select q) h = append-nil us
select_keeps limit us (call.Insert cells) h = absurd cc
select_keeps limit us (call.Delete key) h = absurd cc
select_keeps limit us (call.DeleteWhere conds) h = absurd cc

step : (columns : List Column) (limit : ℕ) (us : List Update) (c : Call) (st : State) (rest : List (Call × Reply)) → Agrees columns limit us c st → is_given st ≡ true → not (is_open st) ≡ true
    → block_bytes columns (all_answered rest) ≡ replies_bytes columns limit (updates_then limit us c) (map (λ m. m.0) rest)
    → block_bytes columns (all_answered (with_answer c st rest)) ≡ replies_bytes columns limit us (map (λ m. m.0) (with_answer c st rest))
step columns limit us c (state.Answered r) rest agrees given closed more = ap (λ (x : Reply). reply_bytes columns c x ++ block_bytes columns (all_answered rest)) agrees ∙ ap (λ (l : List ℕ). reply_bytes columns c (reply_to limit us c) ++ l) more
step columns limit us c (state.Lines ls) rest agrees given closed more = absurd cc
step columns limit us c state.Open rest agrees given closed more = absurd cc
step columns limit us c state.Void rest agrees given closed more = more ∙ ap (λ (vs : List Update). replies_bytes columns limit vs (map (λ m. m.0) rest)) (select_keeps limit us c agrees)

-- of a legal history of one session, the lines of its replies are those of the plain table's
pub one_session : (columns : List Column) (limit : ℕ) (us : List Update) (es : List Entry) → IsAlone es → AllAgree columns limit us es → all_given es ≡ true → none_open es ≡ true
    → block_bytes columns (all_answered (mine 1 es)) ≡ replies_bytes columns limit us (map (λ m. m.0) (mine 1 es))
one_session columns limit us [] alone agree given closed = refl
one_session columns limit us (e ∷ es) alone agree given closed =
    let more = one_session columns limit (updates_then limit us e.call) es (alone_rest e es alone) agree.1 (and-right (is_given e.state) (all_given es) given) (and-right (not (is_open e.state)) (none_open es) closed) in
    rw (alone_first e es alone) (step columns limit us e.call e.state (mine 1 es) agree.0 (and-left (is_given e.state) (all_given es) given) (and-left (not (is_open e.state)) (none_open es) closed) more)
