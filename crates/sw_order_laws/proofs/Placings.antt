-- Calls that a list gives their replies one after another, by their numbers.
use Rattle.std.proofs.Common.{◌≡◌, ◌∙◌, ◌++◌, ◌&&◌, sym, ap, refl, subst, ℕ, Bool, true, false, List, [], ◌∷◌, Option, Some, None}
use Rattle.std.specs.List.{slice_get}
use Rattle.std.specs.Option.{IfSome}
use Rattle.std.proofs.lemmas.Option.{same_Some}
use Rattle.sw_lang.specs.Replies.{reply_lines}
use Rattle.sw_rows.specs.Header.{Column}
use Rattle.sw_query.specs.declared.query.Call.{Call}
use Rattle.sw_spine.specs.History.{Agrees, AllAgree, entry}
use Rattle.sw_spine.specs.Table.{reply_to, updates_then}
use Rattle.sw_spine.specs.declared.history.Entry.{Entry}
use Rattle.sw_spine.specs.declared.history.State.{State}
use Rattle.sw_spine.specs.declared.history.State.TheVariants as state
use Rattle.sw_spine.proofs.Rising.{AreRising, rising_then}
use Rattle.sw_table.specs.declared.row.Update.{Update}
use Rattle.sw_logs.specs.Orders.{AreEntriesOf, IsEntryOf, IsStateFor}
use Rattle.sw_logs.specs.declared.logged.Logged.{Logged}
use Rattle.sw_order_laws.specs.Apart.{AreAllApart, AreApart, is_insert}
use Rattle.sw_order_laws.specs.Beginnings.{AreAlike, after_calls, with_call}
use Rattle.sw_order_laws.proofs.Tables.{alike_replies, alike_swapped, alike_then, reply_stays}

-- ---- calls one after another

-- a call has its reply after some updates
pub record IsPlaced (columns : List Column) (limit : ℕ) (calls : List Logged) (us : List Update) (i : ℕ) : Type 0 where
  pub call : Logged
  pub there : slice_get calls i ≡ Some call
  pub state : State
  pub said : IsStateFor call.reply state
  pub agrees : Agrees columns limit us call.call state

-- each of these calls has its reply after those before it
abbrev pub ArePlaced : List Column → ℕ → List Logged → List Update → List ℕ → Type 0
ArePlaced columns limit calls us [] = Unit {0}
ArePlaced columns limit calls us (i ∷ is) = IsPlaced columns limit calls us i × ArePlaced columns limit calls (with_call limit us (slice_get calls i)) is

-- the call of a number
pub call_is : (limit : ℕ) (calls : List Logged) (us : List Update) (i : ℕ) (c : Logged) → slice_get calls i ≡ Some c → with_call limit us (slice_get calls i) ≡ updates_then limit us c.call
call_is limit calls us i c there = ap (with_call limit us) there

-- entries that agree place their calls
pub placed_by_entries : (columns : List Column) (limit : ℕ) (calls : List Logged) (us : List Update) (is : List ℕ) (es : List Entry) → AreEntriesOf calls is es → AllAgree columns limit us es → ArePlaced columns limit calls us is
placed_by_entries columns limit calls us [] es are agree = tt
placed_by_entries columns limit calls us (i ∷ is) [] are agree = absurd are
placed_by_entries columns limit calls us (i ∷ is) (e ∷ es) are agree =
    let c : Logged = are.0.0 in
    let there : slice_get calls i ≡ Some c = are.0.1 in
    let of_call : IsEntryOf c e = are.0.2 in
    let next : updates_then limit us e.call ≡ with_call limit us (slice_get calls i) = ap (updates_then limit us) of_call.call ∙ sym (call_is limit calls us i c there) in (
      record { call = c; there = there; state = e.state; said = of_call.state; agrees = subst (λ (x : Call). Agrees columns limit us x e.state) of_call.call agree.0 },
      placed_by_entries columns limit calls (with_call limit us (slice_get calls i)) is es are.1 (subst (λ (vs : List Update). AllAgree columns limit vs es) next agree.1),
    )

-- entries of these calls that agree with the list
pub record AreMade (columns : List Column) (limit : ℕ) (calls : List Logged) (us : List Update) (is : List ℕ) : Type 0 where
  pub entries : List Entry
  pub are : AreEntriesOf calls is entries
  pub agree : AllAgree columns limit us entries

-- placed calls have entries that agree
pub entries_by_placed : (columns : List Column) (limit : ℕ) (calls : List Logged) (us : List Update) (is : List ℕ) → ArePlaced columns limit calls us is → AreMade columns limit calls us is
entries_by_placed columns limit calls us [] all = record { entries = []; are = tt; agree = tt }
entries_by_placed columns limit calls us (i ∷ is) all =
    let p = all.0 in
    let rest = entries_by_placed columns limit calls (with_call limit us (slice_get calls i)) is all.1 in
    let of_call : IsEntryOf p.call (entry p.call.session p.call.call p.state) = record { session = refl; call = refl; state = p.said } in
    record {
      entries = entry p.call.session p.call.call p.state ∷ rest.entries;
      are = ((p.call, p.there, of_call), rest.are);
      agree = (p.agrees, subst (λ (vs : List Update). AllAgree columns limit vs rest.entries) (call_is limit calls us i p.call p.there) rest.agree);
    }

-- ---- some calls, and then others

-- the first of two lists in a row is placed
pub placed_first : (columns : List Column) (limit : ℕ) (calls : List Logged) (us : List Update) (is js : List ℕ) → ArePlaced columns limit calls us (is ++ js) → ArePlaced columns limit calls us is
placed_first columns limit calls us [] js all = tt
placed_first columns limit calls us (i ∷ is) js all = (all.0, placed_first columns limit calls (with_call limit us (slice_get calls i)) is js all.1)

-- the second is, behind the first
pub placed_last : (columns : List Column) (limit : ℕ) (calls : List Logged) (us : List Update) (is js : List ℕ) → ArePlaced columns limit calls us (is ++ js) → ArePlaced columns limit calls (after_calls limit calls us is) js
placed_last columns limit calls us [] js all = all
placed_last columns limit calls us (i ∷ is) js all = placed_last columns limit calls (with_call limit us (slice_get calls i)) is js all.1

-- both are
pub placed_join : (columns : List Column) (limit : ℕ) (calls : List Logged) (us : List Update) (is js : List ℕ) → ArePlaced columns limit calls us is → ArePlaced columns limit calls (after_calls limit calls us is) js → ArePlaced columns limit calls us (is ++ js)
placed_join columns limit calls us [] js first last = last
placed_join columns limit calls us (i ∷ is) js first last = (first.0, placed_join columns limit calls (with_call limit us (slice_get calls i)) is js first.1 last)

-- the updates after both
pub after_both : (limit : ℕ) (calls : List Logged) (us : List Update) (is js : List ℕ) → after_calls limit calls us (is ++ js) ≡ after_calls limit calls (after_calls limit calls us is) js
after_both limit calls us [] js = refl
after_both limit calls us (i ∷ is) js = after_both limit calls (with_call limit us (slice_get calls i)) is js

-- ---- the same replies

-- what a state has to agree with is the reply
pub agrees_same : (columns : List Column) (limit : ℕ) (us vs : List Update) (c : Call) (st : State) → reply_to limit us c ≡ reply_to limit vs c → Agrees columns limit us c st → Agrees columns limit vs c st
agrees_same columns limit us vs c (state.Answered r) e h = h ∙ e
agrees_same columns limit us vs c (state.Lines ls) e h = h ∙ ap (reply_lines columns c) e
agrees_same columns limit us vs c state.Open e h = h
agrees_same columns limit us vs c state.Void e h = h

alike_with : (limit : ℕ) (us vs : List Update) (o : Option Logged) → AreAlike us vs → AreAlike (with_call limit us o) (with_call limit vs o)
alike_with limit us vs None a = a
alike_with limit us vs (Some c) a = alike_then limit us vs c.call a

-- what can be placed after one list can be after another that is alike
pub placed_alike : (columns : List Column) (limit : ℕ) (calls : List Logged) (us vs : List Update) (is : List ℕ) → AreAlike us vs → ArePlaced columns limit calls us is → ArePlaced columns limit calls vs is
placed_alike columns limit calls us vs [] a all = tt
placed_alike columns limit calls us vs (i ∷ is) a all =
    let p = all.0 in (
      record { call = p.call; there = p.there; state = p.state; said = p.said; agrees = agrees_same columns limit us vs p.call.call p.state (alike_replies limit us vs p.call.call a) p.agrees },
      placed_alike columns limit calls (with_call limit us (slice_get calls i)) (with_call limit vs (slice_get calls i)) is (alike_with limit us vs (slice_get calls i) a) all.1,
    )

-- keys rise with one call more
pub rising_with : (limit : ℕ) (us : List Update) (o : Option Logged) → AreRising us → AreRising (with_call limit us o)
rising_with limit us None up = up
rising_with limit us (Some c) up = rising_then limit us c.call up

-- keys rise with calls more
pub rising_calls : (limit : ℕ) (calls : List Logged) (us : List Update) (is : List ℕ) → AreRising us → AreRising (after_calls limit calls us is)
rising_calls limit calls us [] up = up
rising_calls limit calls us (i ∷ is) up = rising_calls limit calls (with_call limit us (slice_get calls i)) is (rising_with limit us (slice_get calls i) up)

-- ---- two calls in the other order

-- each has its reply there too
pub record HaveSwapped (columns : List Column) (limit : ℕ) (calls : List Logged) (us : List Update) (i j : ℕ) : Type 0 where
  pub first : IsPlaced columns limit calls us j
  pub second : IsPlaced columns limit calls (with_call limit us (slice_get calls j)) i

-- two neighbours that are apart change places
pub swapped : (columns : List Column) (limit : ℕ) (calls : List Logged) (us : List Update) (i j : ℕ) (c d : Logged) → AreRising us → slice_get calls i ≡ Some c → slice_get calls j ≡ Some d → AreApart limit us c.call d.call → IsPlaced columns limit calls us i → IsPlaced columns limit calls (with_call limit us (slice_get calls i)) j → HaveSwapped columns limit calls us i j
swapped columns limit calls us i j c d up ti tj apart p q =
    let pc : Agrees columns limit us c.call p.state = subst (λ (x : Logged). Agrees columns limit us x.call p.state) (same_Some p.call c (sym p.there ∙ ti)) p.agrees in
    let ps : IsStateFor c.reply p.state = subst (λ (x : Logged). IsStateFor x.reply p.state) (same_Some p.call c (sym p.there ∙ ti)) p.said in
    let qd : Agrees columns limit (with_call limit us (slice_get calls i)) d.call q.state = subst (λ (x : Logged). Agrees columns limit (with_call limit us (slice_get calls i)) x.call q.state) (same_Some q.call d (sym q.there ∙ tj)) q.agrees in
    let qs : IsStateFor d.reply q.state = subst (λ (x : Logged). IsStateFor x.reply q.state) (same_Some q.call d (sym q.there ∙ tj)) q.said in
    let qu : Agrees columns limit (updates_then limit us c.call) d.call q.state = subst (λ (vs : List Update). Agrees columns limit vs d.call q.state) (call_is limit calls us i c ti) qd in
    record {
      first = record { call = d; there = tj; state = q.state; said = qs; agrees = agrees_same columns limit (updates_then limit us c.call) us d.call q.state (reply_stays limit us c.call d.call up apart.first apart.one_inserts) qu };
      second = record { call = c; there = ti; state = p.state; said = ps; agrees = agrees_same columns limit us (with_call limit us (slice_get calls j)) c.call p.state (sym (reply_stays limit us d.call c.call up apart.second (turned (is_insert c.call) (is_insert d.call) apart.one_inserts)) ∙ ap (λ (vs : List Update). reply_to limit vs c.call) (sym (call_is limit calls us j d tj))) pc };
    }
  where
    turned : (a b : Bool) → (a && b) ≡ false → (b && a) ≡ false
    turned true true h = h
    turned true false h = refl
    turned false true h = refl
    turned false false h = refl

-- they leave the same
pub swapped_alike : (limit : ℕ) (calls : List Logged) (us : List Update) (i j : ℕ) (c d : Logged) → AreRising us → slice_get calls i ≡ Some c → slice_get calls j ≡ Some d → AreApart limit us c.call d.call → AreAlike (with_call limit (with_call limit us (slice_get calls i)) (slice_get calls j)) (with_call limit (with_call limit us (slice_get calls j)) (slice_get calls i))
swapped_alike limit calls us i j c d up ti tj apart =
    let one = ap (λ (o : Option Logged). with_call limit (with_call limit us o) (slice_get calls j)) ti ∙ ap (with_call limit (updates_then limit us c.call)) tj in
    let other = ap (λ (o : Option Logged). with_call limit (with_call limit us o) (slice_get calls i)) tj ∙ ap (with_call limit (updates_then limit us d.call)) ti in
    let same = alike_swapped limit us c.call d.call up apart in
    subst (λ (vs : List Update). AreAlike vs (with_call limit (with_call limit us (slice_get calls j)) (slice_get calls i))) (sym one) (subst (AreAlike (updates_then limit (updates_then limit us c.call) d.call)) (sym other) same)

-- ---- a call on which none of some others bears comes before them

apart_from : (limit : ℕ) (us : List Update) (o : Option Logged) (d : Logged) (c : Call) → o ≡ Some d → IfSome o (λ x. AreApart limit us x.call c) → AreApart limit us d.call c
apart_from limit us o d c is h = subst (λ (x : Option Logged). IfSome x (λ y. AreApart limit us y.call c)) is h

-- a call moves to the front of those that are apart from it
pub apart_moved : (columns : List Column) (limit : ℕ) (calls : List Logged) (us : List Update) (between rest : List ℕ) (i : ℕ) (c : Logged) → AreRising us → slice_get calls i ≡ Some c → AreAllApart limit calls us c.call between → ArePlaced columns limit calls us (between ++ i ∷ rest) → ArePlaced columns limit calls us (i ∷ (between ++ rest))
apart_moved columns limit calls us [] rest i c up there apart all = all
apart_moved columns limit calls us (b ∷ bs) rest i c up there apart all =
    let next : List Update = with_call limit us (slice_get calls b) in
    let later : ArePlaced columns limit calls next (i ∷ (bs ++ rest)) = apart_moved columns limit calls next bs rest i c (rising_with limit us (slice_get calls b) up) there apart.1 all.1 in
    let d : Logged = all.0.call in
    let own : AreApart limit us d.call c.call = apart_from limit us (slice_get calls b) d c.call all.0.there apart.0 in
    let both : HaveSwapped columns limit calls us b i = swapped columns limit calls us b i d c up all.0.there there own all.0 later.0 in
    (both.first, (both.second, placed_alike columns limit calls (with_call limit next (slice_get calls i)) (with_call limit (with_call limit us (slice_get calls i)) (slice_get calls b)) (bs ++ rest) (swapped_alike limit calls us b i d c up all.0.there there own) later.1))
