-- Beginnings of orders as the laws' proofs see them: calls that have their replies one after another, each of which may
-- stand before each later one.
use Rattle.std.proofs.Common.{◌≡◌, ◌∙◌, ◌++◌, sym, ap, refl, subst, ℕ, true, false, List, [], ◌∷◌, Option, Some, None, arith}
use Rattle.std.specs.List.{slice_get}
use Rattle.std.specs.Prelude.{is_some}
use Rattle.std.specs.Option.{IfSome}
use Rattle.std.proofs.lemmas.List.{append-nil}
use Rattle.std.proofs.lemmas.Option.{same_Some}
use Rattle.sw_lang.specs.Replies.{reply_lines}
use Rattle.sw_rows.specs.Header.{Column}
use Rattle.sw_spine.specs.History.{AllAgree, Agrees, history}
use Rattle.sw_spine.specs.Table.{opened, reply_to, update_by}
use Rattle.sw_spine.specs.declared.history.Entry.{Entry}
use Rattle.sw_spine.specs.declared.history.State.{State}
use Rattle.sw_spine.specs.declared.history.State.TheVariants as state
use Rattle.sw_spine.proofs.Rising.{AreRising, rising_opened}
use Rattle.sw_spine.proofs.StoreLemmas.{inserts_opened}
use Rattle.sw_table.specs.declared.row.Row.{Row}
use Rattle.sw_table.specs.declared.row.Update.{Update}
use Rattle.sw_logs.specs.Openings.{IsOpening}
use Rattle.sw_logs.specs.Orders.{IsStateFor, is_known}
use Rattle.sw_logs.specs.declared.logged.Logged.{Logged}
use Rattle.sw_logs.specs.declared.opening.Opening.{Opening}
use Rattle.sw_logs.specs.declared.order.By.{By}
use Rattle.sw_order_laws.specs.Beginnings.{IsBeginning, IsReplied, after_calls, updates_by, with_call}
use Rattle.sw_order_laws.proofs.Idle.{AreFew, few_then, idle_told}
use Rattle.sw_order_laws.proofs.Placings.{ArePlaced, IsPlaced, call_is, entries_by_placed, placed_by_entries, placed_first, placed_join, placed_last, rising_calls}
use Rattle.sw_order_laws.proofs.Standing.{AreInOrder, in_order, keeps_order}

-- a beginning, as proofs take it apart: numbers in order, each call with its reply
pub record IsLaid (keeping : By) (opening : Opening) (calls : List Logged) (places : List ℕ) : Type 0 where
  pub placed : ArePlaced opening.schema opening.limit calls (opened opening.rows.items) places
  pub order : AreInOrder keeping calls places

same_table : (columns schema : List Column) (rows items : List Row) (limit most : ℕ) (es : List Entry) → columns ≡ schema → rows ≡ items → limit ≡ most → AllAgree columns limit (opened rows) es → AllAgree schema most (opened items) es
same_table columns schema rows items limit most es c r l h =
    subst (λ (x : List Column). AllAgree x most (opened items) es) c (subst (λ (x : List Row). AllAgree columns most (opened x) es) r (subst (λ (n : ℕ). AllAgree columns n (opened rows) es) l h))

-- a beginning is laid
pub laid : (keeping : By) (opening : Opening) (calls : List Logged) (places : List ℕ) → IsBeginning keeping opening calls places → IsLaid keeping opening calls places
laid keeping opening calls places b = record {
  placed = placed_by_entries opening.schema opening.limit calls (opened opening.rows.items) places b.history.entries b.record_of.entries
      (same_table b.history.columns opening.schema b.history.rows opening.rows.items b.history.limit opening.limit b.history.entries b.record_of.columns_are b.record_of.rows_are b.record_of.limit_is b.legal);
  order = in_order keeping calls places b.numbers b.once b.sessions b.times;
}

-- what is laid is a beginning
pub begins : (keeping : By) (opening : Opening) (calls : List Logged) (places : List ℕ) → IsLaid keeping opening calls places → IsBeginning keeping opening calls places
begins keeping opening calls places l =
    let made = entries_by_placed opening.schema opening.limit calls (opened opening.rows.items) places l.placed in
    let kept = keeps_order keeping calls places l.order in
    record {
      history = history opening.schema opening.rows.items opening.limit made.entries;
      record_of = record { columns_are = refl; rows_are = refl; limit_is = refl; entries = made.are };
      legal = made.agree;
      numbers = kept.numbers;
      once = kept.once;
      sessions = kept.sessions;
      times = kept.times;
    }

-- ---- the list after a beginning

few_calls : (limit : ℕ) (calls : List Logged) (us : List Update) (is : List ℕ) → AreFew limit us → AreFew limit (after_calls limit calls us is)
few_calls limit calls us [] few = few
few_calls limit calls us (i ∷ is) few = few_calls limit calls (with_call limit us (slice_get calls i)) is (by_call (slice_get calls i))
  where
    by_call : (o : Option Logged) → AreFew limit (with_call limit us o)
    by_call None = few
    by_call (Some c) = few_then limit us c.call few

few_opened : (opening : Opening) → IsOpening opening → AreFew opening.limit (opened opening.rows.items)
few_opened opening o = record { most = o.most; within = let same = inserts_opened opening.rows.items in let few = o.few in omega (arith, same, few) }

-- the calls that stand leave no more rows than the limit
pub few_by : (opening : Opening) (calls : List Logged) (placed : List ℕ) → IsOpening opening → AreFew opening.limit (updates_by opening calls placed)
few_by opening calls placed o = few_calls opening.limit calls (opened opening.rows.items) placed (few_opened opening o)

-- their updates have rising keys
pub rising_by : (opening : Opening) (calls : List Logged) (placed : List ℕ) → IsOpening opening → AreRising (updates_by opening calls placed)
rising_by opening calls placed o = rising_calls opening.limit calls (opened opening.rows.items) placed (rising_opened opening.rows.items o.numbered)

-- ---- calls that change nothing

-- a call without an update changes nothing
pub unchanged : (limit : ℕ) (calls : List Logged) (us : List Update) (i : ℕ) (c : Logged) → slice_get calls i ≡ Some c → update_by limit us c.call ≡ [] → with_call limit us (slice_get calls i) ≡ us
unchanged limit calls us i c there idle = call_is limit calls us i c there ∙ (ap (λ (vs : List Update). us ++ vs) idle ∙ append-nil us)

-- the state of a call of known outcome that has its reply, and what it says
pub record IsTold (columns : List Column) (limit : ℕ) (us vs : List Update) (c : Logged) : Type 0 where
  pub state : State
  pub said : IsStateFor c.reply state
  pub agrees : Agrees columns limit us c.call state
  pub same : reply_lines columns c.call (reply_to limit us c.call) ≡ reply_lines columns c.call (reply_to limit vs c.call)

-- from what replies tell to what a search reads of them
pub told : (columns : List Column) (limit : ℕ) (us vs : List Update) (c : Logged) (st : State) (o : Option (List (List ℕ))) → c.reply ≡ o → is_known c ≡ true → IsStateFor c.reply st → IsReplied columns limit us c → Agrees columns limit vs c.call st → IsTold columns limit us vs c
told columns limit us vs c st None is known said replied agrees = absurd (let none : is_some c.reply ≡ false = ap (λ (x : Option (List (List ℕ))). is_some x) is in cc)
told columns limit us vs c st (Some lines) is known said replied agrees =
    let lines_are : st ≡ state.Lines lines = subst (λ (x : Option (List (List ℕ))). IsStateFor x st) is said in
    let here : lines ≡ reply_lines columns c.call (reply_to limit us c.call) = subst (λ (x : Option (List (List ℕ))). IfSome x (λ ls. ls ≡ reply_lines columns c.call (reply_to limit us c.call))) is replied in
    let later : lines ≡ reply_lines columns c.call (reply_to limit vs c.call) = subst (Agrees columns limit vs c.call) lines_are agrees in
    record { state = st; said = said; agrees = subst (Agrees columns limit us c.call) (sym lines_are) here; same = sym here ∙ later }

replied_if : (columns : List Column) (limit : ℕ) (us : List Update) (c : Logged) (st : State) (o : Option (List (List ℕ))) → c.reply ≡ o → IsStateFor o st → Agrees columns limit us c.call st → IfSome o (λ lines. lines ≡ reply_lines columns c.call (reply_to limit us c.call))
replied_if columns limit us c st None is said agrees = tt
replied_if columns limit us c st (Some lines) is said agrees = subst (Agrees columns limit us c.call) said agrees

-- a call that is placed has the reply of its log
pub replied_at : (columns : List Column) (limit : ℕ) (calls : List Logged) (us : List Update) (i : ℕ) (c : Logged) → slice_get calls i ≡ Some c → IsPlaced columns limit calls us i → IsReplied columns limit us c
replied_at columns limit calls us i c there p =
    let own : p.call ≡ c = same_Some p.call c (sym p.there ∙ there) in
    replied_if columns limit us c p.state c.reply refl (subst (λ (x : Logged). IsStateFor x.reply p.state) own p.said) (subst (λ (x : Logged). Agrees columns limit us x.call p.state) own p.agrees)

-- a call that changes nothing moves to the front of those before it
pub idle_moved : (columns : List Column) (limit : ℕ) (calls : List Logged) (us : List Update) (between rest : List ℕ) (i : ℕ) (c : Logged) → AreFew limit us → AreFew limit (after_calls limit calls us between) → slice_get calls i ≡ Some c → is_known c ≡ true → IsReplied columns limit us c → update_by limit us c.call ≡ [] → ArePlaced columns limit calls us (between ++ i ∷ rest) → ArePlaced columns limit calls us (i ∷ (between ++ rest))
idle_moved columns limit calls us between rest i c few many there known replied idle all =
    let vs : List Update = after_calls limit calls us between in
    let last : ArePlaced columns limit calls vs (i ∷ rest) = placed_last columns limit calls us between (i ∷ rest) all in
    let own : last.0.call ≡ c = same_Some last.0.call c (sym last.0.there ∙ there) in
    let said : IsStateFor c.reply last.0.state = subst (λ (x : Logged). IsStateFor x.reply last.0.state) own last.0.said in
    let agrees : Agrees columns limit vs c.call last.0.state = subst (λ (x : Logged). Agrees columns limit vs x.call last.0.state) own last.0.agrees in
    let t : IsTold columns limit us vs c = told columns limit us vs c last.0.state c.reply refl known said replied agrees in
    let later : update_by limit vs c.call ≡ [] = idle_told columns limit us vs c.call few many t.same idle in (
      record { call = c; there = there; state = t.state; said = t.said; agrees = t.agrees },
      subst (λ (ws : List Update). ArePlaced columns limit calls ws (between ++ rest)) (sym (unchanged limit calls us i c there idle))
          (placed_join columns limit calls us between rest (placed_first columns limit calls us between (i ∷ rest) all)
          (subst (λ (ws : List Update). ArePlaced columns limit calls ws rest) (unchanged limit calls vs i c there later) last.1)),
    )

-- ---- what stands behind a beginning

-- the calls behind a beginning are in another order
pub laid_behind : (keeping : By) (opening : Opening) (calls : List Logged) (placed one other : List ℕ) → IsLaid keeping opening calls (placed ++ one) → (ArePlaced opening.schema opening.limit calls (updates_by opening calls placed) one → ArePlaced opening.schema opening.limit calls (updates_by opening calls placed) other) → AreInOrder keeping calls (placed ++ other) → IsLaid keeping opening calls (placed ++ other)
laid_behind keeping opening calls placed one other l moved order = record {
  placed = placed_join opening.schema opening.limit calls (opened opening.rows.items) placed other (placed_first opening.schema opening.limit calls (opened opening.rows.items) placed one l.placed) (moved (placed_last opening.schema opening.limit calls (opened opening.rows.items) placed one l.placed));
  order = order;
}
