-- What heads are made from, and what they may receive.
use Rattle.std.proofs.Common.{◌≡◌, ◌<◌, ◌≤◌, ◌+◌, ◌^◌, ◌++◌, ◌<ℤ◌, ℕ, ℤ, true, false, List, [], ◌∷◌, length, fold, map, refl, ap, ◌∙◌, arith, All, zero, suc, Option, Some, None}
use Rattle.std.specs.Prelude.{Result, Ok, Err, IfOk, MatchResult, is_some}
use Rattle.std.proofs.lemmas.Bool.Decides.{nat_tests}
use Rattle.std.proofs.lemmas.List.Elements.{All-push}
use Rattle.std.specs.List.{AllByRecursion}
use Rattle.sw_table.specs.Updates.{rows_of, rows_then}
use Rattle.sw_table.specs.declared.row.Row.{Row}
use Rattle.sw_table.specs.declared.row.Update.{Update}
use Rattle.sw_table.specs.declared.row.Update.TheVariants as update
use Rattle.sw_lang.specs.Cuts.{rises}
use Rattle.sw_spine.specs.Receivable.{AreUpdates, MayComeAll, given_then}
use Rattle.sw_spine.specs.Table.{is_numbered}
use Rattle.sw_spine.specs.Table as table
use Rattle.sw_spine.proofs.Receivables.{may_come_first, may_come_rest}
use Rattle.sw_query.specs.declared.refusal.Refusal.{Refusal}
use Rattle.sw_query.specs.declared.refusal.Refusal.TheVariants.{NoMemory}
use Rattle.sw_chunks.specs.Cuts.{Interval, RiseAbove, intervals}
use Rattle.sw_set.specs.Shelf.{AreReceivable, Rises, came_then, key_of}
use Rattle.sw_chunks.specs.Routing.{MayFollow}
use Rattle.sw_chunks.specs.Heads.{HeadState, opened, opened_area}
use Rattle.sw_chunks.specs.Shelved.{boxes_in}
use Rattle.sw_engine.specs.Desk.{IsNewHead, latched}

-- ---- updates of a history

below_more : (n : ℕ) (came : List Row) → All (λ (c : Row). c.key ≤ n) came → All (λ (c : Row). c.key ≤ n + 1) came
below_more n came all i d lt = let a = all i d lt in omega arith

-- no key that came exceeds the number of rows given
given_low : (limit n : ℕ) (came live : List Row) (us : List Update) → All (λ (c : Row). c.key ≤ n) came → MayComeAll limit n live us → All (λ (c : Row). c.key ≤ fold given_then n us) (fold came_then came us)
given_low limit n came live [] low all = low
given_low limit n came live (update.Insert r ∷ us) low all = given_low limit (n + 1) (came ++ r ∷ []) (rows_then live (update.Insert r)) us (All-push (λ (c : Row). c.key ≤ n + 1) came r (below_more n came low) (let key = all.0.0 in omega (arith, key))) all.1
given_low limit n came live (update.Remove k ∷ us) low all = given_low limit n came (rows_then live (update.Remove k)) us low all.1

head_receives : (a limit n : ℕ) (came live : List Row) (us : List Update) → limit < 2 ^ 63 → All (λ (c : Row). c.key ≤ n) came → MayComeAll limit n live us → AreReceivable a None None came live us
head_receives a limit n came live [] fits low all = tt
head_receives a limit n came live (update.Insert r ∷ us) fits low all =
    let key : r.key ≡ n + 1 = all.0.0 in
    (((λ i d lt. let b = low i d lt in omega (arith, b, key)), omega (arith, all.0.1, fits), refl), head_receives a limit (n + 1) (came ++ r ∷ []) (rows_then live (update.Insert r)) us fits (All-push (λ (c : Row). c.key ≤ n + 1) came r (below_more n came low) (omega (arith, key))) all.1)
head_receives a limit n came live (update.Remove k ∷ us) fits low all = (all.0, head_receives a limit n came (rows_then live (update.Remove k)) us fits low all.1)

-- what comes to the table may come to a head
pub may_follow : (a limit : ℕ) (us vs : List Update) → limit ≤ 1048576 → AreUpdates limit (us ++ vs) → MayFollow a us vs
may_follow a limit us vs most all = head_receives a limit (fold given_then 0 us) (fold came_then [] us) (rows_of us) vs (omega (arith, most)) (given_low limit 0 [] [] us (λ i d lt. absurd (omega (arith, lt))) (may_come_first limit 0 [] us vs all)) (may_come_rest limit 0 [] us vs all)

-- ---- rows in order

-- the key of each row is less than the first number and the number of rows together
pub numbered_low : (n : ℕ) (rows : List Row) → is_numbered n rows ≡ true → All (λ (r : Row). r.key < n + length rows) rows
numbered_low n [] h i d lt = absurd (omega (arith, lt))
numbered_low n (r ∷ rows) h zero d lt = let key : r.key ≡ n = grind (arith, nat_tests, h) in omega (arith, key)
numbered_low n (r ∷ rows) h (suc i) d lt =
    let rest : is_numbered (n + 1) rows ≡ true = grind (arith, nat_tests, h) in
    let b = numbered_low (n + 1) rows rest i d (omega (arith, lt)) in omega (arith, b)

-- keys that count from 1, of no more than 1,048,576 rows, are less than two to the power 63
pub keys_fit : (rows : List Row) → is_numbered 1 rows ≡ true → length rows ≤ 1048576 → All (λ (r : Row). r.key < 2 ^ 63) rows
keys_fit rows h most i d lt = let b = numbered_low 1 rows h i d lt in omega (arith, b, most)

numbered_above : (n k : ℕ) (rows : List Row) → is_numbered n rows ≡ true → k < n → AllByRecursion (λ (y : Row). k < key_of y) rows
numbered_above n k [] h less = tt
numbered_above n k (r ∷ rows) h less =
    let key : r.key ≡ n = grind (arith, nat_tests, h) in
    let rest : is_numbered (n + 1) rows ≡ true = grind (arith, nat_tests, h) in
    (omega (arith, key, less), numbered_above (n + 1) k rows rest (omega (arith, less)))

-- the keys of numbered rows rise
pub numbered_rise : (n : ℕ) (rows : List Row) → is_numbered n rows ≡ true → Rises key_of rows
numbered_rise n [] h = tt
numbered_rise n (r ∷ rows) h =
    let key : r.key ≡ n = grind (arith, nat_tests, h) in
    let rest : is_numbered (n + 1) rows ≡ true = grind (arith, nat_tests, h) in
    (numbered_above (n + 1) r.key rows rest (omega (arith, key)), numbered_rise (n + 1) rows rest)

-- ---- cuts

above_from : (v : ℤ) (cs : List ℤ) → rises (v ∷ cs) ≡ true → RiseAbove (Some v) cs
above_from v [] h = tt
above_from v (c ∷ cs) h =
    let less : v <ℤ c = grind (arith, nat_tests, h) in
    let rest : rises (c ∷ cs) ≡ true = grind (arith, nat_tests, h) in
    (less, above_from c cs rest)

-- cuts that pass the test of a list of cuts rise strictly, as heads are made from them
pub cuts_rise : (cs : List ℤ) → rises cs ≡ true → RiseAbove None cs
cuts_rise [] h = tt
cuts_rise (c ∷ cs) h = above_from c cs h

-- ---- heads that are made

opened_boxes : (a : ℕ) (rows : List Row) (is : List Interval) → boxes_in (map (opened_area a rows) is) ≡ 0
opened_boxes a rows [] = refl
opened_boxes a rows (i ∷ is) = let rest = opened_boxes a rows is in omega (arith, rest)

new_head : (a p : ℕ) (cuts : List ℤ) (rows opening : List Row) (h : HeadState) → a ≡ p → rows ≡ opening → h ≡ opened a cuts rows → IsNewHead p opening h
new_head a p cuts rows opening h same is made = record {
  attribute_is = ap (λ (x : HeadState). x.attribute) made ∙ same;
  updates_are = ap (λ (x : HeadState). x.updates) made ∙ ap table.opened is;
  no_boxes = ap (λ (x : HeadState). boxes_in x.areas) made ∙ opened_boxes a rows (intervals cuts);
}

-- a head that was made from the opening rows, where memory sufficed, is a new one of its attribute
pub if_new_head : (a p : ℕ) (cuts : List ℤ) (rows opening : List Row) (r : Result HeadState Refusal) → a ≡ p → rows ≡ opening → MatchResult r (λ h. h ≡ opened a cuts rows) (λ e. e ≡ NoMemory) → IfOk r (IsNewHead p opening)
if_new_head a p cuts rows opening (Ok h) same is made = new_head a p cuts rows opening h same is made
if_new_head a p cuts rows opening (Err e) same is made = tt

-- a head that is made has no box yet, and all that was taken for it stays
pub made_latch : (p : ℕ) (opening : List Row) (o : Option HeadState) (h : HeadState) (inbox : List Update) (w : ℕ) → is_some o ≡ false → IsNewHead p opening h → latched opening (Some h) inbox w ≡ record (latched opening o inbox w) { made = true }
made_latch p opening None h inbox w none new = λ i. record { taken = new.updates_are i ++ inbox; made = true; waiting = w; held = new.no_boxes i }
made_latch p opening (Some x) h inbox w none new = absurd cc

-- the latch of a head that is made shows already that it is made
pub same_latch : (opening : List Row) (o : Option HeadState) (inbox : List Update) (w : ℕ) → is_some o ≡ true → latched opening o inbox w ≡ record (latched opening o inbox w) { made = true }
same_latch opening None inbox w some = absurd cc
same_latch opening (Some x) inbox w some = refl
