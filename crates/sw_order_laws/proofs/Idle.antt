-- Calls that change nothing, as their replies tell.
use Rattle.std.proofs.Common.{◌≡◌, ◌≢◌, ◌∙◌, ◌<◌, ◌≤◌, ◌+◌, ◌^◌, ◌++◌, ◌==◌, sym, ap, refl, subst, fold, filter, cond, map, ℕ, suc, Bool, true, false, not, List, [], ◌∷◌, length, arith, get_or}
use Rattle.std.specs.Prelude.{codes, decimal}
use Rattle.std.proofs.lemmas.Bool.Decides.{nat_tests}
use Rattle.std.proofs.lemmas.Fmt.{decimal_injective}
use Rattle.std.proofs.lemmas.List.{append-nil, append_cancel_left, append_cancel_right}
use Rattle.std.proofs.lemmas.Grind.{common_steps}
use Rattle.sw_lang.specs.Replies.{removed_line, reply_lines}
use Rattle.sw_rows.specs.Header.{Column}
use Rattle.sw_query.specs.Scan.{matching, meets_all}
use Rattle.sw_query.specs.declared.query.Call.{Call}
use Rattle.sw_query.specs.declared.query.Cond.{Cond}
use Rattle.sw_query.specs.declared.query.Call.TheVariants as call
use Rattle.sw_query.specs.declared.reply.Reply.TheVariants as reply
use Rattle.sw_spine.specs.Table.{inserts, removals, reply_to, row, update_by, updates_then}
use Rattle.sw_spine.proofs.StoreLemmas.{inserts_insert, inserts_remove, inserts_removals, removals_keys}
use Rattle.sw_table.specs.Live.{key_of}
use Rattle.sw_table.specs.Updates.{has_key, rows_of, rows_then}
use Rattle.sw_table.specs.declared.row.Row.{Row}
use Rattle.sw_table.specs.declared.row.Update.{Update}
use Rattle.sw_table.specs.declared.row.Update.TheVariants as update
use Rattle.sw_order_laws.specs.Beginnings.{TellsOfNone}

-- ---- how many rows there are

filter_short : (p : Row → Bool) (rs : List Row) → length (filter p rs) ≤ length rs
filter_short p [] = omega arith
filter_short p (r ∷ rs) = by_test (p r) (filter_short p rs)
  where
    by_test : (b : Bool) → length (filter p rs) ≤ length rs → length (cond b (r ∷ filter p rs) (filter p rs)) ≤ suc (length rs)
    by_test true h = omega (arith, h)
    by_test false h = omega (arith, h)

rows_within : (rs : List Row) (us : List Update) → length (fold rows_then rs us) ≤ length rs + inserts us
rows_within rs [] = omega arith
rows_within rs (update.Insert r ∷ us) = let h = rows_within (rs ++ r ∷ []) us in grind (arith, common_steps, h)
rows_within rs (update.Remove key ∷ us) = let h = rows_within (filter (λ r. not (r.key == key)) rs) us in let s = filter_short (λ r. not (r.key == key)) rs in grind (arith, common_steps, h, s)

-- no more rows were given than the limit
pub record AreFew (limit : ℕ) (us : List Update) : Type 0 where
  pub most : limit ≤ 1048576
  pub within : inserts us ≤ limit

matching_few : (limit : ℕ) (us : List Update) (conds : List Cond) → AreFew limit us → length (matching conds (rows_of us)) < 2 ^ 64
matching_few limit us conds few =
    let short = filter_short (meets_all conds) (rows_of us) in
    let rows = rows_within [] us in
    let most = few.most in
    let within = few.within in
    omega (arith, short, rows, most, within)

-- a call leaves no more rows than the limit
pub few_then : (limit : ℕ) (us : List Update) (c : Call) → AreFew limit us → AreFew limit (updates_then limit us c)
few_then limit us (call.Select q) few = subst (AreFew limit) (sym (append-nil us)) few
few_then limit us (call.Insert cells) few = by_room (inserts us == limit) refl
  where
    by_room : (b : Bool) → (inserts us == limit) ≡ b → AreFew limit (us ++ cond b [] (update.Insert (row (inserts us + 1) cells) ∷ []))
    by_room true is = subst (AreFew limit) (sym (append-nil us)) few
    by_room false is =
        let other : inserts us ≢ limit = grind (arith, nat_tests, is) in
        let within = few.within in
        record { most = few.most; within = let more = inserts_insert us (row (inserts us + 1) cells) in omega (arith, more, other, within) }
few_then limit us (call.Delete key) few = by_key (has_key key (rows_of us))
  where
    by_key : (b : Bool) → AreFew limit (us ++ cond b (update.Remove key ∷ []) [])
    by_key true = record { most = few.most; within = let same = inserts_remove us key in let within = few.within in omega (arith, same, within) }
    by_key false = subst (AreFew limit) (sym (append-nil us)) few
few_then limit us (call.DeleteWhere conds) few =
    let gone : List Row = matching conds (rows_of us) in
    let same : inserts (us ++ removals gone) ≡ inserts us = ap (λ (vs : List Update). inserts (us ++ vs)) (removals_keys gone) ∙ inserts_removals us (map key_of gone) in
    let within = few.within in
    record { most = few.most; within = omega (arith, same, within) }

-- ---- a reply tells whether anything was changed

abbrev first_byte : List (List ℕ) → ℕ
first_byte ls = get_or (get_or ls 0 []) 0 0

no_removals : (rs : List Row) → removals rs ≡ [] → rs ≡ []
no_removals [] h = refl
no_removals (r ∷ rs) h = absurd (cc)

none_long : (rs : List Row) → length rs ≡ 0 → rs ≡ []
none_long [] h = refl
none_long (r ∷ rs) h = absurd (omega (arith, h))

same_removed : (m n : ℕ) → m < 2 ^ 64 → n < 2 ^ 64 → (removed_line m ∷ []) ≡ (removed_line n ∷ []) → m ≡ n
same_removed m n few many h =
    let lines : removed_line m ≡ removed_line n = ap (λ (ls : List (List ℕ)). get_or ls 0 []) h in
    let inner : decimal m ++ codes " removed)" ≡ decimal n ++ codes " removed)" = append_cancel_left (codes "(") (decimal m ++ codes " removed)") (decimal n ++ codes " removed)") lines in
    decimal_injective m n few many (append_cancel_right (decimal m) (decimal n) (codes " removed)") inner)

-- where the replies to a call over two lists are told by the same lines, it changes nothing in the one if it does not in the
-- other
pub idle_told : (columns : List Column) (limit : ℕ) (us vs : List Update) (c : Call) → AreFew limit us → AreFew limit vs → reply_lines columns c (reply_to limit us c) ≡ reply_lines columns c (reply_to limit vs c) → update_by limit us c ≡ [] → update_by limit vs c ≡ []
idle_told columns limit us vs (call.Select q) few other same idle = refl
idle_told columns limit us vs (call.Insert cells) few other same idle = by_room (inserts us == limit) (inserts vs == limit) same idle
  where
    by_room : (a b : Bool) → reply_lines columns (call.Insert cells) (cond a reply.Full (reply.Inserted (inserts us + 1))) ≡ reply_lines columns (call.Insert cells) (cond b reply.Full (reply.Inserted (inserts vs + 1))) → cond a [] (update.Insert (row (inserts us + 1) cells) ∷ []) ≡ [] → cond b [] (update.Insert (row (inserts vs + 1) cells) ∷ []) ≡ []
    by_room true true h idle = refl
    by_room true false h idle = let e : 102 ≡ 107 = ap first_byte h in absurd (omega (arith, e))
    by_room false b h idle = absurd (cc)
idle_told columns limit us vs (call.Delete key) few other same idle = by_key (has_key key (rows_of us)) (has_key key (rows_of vs)) same idle
  where
    by_key : (a b : Bool) → reply_lines columns (call.Delete key) (cond a reply.Removed reply.NoSuchKey) ≡ reply_lines columns (call.Delete key) (cond b reply.Removed reply.NoSuchKey) → cond a (update.Remove key ∷ []) [] ≡ [] → cond b (update.Remove key ∷ []) [] ≡ []
    by_key a false h idle = refl
    by_key false true h idle = let e : 110 ≡ 114 = ap first_byte h in absurd (omega (arith, e))
    by_key true true h idle = absurd (cc)
idle_told columns limit us vs (call.DeleteWhere conds) few other same idle =
    let none : matching conds (rows_of us) ≡ [] = no_removals (matching conds (rows_of us)) idle in
    let many : length (matching conds (rows_of us)) ≡ length (matching conds (rows_of vs)) = same_removed (length (matching conds (rows_of us))) (length (matching conds (rows_of vs))) (matching_few limit us conds few) (matching_few limit vs conds other) same in
    let zero_long : length (matching conds (rows_of vs)) ≡ 0 = sym many ∙ ap (λ (rs : List Row). length rs) none in
    ap removals (none_long (matching conds (rows_of vs)) zero_long)

-- a reply that tells of no change is given only where there is none
pub told_none : (columns : List Column) (limit : ℕ) (us : List Update) (c : Call) (ls : List (List ℕ)) → AreFew limit us → ls ≡ reply_lines columns c (reply_to limit us c) → TellsOfNone c ls → update_by limit us c ≡ []
told_none columns limit us (call.Select q) ls few is tells = refl
told_none columns limit us (call.Insert cells) ls few is tells = by_room (inserts us == limit) (sym tells ∙ is)
  where
    by_room : (b : Bool) → codes "full" ∷ [] ≡ reply_lines columns (call.Insert cells) (cond b reply.Full (reply.Inserted (inserts us + 1))) → cond b [] (update.Insert (row (inserts us + 1) cells) ∷ []) ≡ []
    by_room true h = refl
    by_room false h = let e : 102 ≡ 107 = ap first_byte h in absurd (omega (arith, e))
told_none columns limit us (call.Delete key) ls few is tells = by_key (has_key key (rows_of us)) (sym tells ∙ is)
  where
    by_key : (b : Bool) → codes "no such key" ∷ [] ≡ reply_lines columns (call.Delete key) (cond b reply.Removed reply.NoSuchKey) → cond b (update.Remove key ∷ []) [] ≡ []
    by_key false h = refl
    by_key true h = let e : 110 ≡ 114 = ap first_byte h in absurd (omega (arith, e))
told_none columns limit us (call.DeleteWhere conds) ls few is tells =
    let many : 0 ≡ length (matching conds (rows_of us)) = same_removed 0 (length (matching conds (rows_of us))) (omega arith) (matching_few limit us conds few) (sym tells ∙ is) in
    ap removals (none_long (matching conds (rows_of us)) (sym many))
