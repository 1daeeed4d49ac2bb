-- Where batches end, at literals: on a table of one attribute with the rows 12, 3, 12, 20 a `delete where` of the value 12
-- removes two rows, and then a row is inserted.
use Rattle.std.proofs.Common.{◌≡◌, ℕ, zero, suc, ◌≤◌, List, [], ◌∷◌, ◌++◌, length, Some, refl, ap, arith}
use Rattle.std.specs.Prelude.{pos, replicate, ℤ}
use Rattle.sw_query.specs.declared.bound.Bound.TheVariants as bound
use Rattle.sw_query.specs.declared.query.Call.TheVariants as call
use Rattle.sw_query.specs.declared.reply.Reply.TheVariants as reply
use Rattle.sw_table.specs.declared.row.Row.{Row}
use Rattle.sw_table.specs.declared.row.Update.{Update}
use Rattle.sw_table.specs.declared.row.Update.TheVariants as update
use Rattle.sw_spine.specs.Table.{opened, row}
use Rattle.sw_spine.specs.History.{entry}
use Rattle.sw_spine.specs.declared.history.Entry.{Entry}
use Rattle.sw_spine.specs.declared.history.State.TheVariants as state
use Rattle.sw_engine.specs.Published.{EndWithEntries, updates_first}

abbrev cells : ℤ → List ℤ
cells a = a ∷ replicate 7 (pos 0)

abbrev rows : List Row
rows = row 1 (cells (pos 12)) ∷ row 2 (cells (pos 3)) ∷ row 3 (cells (pos 12)) ∷ row 4 (cells (pos 20)) ∷ []

abbrev entries : List Entry
entries =
    entry 1 (call.DeleteWhere (record { attr = 0; lower = Some (bound.Before (pos 12)); upper = Some (bound.After (pos 12)) } ∷ [])) (state.Answered (reply.RemovedMany 2))
    ∷ entry 1 (call.Insert (cells (pos 1))) (state.Answered (reply.Inserted 5)) ∷ []

abbrev came : Update
came = update.Insert (row 5 (cells (pos 1)))

-- both removals are one batch, and the row that came is another
a_batch_for_each_entry : EndWithEntries 1048576 rows entries ((update.Remove 1 ∷ update.Remove 3 ∷ []) ∷ (came ∷ []) ∷ [])
a_batch_for_each_entry zero = (0, omega arith, refl)
a_batch_for_each_entry (suc zero) = (1, omega arith, refl)
a_batch_for_each_entry (suc (suc zero)) = (2, omega arith, refl)
a_batch_for_each_entry (suc (suc (suc k))) = (2, omega arith, refl)

-- all three updates are one batch
one_batch_for_both : EndWithEntries 1048576 rows entries ((update.Remove 1 ∷ update.Remove 3 ∷ came ∷ []) ∷ [])
one_batch_for_both zero = (0, omega arith, refl)
one_batch_for_both (suc zero) = (2, omega arith, refl)
one_batch_for_both (suc (suc k)) = (2, omega arith, refl)

one_removal : (n : ℕ) → n ≤ 2 → opened rows ++ update.Remove 1 ∷ [] ≡ updates_first 1048576 rows entries n → ⊥
one_removal zero le is = let many : 5 ≡ 4 = ap (λ (us : List Update). length us) is in absurd (omega (arith, many))
one_removal (suc zero) le is = let many : 5 ≡ 6 = ap (λ (us : List Update). length us) is in absurd (omega (arith, many))
one_removal (suc (suc zero)) le is = let many : 5 ≡ 7 = ap (λ (us : List Update). length us) is in absurd (omega (arith, many))
one_removal (suc (suc (suc n))) le is = absurd (omega (arith, le))

-- a removal is no batch by itself where its entry has two
no_batch_of_one_removal : EndWithEntries 1048576 rows entries ((update.Remove 1 ∷ []) ∷ (update.Remove 3 ∷ came ∷ []) ∷ []) → ⊥
no_batch_of_one_removal ends = let first = ends 1 in one_removal first.0 first.1 first.2
