use Rattle.std.proofs.Common.{◌≡◌, arith, length, nat_le, refl, true, false}
use Rattle.std.proofs.lemmas.Bool.Decides.{nat_tests}
use Rattle.sw_rows.proofs.Schemas.SlotLemmas.{both_joined, three_words, two_words}
use Rattle.sw_rows.proofs.schema.slot.Slot.of.Goals as goal

pub returns-in-4-to-7 : goal.returns-in-4-to-7
returns-in-4-to-7 c =
    let text = c.args.text.now in
    let few : nat_le 8 (length text) ≡ false = grind (arith, nat_tests) in
    let some : nat_le 4 (length text) ≡ true = grind (arith, nat_tests) in
    (rw (few, some) (both_joined text _ (omega arith) (omega arith) c.both_ends.ensures), refl)

pub returns-in-8-to-16 : goal.returns-in-8-to-16
returns-in-8-to-16 c =
    let text = c.args.text.now in
    let some : nat_le 8 (length text) ≡ true = grind (arith, nat_tests) in
    (rw some (two_words text _ _ _ (omega arith) (omega arith) c.word.ensures c.word-in-8-to-16.ensures), refl)

pub returns-in_default : goal.returns-in_default
returns-in_default c =
    let text = c.args.text.now in
    let some : nat_le 8 (length text) ≡ true = grind (arith, nat_tests) in
    (rw some (three_words text _ _ _ (omega arith) (omega arith) c.word-in_default.ensures c.word-in_default-2.ensures c.word-in_default-3.ensures), refl)
