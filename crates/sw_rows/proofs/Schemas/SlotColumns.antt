-- Slots in columns.
use Rattle.std.proofs.Common.{◌≡◌, ◌-◌, ◌<◌, ◌≤◌, ◌++◌, ◌∷◌, [], ℕ, Bool, List, zero, suc, true, false, ap, arith, get_or, length, nat_lt, refl, set}
use Rattle.std.proofs.lemmas.Bool.{ltb-false, ltb-true}
use Rattle.std.proofs.lemmas.List.{take-append-le}
use Rattle.sw_rows.specs.Slots.{AreInStep, bytes_of, slot_by, slots_in, text_in}
use Rattle.sw_rows.specs.declared.schema.slot.Slot.{Slot}
use Rattle.sw_rows.specs.declared.schema.slots.Ends.{Ends}

-- there are as many slots as each column has
pub many_slots : (es : List Ends) (ms ns cs : List ℕ) → length ms ≡ length es → length ns ≡ length es → length cs ≡ length es → length (slots_in es ms ns cs) ≡ length es
unfolding slots_in
many_slots [] ms ns cs a b c = refl
many_slots (e ∷ es) [] ns cs a b c = absurd (omega arith)
many_slots (e ∷ es) (m ∷ ms) [] cs a b c = absurd (omega arith)
many_slots (e ∷ es) (m ∷ ms) (n ∷ ns) [] a b c = absurd (omega arith)
many_slots (e ∷ es) (m ∷ ms) (n ∷ ns) (c ∷ cs) h i j = omega (arith, many_slots es ms ns cs (omega arith) (omega arith) (omega arith))

-- a place of the slots is one of each column
pub within : (es : List Ends) (ms ns cs : List ℕ) (ss : List Slot) (at : ℕ) → AreInStep es ms ns cs → slots_in es ms ns cs ≡ ss → at < length ss
    → (at < length es) × (at < length ms) × (at < length ns) × (at < length cs)
within es ms ns cs ss at is e lt =
    let many = many_slots es ms ns cs is.middles is.lens is.codes in
    let all = ap length e in
    (omega (arith, many, all, lt), omega (arith, many, all, lt, is.middles), omega (arith, many, all, lt, is.lens), omega (arith, many, all, lt, is.codes))

-- a slot more
pub slots_pushed : (es : List Ends) (ms ns cs : List ℕ) (e : Ends) (m n c : ℕ) → length ms ≡ length es → length ns ≡ length es → length cs ≡ length es
    → slots_in (es ++ e ∷ []) (ms ++ m ∷ []) (ns ++ n ∷ []) (cs ++ c ∷ []) ≡ slots_in es ms ns cs ++ slot_by e m n c ∷ []
unfolding slots_in
slots_pushed [] [] [] [] e m n c h i j = refl
slots_pushed [] [] [] (x ∷ cs) e m n c h i j = absurd (omega arith)
slots_pushed [] [] (x ∷ ns) cs e m n c h i j = absurd (omega arith)
slots_pushed [] (x ∷ ms) ns cs e m n c h i j = absurd (omega arith)
slots_pushed (x ∷ es) [] ns cs e m n c h i j = absurd (omega arith)
slots_pushed (x ∷ es) (y ∷ ms) [] cs e m n c h i j = absurd (omega arith)
slots_pushed (x ∷ es) (y ∷ ms) (z ∷ ns) [] e m n c h i j = absurd (omega arith)
slots_pushed (x ∷ es) (y ∷ ms) (z ∷ ns) (w ∷ cs) e m n c h i j = ap (λ ss. slot_by x y z w ∷ ss) (slots_pushed es ms ns cs e m n c (omega arith) (omega arith) (omega arith))

-- another slot at a place
pub slots_set : (es : List Ends) (ms ns cs : List ℕ) (at : ℕ) (e : Ends) (m n c : ℕ) → length ms ≡ length es → length ns ≡ length es → length cs ≡ length es
    → slots_in (set es at e) (set ms at m) (set ns at n) (set cs at c) ≡ set (slots_in es ms ns cs) at (slot_by e m n c)
unfolding slots_in
slots_set [] ms ns cs at e m n c h i j = refl
slots_set (x ∷ es) [] ns cs at e m n c h i j = absurd (omega arith)
slots_set (x ∷ es) (y ∷ ms) [] cs at e m n c h i j = absurd (omega arith)
slots_set (x ∷ es) (y ∷ ms) (z ∷ ns) [] at e m n c h i j = absurd (omega arith)
slots_set (x ∷ es) (y ∷ ms) (z ∷ ns) (w ∷ cs) zero e m n c h i j = refl
slots_set (x ∷ es) (y ∷ ms) (z ∷ ns) (w ∷ cs) (suc at) e m n c h i j = ap (λ ss. slot_by x y z w ∷ ss) (slots_set es ms ns cs at e m n c (omega arith) (omega arith) (omega arith))

-- the slot at a place
pub slot_there : (es : List Ends) (ms ns cs : List ℕ) (at : ℕ) (d : Slot) (e : Ends) (m n c : ℕ) → length ms ≡ length es → length ns ≡ length es → length cs ≡ length es → at < length es
    → get_or (slots_in es ms ns cs) at d ≡ slot_by (get_or es at e) (get_or ms at m) (get_or ns at n) (get_or cs at c)
unfolding slots_in
slot_there [] ms ns cs at d e m n c h i j lt = absurd (omega arith)
slot_there (x ∷ es) [] ns cs at d e m n c h i j lt = absurd (omega arith)
slot_there (x ∷ es) (y ∷ ms) [] cs at d e m n c h i j lt = absurd (omega arith)
slot_there (x ∷ es) (y ∷ ms) (z ∷ ns) [] at d e m n c h i j lt = absurd (omega arith)
slot_there (x ∷ es) (y ∷ ms) (z ∷ ns) (w ∷ cs) zero d e m n c h i j lt = refl
slot_there (x ∷ es) (y ∷ ms) (z ∷ ns) (w ∷ cs) (suc at) d e m n c h i j lt = slot_there es ms ns cs at d e m n c (omega arith) (omega arith) (omega arith) (omega arith)

-- a word has eight bytes
eight : (n : ℕ) → length (bytes_of n) ≡ 8
eight n = refl

-- up to sixteen bytes, the middle word tells nothing
text_of_both : (s t : Slot) → s.first ≡ t.first → s.last ≡ t.last → s.many ≡ t.many → t.many ≤ 16 → text_in s ≡ text_in t
text_of_both s t h i j few =
    let k = t.many - 8 in
    let by = take-append-le k (bytes_of t.first) (bytes_of s.middle) (omega (arith, eight t.first)) in
    let by' = take-append-le k (bytes_of t.first) (bytes_of t.middle) (omega (arith, eight t.first)) in
    rw (h, i, j, by, by') refl

-- slots that agree where they are looked at have one text
pub same_text : (s t : Slot) → s.first ≡ t.first → s.last ≡ t.last → s.many ≡ t.many → (16 < t.many → s.middle ≡ t.middle) → text_in s ≡ text_in t
same_text s t h i j m = by_test (nat_lt 16 t.many) refl
  where
    by_test : (b : Bool) → nat_lt 16 t.many ≡ b → text_in s ≡ text_in t
    by_test true e = let k = m (ltb-true 16 t.many e) in rw (h, i, j, k) refl
    by_test false e = text_of_both s t h i j (ltb-false 16 t.many e)
