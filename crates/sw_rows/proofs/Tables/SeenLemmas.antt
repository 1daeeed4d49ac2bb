-- Codes of texts of records.
use Rattle.std.proofs.Common.{◌≡◌, ap, refl, ℕ, zero, suc, ◌⊎◌, inl, inr, List, [], ◌∷◌, get_or, replicate, set}
use Rattle.sw_rows.specs.Groups.{AreAllSeen, AreSeen, HasCode, IsCodeOrZero}
use Rattle.sw_rows.specs.Texts.{with_texts}
use Rattle.sw_rows.specs.declared.table.seen.SeenCodes.{SeenCodes}
use Rattle.sw_rows.proofs.Schemas.TextLaws.{code_kept}

abbrev Texts : Type 0
Texts = List (List ℕ)

zero_in : (n at : ℕ) → ◌≡◌ {A = ℕ} (get_or (replicate n 0) at 0) 0
zero_in zero at = refl
zero_in (suc n) zero = refl
zero_in (suc n) (suc at) = zero_in n at

-- rows of zeros have nothing else
pub zero_among : (rows n place at : ℕ) → ◌≡◌ {A = ℕ} (get_or (get_or (replicate rows (replicate n 0)) place []) at 0) 0
zero_among zero n place at = refl
zero_among (suc rows) n zero at = zero_in n at
zero_among (suc rows) n (suc place) at = zero_among rows n place at

-- an item of a list of which one was set is that one, or what it was
set_or_was : {X : Type 0} (xs : List X) (i : ℕ) (y : X) (j : ℕ) (d : X) → ((j ≡ i) × (get_or (set xs i y) j d ≡ y)) ⊎ (get_or (set xs i y) j d ≡ get_or xs j d)
set_or_was [] i y j d = inr refl
set_or_was (x ∷ xs) zero y zero d = inl (refl, refl)
set_or_was (x ∷ xs) zero y (suc j) d = inr refl
set_or_was (x ∷ xs) (suc i) y zero d = inr refl
set_or_was (x ∷ xs) (suc i) y (suc j) d = deeper (set_or_was xs i y j d)
  where
    deeper : ((j ≡ i) × (get_or (set xs i y) j d ≡ y)) ⊎ (get_or (set xs i y) j d ≡ get_or xs j d) → ((suc j ≡ suc i) × (get_or (set xs i y) j d ≡ y)) ⊎ (get_or (set xs i y) j d ≡ get_or xs j d)
    deeper (inl h) = inl (ap suc h.0, h.1)
    deeper (inr h) = inr h

-- one more code of a record
seen_field : (ts : Texts) (fields : List (List ℕ)) (codes : List ℕ) (attr code : ℕ) → AreSeen ts fields codes → IsCodeOrZero ts (get_or fields attr []) code → AreSeen ts fields (set codes attr code)
seen_field ts fields codes attr code seen has at = by_case (set_or_was codes attr code at 0)
  where
    by_case : ((at ≡ attr) × (get_or (set codes attr code) at 0 ≡ code)) ⊎ (get_or (set codes attr code) at 0 ≡ get_or codes at 0) → IsCodeOrZero ts (get_or fields at []) (get_or (set codes attr code) at 0)
    by_case (inl h) = rw (h.1, h.0) has
    by_case (inr h) = rw h (seen at)

-- one more code of a record of a group
pub seen_set : (ts : Texts) (rows : List (List (List ℕ))) (codes : List (List ℕ)) (place attr code : ℕ) → ((p : ℕ) → AreSeen ts (get_or rows p []) (get_or codes p []))
    → IsCodeOrZero ts (get_or (get_or rows place []) attr []) code → (p : ℕ) → AreSeen ts (get_or rows p []) (get_or (set codes place (set (get_or codes place []) attr code)) p [])
seen_set ts rows codes place attr code seen has p = by_case (set_or_was codes place (set (get_or codes place []) attr code) p [])
  where
    by_case : ((p ≡ place) × (get_or (set codes place (set (get_or codes place []) attr code)) p [] ≡ set (get_or codes place []) attr code)) ⊎ (get_or (set codes place (set (get_or codes place []) attr code)) p [] ≡ get_or codes p [])
        → AreSeen ts (get_or rows p []) (get_or (set codes place (set (get_or codes place []) attr code)) p [])
    by_case (inl h) = rw (h.1, h.0) (seen_field ts (get_or rows place []) (get_or codes place []) attr code (seen place) has)
    by_case (inr h) = rw h (seen p)

-- a code is kept where more texts are known
pub has_kept : (ts more : Texts) (t : List ℕ) (code : ℕ) → HasCode ts t code → HasCode (with_texts ts more) t code
has_kept ts more t code has = record { coded = code_kept ts more t code has.coded; sound = has.sound; few = has.few }

-- the same of a record's codes
pub fields_kept : (ts more : Texts) (fields : List (List ℕ)) (codes : List ℕ) → AreSeen ts fields codes → AreSeen (with_texts ts more) fields codes
fields_kept ts more fields codes seen attr ne = has_kept ts more (get_or fields attr []) (get_or codes attr 0) (seen attr ne)

-- and of a group's
pub all_kept : (ts more : Texts) (rows : List (List (List ℕ))) (seen : SeenCodes) → AreAllSeen ts rows seen → AreAllSeen (with_texts ts more) rows seen
all_kept ts more rows seen all place = fields_kept ts more (get_or rows place []) (get_or seen.codes place []) (all place)
