-- The records that a text has left.
use Rattle.std.proofs.Common.{◌≡◌, ◌∙◌, ap, sym, refl, ℕ, ◌+◌, ◌<◌, ◌⊎◌, inl, inr, Bool, true, false, cond, zero, suc, List, [], ◌∷◌, ◌++◌, length, Option, Some, None, arith, add-one}
use Rattle.csv.specs.Machine.{Read, ends_at_end, field_after, fields_after, is_end, next_record, step}
use Rattle.std.specs.Option.{option_map_or}
use Rattle.std.proofs.Common.{get_or}
use denote.Ref.{Bor}
use Rattle.csv.specs.Records.{field_at}
use Rattle.csv.specs.declared.reader.Reader.{Reader}
use Rattle.csv.specs.Reading.{NextIs, ReadRecord, ReadsNext, has_failed, pending_of, reader_source, records_from, records_next, strip_bom, unread_of}
use Rattle.csv.specs.declared.parser.Config.{Config}
use Rattle.csv.specs.declared.parser.State.{State}
use Rattle.csv.specs.declared.parser.State.TheVariants as st
use Rattle.sw_import.specs.Records.{IsOpen, divided_by, records_at, records_left, records_of, text_left}

-- a read leaves less text, or was of the end
abbrev Shrinks : List ℕ → Read → Type 0
Shrinks xs r = (length r.2 < length xs) ⊎ ((r.1 ≡ st.StartRecord) × (r.2 ≡ []))

chosen : {A : Type 0} (b : Bool) (x y : A) (P : A → Type 0) → (b ≡ true → P x) → (b ≡ false → P y) → P (cond b x y)
chosen true x y P f g = f refl
chosen false x y P f g = g refl

abbrev IfRead : Option Read → (Read → Type 0) → Type 0
IfRead None P = Unit {0}
IfRead (Some r) P = P r

weaker : (o : Option Read) (c : ℕ) (rest : List ℕ) → IfRead o (Shrinks rest) → IfRead o (Shrinks (c ∷ rest))
weaker None c rest h = tt
weaker (Some r) c rest (inl h) = inl (omega arith)
weaker (Some r) c rest (inr h) = inr h

shrinks : (cfg : Config) (s : State) (fs : List (List ℕ)) (f : List ℕ) (xs : List ℕ) → IfRead (next_record cfg s fs f xs) (Shrinks xs)
unfolding next_record
shrinks cfg s fs f [] = chosen (ends_at_end s) (Some (fs ++ (f ∷ []), st.StartRecord, [])) None (λ o. IfRead o (Shrinks [])) (λ _. inr (refl, refl)) (λ _. tt)
shrinks cfg s fs f (c ∷ rest) =
    let more = next_record cfg (step cfg s c).0 (fields_after (step cfg s c).1 fs f) (field_after (step cfg s c).1 c f) rest in
    chosen (is_end (step cfg s c).1) (Some (fields_after (step cfg s c).1 fs f, (step cfg s c).0, rest)) more (λ o. IfRead o (Shrinks (c ∷ rest)))
    (λ _. inl (omega arith))
    (λ _. weaker more c rest (shrinks cfg (step cfg s c).0 (fields_after (step cfg s c).1 fs f) (field_after (step cfg s c).1 c f) rest))

-- at the end of a text there is no record
none-left : (cfg : Config) (n : ℕ) → records_from cfg n st.StartRecord [] ≡ []
unfolding records_from next_record
none-left cfg zero = refl
none-left cfg (suc n) = refl

-- turns beyond the length of the text change nothing
turns : (cfg : Config) (n m : ℕ) (s : State) (xs : List ℕ) → length xs < n → length xs < m → records_from cfg n s xs ≡ records_from cfg m s xs
unfolding records_from
turns cfg zero m s xs h k = absurd (omega arith)
turns cfg (suc n) zero s xs h k = absurd (omega arith)
turns cfg (suc n) (suc m) s xs h k = by_read (next_record cfg s [] [] xs) (shrinks cfg s [] [] xs) (turns cfg n m)
  where
    by_read : (o : Option Read) → IfRead o (Shrinks xs) → ((t : State) (ys : List ℕ) → length ys < n → length ys < m → records_from cfg n t ys ≡ records_from cfg m t ys) → records_next (records_from cfg n) o ≡ records_next (records_from cfg m) o
    by_read None i more = refl
    by_read (Some r) (inl lt) more = ap (λ rs. r.0 ∷ rs) (more r.1 r.2 (omega arith) (omega arith))
    by_read (Some r) (inr e) more = ap (λ rs. r.0 ∷ rs) (rw (e.0, e.1) (none-left cfg n ∙ sym (none-left cfg m)))

-- the next record, and then those after it
records_step : (cfg : Config) (s : State) (xs : List ℕ) → records_at cfg s xs ≡ records_next (records_at cfg) (next_record cfg s [] [] xs)
unfolding records_from
records_step cfg s xs = ap (λ n. records_from cfg n s xs) (add-one (length xs)) ∙ by_read (next_record cfg s [] [] xs) (shrinks cfg s [] [] xs)
  where
    by_read : (o : Option Read) → IfRead o (Shrinks xs) → records_next (records_from cfg (length xs)) o ≡ records_next (records_at cfg) o
    by_read None i = refl
    by_read (Some r) (inl lt) = ap (λ rs. r.0 ∷ rs) (turns cfg (length xs) (length r.2 + 1) r.1 r.2 lt (omega arith))
    by_read (Some r) (inr e) = ap (λ rs. r.0 ∷ rs) (rw (e.0, e.1) (none-left cfg (length xs) ∙ sym (none-left cfg 1)))

-- what a read gives is the first record of those left
step-is : (cfg : Config) (o : Option Read) (found : Bool) (fields : List (List ℕ)) (s : State) (ys : List ℕ) → NextIs o found fields s ys → records_next (records_at cfg) o ≡ cond found (fields ∷ records_at cfg s ys) []
step-is cfg None found fields s ys h = sym (ap (λ b. cond b (fields ∷ records_at cfg s ys) []) h)
step-is cfg (Some p) found fields s ys h = rw (h.0, h.1, h.2, h.3) refl

abbrev IsKnown : Option (List ℕ) → Type 0
IsKnown o = (xs : List ℕ) × (o ≡ Some xs)

with_left : (cfg : Config) (s s2 : State) (a b : Option (List ℕ)) (found : Bool) (fields : List (List ℕ)) → IsKnown a → IsKnown b → ReadsNext cfg s a b found fields s2
    → option_map_or (records_at cfg s) a [] ≡ cond found (fields ∷ option_map_or (records_at cfg s2) b []) []
with_left cfg s s2 None b found fields a_known b_known h = cc (a_known.1)
with_left cfg s s2 (Some xs) None found fields a_known b_known h = absurd h
with_left cfg s s2 (Some xs) (Some ys) found fields a_known b_known h = records_step cfg s xs ∙ step-is cfg (next_record cfg s [] [] xs) found fields s2 ys h

abbrev in_memory : Bor (List ℕ) → Option (List ℕ)
in_memory s = Some s.now

known-unread : (rdr : Reader (Bor (List ℕ))) → IsKnown (unread_of in_memory rdr)
known-unread rdr = chosen _ _ _ IsKnown (λ _. (_, refl)) (λ _. (_, refl))

known-left : (rdr : Reader (Bor (List ℕ))) → has_failed rdr ≡ false → IsKnown (text_left rdr)
known-left rdr h = rw h (known-unread rdr)

known-pending : (rdr : Reader (Bor (List ℕ))) → has_failed rdr ≡ false → IsKnown (pending_of (in_memory (reader_source rdr)) rdr)
known-pending rdr h = rw h (_, refl)

pending-left : (rdr : Reader (Bor (List ℕ))) → rdr.bom_checked ≡ true → pending_of (in_memory (reader_source rdr)) rdr ≡ text_left rdr
pending-left rdr h = rw h refl

-- one read of an open reader
pub read_one : (old new : Reader (Bor (List ℕ))) (found : Bool) (fields : List (List ℕ)) → IsOpen old → has_failed new ≡ false → ReadRecord in_memory old new found fields
    → records_left old ≡ cond found (fields ∷ records_left new) []
read_one old new found fields plain going reads =
    rw (reads.2) (with_left old.config old.state new.state (text_left old) (text_left new) found fields (known-left old plain.going) (known-left new going)
    (rw (pending-left new reads.1) at reads.0))

-- past the last field there is an empty one
pub nothing_there : (fields : List (List ℕ)) (i : ℕ) → field_at fields i ≡ None → get_or fields i [] ≡ []
unfolding field_at
nothing_there [] i e = refl
nothing_there (f ∷ fs) zero e = cc
nothing_there (f ∷ fs) (suc i) e = nothing_there fs i e

-- a text without a byte has no record
pub no_records : (delimiter : ℕ) → records_of delimiter [] ≡ []
unfolding strip_bom
no_records delimiter = none-left (divided_by delimiter) 1
