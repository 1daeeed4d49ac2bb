-- The records of a text, by where its bytes stand.
use Rattle.std.proofs.Common.{◌≡◌, ◌∙◌, ap, sym, refl, ℕ, zero, suc, ◌+◌, ◌<◌, ◌⊎◌, inl, inr, ◌==◌, ◌||◌, Bool, true, false, cond, List, [], ◌∷◌, ◌++◌, length, Option, Some, None, arith, add-one}
use Rattle.csv.specs.Machine.{Read, ends_at_end, field_after, fields_after, is_end, next_record, step}
use Rattle.csv.specs.Reading.{default_config, records, records_from, records_next}
use Rattle.csv.specs.declared.parser.Config.{Config}
use Rattle.csv.specs.declared.parser.State.{State}
use Rattle.csv.specs.declared.parser.State.TheVariants as st
use Rattle.csv.specs.declared.parser.Action.{Action}
use Rattle.csv.specs.declared.parser.Action.TheVariants as act
use Rattle.sw_headers.specs.Steps.{next_spot}
use Rattle.sw_headers.specs.Under.{Fields}
use Rattle.sw_headers.specs.declared.rewriting.Spot.{Spot}
use Rattle.sw_headers.specs.declared.rewriting.Spot.TheVariants.{Before, Field, Plain, Quoted, Closed}

-- ---- every record of a text, one after another

abbrev records_at : State → List ℕ → List Fields
records_at s xs = records_from default_config (length xs + 1) s xs

abbrev Shrinks : List ℕ → Read → Type 0
Shrinks xs r = (length r.2 < length xs) ⊎ ((r.1 ≡ st.StartRecord) × (r.2 ≡ []))

chosen : {A : Type 0} (b : Bool) (x y : A) (P : A → Type 0) → (b ≡ true → P x) → (b ≡ false → P y) → P (cond b x y)
chosen true x y P f g = f refl
chosen false x y P f g = g refl

abbrev IfRead : Option Read → (Read → Type 0) → Type 0
IfRead None P = Unit {0}
IfRead (Some r) P = P r

weaker : (o : Option Read) (c : ℕ) (rest : List ℕ) → IfRead o (Shrinks rest) → IfRead o (Shrinks (c ∷ rest))
weaker None c rest h = tt
weaker (Some r) c rest (inl h) = inl (omega arith)
weaker (Some r) c rest (inr h) = inr h

shrinks : (cfg : Config) (s : State) (fs : Fields) (f : List ℕ) (xs : List ℕ) → IfRead (next_record cfg s fs f xs) (Shrinks xs)
unfolding next_record
shrinks cfg s fs f [] = chosen (ends_at_end s) (Some (fs ++ (f ∷ []), st.StartRecord, [])) None (λ o. IfRead o (Shrinks [])) (λ _. inr (refl, refl)) (λ _. tt)
shrinks cfg s fs f (c ∷ rest) =
    let more = next_record cfg (step cfg s c).0 (fields_after (step cfg s c).1 fs f) (field_after (step cfg s c).1 c f) rest in
    chosen (is_end (step cfg s c).1) (Some (fields_after (step cfg s c).1 fs f, (step cfg s c).0, rest)) more (λ o. IfRead o (Shrinks (c ∷ rest)))
    (λ _. inl (omega arith))
    (λ _. weaker more c rest (shrinks cfg (step cfg s c).0 (fields_after (step cfg s c).1 fs f) (field_after (step cfg s c).1 c f) rest))

none-left : (cfg : Config) (n : ℕ) → records_from cfg n st.StartRecord [] ≡ []
unfolding records_from next_record
none-left cfg zero = refl
none-left cfg (suc n) = refl

turns : (cfg : Config) (n m : ℕ) (s : State) (xs : List ℕ) → length xs < n → length xs < m → records_from cfg n s xs ≡ records_from cfg m s xs
unfolding records_from
turns cfg zero m s xs h k = absurd (omega arith)
turns cfg (suc n) zero s xs h k = absurd (omega arith)
turns cfg (suc n) (suc m) s xs h k = by_read (next_record cfg s [] [] xs) (shrinks cfg s [] [] xs) (turns cfg n m)
  where
    by_read : (o : Option Read) → IfRead o (Shrinks xs) → ((t : State) (ys : List ℕ) → length ys < n → length ys < m → records_from cfg n t ys ≡ records_from cfg m t ys) → records_next (records_from cfg n) o ≡ records_next (records_from cfg m) o
    by_read None i more = refl
    by_read (Some r) (inl lt) more = ap (λ rs. r.0 ∷ rs) (more r.1 r.2 (omega arith) (omega arith))
    by_read (Some r) (inr e) more = ap (λ rs. r.0 ∷ rs) (rw (e.0, e.1) (none-left cfg n ∙ sym (none-left cfg m)))

records_step : (s : State) (xs : List ℕ) → records_at s xs ≡ records_next records_at (next_record default_config s [] [] xs)
unfolding records_from
records_step s xs = ap (λ n. records_from default_config n s xs) (add-one (length xs)) ∙ by_read (next_record default_config s [] [] xs) (shrinks default_config s [] [] xs)
  where
    by_read : (o : Option Read) → IfRead o (Shrinks xs) → records_next (records_from default_config (length xs)) o ≡ records_next records_at o
    by_read None i = refl
    by_read (Some r) (inl lt) = ap (λ rs. r.0 ∷ rs) (turns default_config (length xs) (length r.2 + 1) r.1 r.2 lt (omega arith))
    by_read (Some r) (inr e) = ap (λ rs. r.0 ∷ rs) (rw (e.0, e.1) (none-left default_config (length xs) ∙ sym (none-left default_config 1)))

-- the records that are left of a text, with the fields and the field at hand
rest : State → Fields → List ℕ → List ℕ → List Fields
rest s fs f [] = cond (ends_at_end s) ((fs ++ f ∷ []) ∷ []) []
rest s fs f (c ∷ cs) = cond (is_end (step default_config s c).1)
    (fields_after (step default_config s c).1 fs f ∷ rest (step default_config s c).0 [] [] cs)
    (rest (step default_config s c).0 (fields_after (step default_config s c).1 fs f) (field_after (step default_config s c).1 c f) cs)

rest_is : (s : State) (fs : Fields) (f : List ℕ) (xs : List ℕ) → records_next records_at (next_record default_config s fs f xs) ≡ rest s fs f xs
unfolding next_record rest
rest_is s fs f [] = by_end (ends_at_end s)
  where
    by_end : (b : Bool) → records_next records_at (cond b (Some (fs ++ (f ∷ []), st.StartRecord, [])) None) ≡ cond b ((fs ++ f ∷ []) ∷ []) []
    by_end true = ap (λ rs. (fs ++ f ∷ []) ∷ rs) (none-left default_config 1)
    by_end false = refl
rest_is s fs f (c ∷ cs) =
    let t = step default_config s c in
    by_end (is_end t.1) (records_step t.0 cs ∙ rest_is t.0 [] [] cs) (rest_is t.0 (fields_after t.1 fs f) (field_after t.1 c f) cs)
  where
    by_end : (b : Bool) → records_at (step default_config s c).0 cs ≡ rest (step default_config s c).0 [] [] cs
        → records_next records_at (next_record default_config (step default_config s c).0 (fields_after (step default_config s c).1 fs f) (field_after (step default_config s c).1 c f) cs)
        ≡ rest (step default_config s c).0 (fields_after (step default_config s c).1 fs f) (field_after (step default_config s c).1 c f) cs
        → records_next records_at (cond b (Some (fields_after (step default_config s c).1 fs f, (step default_config s c).0, cs)) (next_record default_config (step default_config s c).0 (fields_after (step default_config s c).1 fs f) (field_after (step default_config s c).1 c f) cs))
        ≡ cond b (fields_after (step default_config s c).1 fs f ∷ rest (step default_config s c).0 [] [] cs) (rest (step default_config s c).0 (fields_after (step default_config s c).1 fs f) (field_after (step default_config s c).1 c f) cs)
    by_end true ended on = ap (λ rs. fields_after (step default_config s c).1 fs f ∷ rs) ended
    by_end false ended on = on

-- ---- the same by spots

-- the field at hand after a byte, from a spot to a spot
abbrev pub joined : Spot → Spot → List ℕ → ℕ → List ℕ
joined s Plain f c = f ++ c ∷ []
joined Closed Quoted f c = f ++ c ∷ []
joined Quoted Quoted f c = f ++ c ∷ []
joined Before Quoted f c = f
joined Field Quoted f c = f
joined Plain Quoted f c = f
joined s Before f c = f
joined s Field f c = f
joined s Closed f c = f

-- the records that are left at the end of a text, from a spot
abbrev pub read_end : Spot → Fields → List ℕ → List Fields
read_end Before fs f = []
read_end Field fs f = (fs ++ f ∷ []) ∷ []
read_end Plain fs f = (fs ++ f ∷ []) ∷ []
read_end Quoted fs f = (fs ++ f ∷ []) ∷ []
read_end Closed fs f = (fs ++ f ∷ []) ∷ []

-- the records that are left behind a byte, from a spot to a spot
abbrev pub read_to : (Spot → Fields → List ℕ → List Fields) → Spot → Spot → Fields → List ℕ → ℕ → List Fields
read_to more Before Before fs f c = more Before fs f
read_to more Field Before fs f c = (fs ++ f ∷ []) ∷ more Before [] []
read_to more Plain Before fs f c = (fs ++ f ∷ []) ∷ more Before [] []
read_to more Quoted Before fs f c = (fs ++ f ∷ []) ∷ more Before [] []
read_to more Closed Before fs f c = (fs ++ f ∷ []) ∷ more Before [] []
read_to more s Field fs f c = more Field (fs ++ f ∷ []) []
read_to more s Plain fs f c = more Plain fs (f ++ c ∷ [])
read_to more s Quoted fs f c = more Quoted fs (joined s Quoted f c)
read_to more s Closed fs f c = more Closed fs f

-- the records that are left of a text
abbrev pub read : Spot → Fields → List ℕ → List ℕ → List Fields
read s fs f [] = read_end s fs f
read s fs f (c ∷ cs) = read_to (λ s2 fs2 f2. read s2 fs2 f2 cs) s (next_spot s c) fs f c

abbrev state_of : Spot → State
state_of Before = st.StartRecord
state_of Field = st.StartField
state_of Plain = st.InField
state_of Quoted = st.InQuoted
state_of Closed = st.AfterQuote

abbrev Done : Type 0
Done = State × Action

abbrev in_state : Bool → Bool → Bool → Done
in_state d r n = cond d (st.StartField, act.EndField) (cond (r || n) (cond r st.AfterCr st.StartRecord, act.EndRecord) (st.InField, act.Copy))

abbrev in_spot : Bool → Bool → Bool → Spot
in_spot d r n = cond d Field (cond (r || n) Before Plain)

-- what is left behind a byte, by what the machine made of it
abbrev left : Done → Fields → List ℕ → ℕ → List ℕ → List Fields
left p fs f c cs = cond (is_end p.1) (fields_after p.1 fs f ∷ rest p.0 [] [] cs) (rest p.0 (fields_after p.1 fs f) (field_after p.1 c f) cs)

-- behind a carriage return as before a record
after_cr : (xs : List ℕ) → rest st.AfterCr [] [] xs ≡ rest st.StartRecord [] [] xs
unfolding rest
after_cr [] = refl
after_cr (c ∷ cs) = by_feed (c == 13) (c == 10)
  where
    by_feed : (r n : Bool) → left (cond n (st.StartRecord, act.Skip) (cond (r || n) (st.StartRecord, act.Skip) (step default_config st.StartField c))) [] [] c cs
        ≡ left (cond (r || n) (st.StartRecord, act.Skip) (step default_config st.StartField c)) [] [] c cs
    by_feed true true = refl
    by_feed false true = refl
    by_feed true false = refl
    by_feed false false = refl

abbrev Same : List ℕ → Type 0
Same cs = (s : Spot) (fs : Fields) (f : List ℕ) → rest (state_of s) fs f cs ≡ read s fs f cs

-- a byte in no quotes, behind the beginning of a record
same_in : (s : Spot) (fs : Fields) (f : List ℕ) (c : ℕ) (cs : List ℕ) (more : Spot → Fields → List ℕ → List Fields)
    → ((s2 : Spot) (fs2 : Fields) (f2 : List ℕ) → rest (state_of s2) fs2 f2 cs ≡ more s2 fs2 f2)
    → ((fs ++ f ∷ []) ∷ more Before [] []) ≡ read_to more s Before fs f c → more Field (fs ++ f ∷ []) [] ≡ read_to more s Field fs f c → more Plain fs (f ++ c ∷ []) ≡ read_to more s Plain fs f c
    → (d r n : Bool) → left (in_state d r n) fs f c cs ≡ read_to more s (in_spot d r n) fs f c
same_in s fs f c cs more h ended parted on true r n = h Field (fs ++ f ∷ []) [] ∙ parted
same_in s fs f c cs more h ended parted on false true n = ap (λ rs. (fs ++ f ∷ []) ∷ rs) (after_cr cs ∙ h Before [] []) ∙ ended
same_in s fs f c cs more h ended parted on false false true = ap (λ rs. (fs ++ f ∷ []) ∷ rs) (h Before [] []) ∙ ended
same_in s fs f c cs more h ended parted on false false false = h Plain fs (f ++ c ∷ []) ∙ on

abbrev Then : List ℕ → Spot → Fields → List ℕ → List Fields
Then cs s fs f = read s fs f cs

before_by : (fs : Fields) (f : List ℕ) (c : ℕ) (cs : List ℕ) → Same cs → (d r n q : Bool) → left (cond (r || n) (st.StartRecord, act.Skip) (cond q (st.InQuoted, act.Skip) (in_state d r n))) fs f c cs
    ≡ read_to (Then cs) Before (cond (r || n) Before (cond q Quoted (in_spot d r n))) fs f c
before_by fs f c cs h d true n q = h Before fs f
before_by fs f c cs h d false true q = h Before fs f
before_by fs f c cs h d false false true = h Quoted fs f
before_by fs f c cs h true false false false = h Field (fs ++ f ∷ []) []
before_by fs f c cs h false false false false = h Plain fs (f ++ c ∷ [])

field_by : (fs : Fields) (f : List ℕ) (c : ℕ) (cs : List ℕ) → Same cs → (d r n q : Bool) → left (cond q (st.InQuoted, act.Skip) (in_state d r n)) fs f c cs
    ≡ read_to (Then cs) Field (cond q Quoted (in_spot d r n)) fs f c
field_by fs f c cs h d r n true = h Quoted fs f
field_by fs f c cs h d r n false = same_in Field fs f c cs (Then cs) h refl refl refl d r n

quoted_by : (fs : Fields) (f : List ℕ) (c : ℕ) (cs : List ℕ) → Same cs → (q : Bool) → left (cond q (st.AfterQuote, act.Skip) (st.InQuoted, act.Copy)) fs f c cs
    ≡ read_to (Then cs) Quoted (cond q Closed Quoted) fs f c
quoted_by fs f c cs h true = h Closed fs f
quoted_by fs f c cs h false = h Quoted fs (f ++ c ∷ [])

closed_by : (fs : Fields) (f : List ℕ) (c : ℕ) (cs : List ℕ) → Same cs → (d r n q : Bool) → left (cond q (st.InQuoted, act.Copy) (in_state d r n)) fs f c cs
    ≡ read_to (Then cs) Closed (cond q Quoted (in_spot d r n)) fs f c
closed_by fs f c cs h d r n true = h Quoted fs (f ++ c ∷ [])
closed_by fs f c cs h d r n false = same_in Closed fs f c cs (Then cs) h refl refl refl d r n

same : (xs : List ℕ) → Same xs
unfolding rest
same [] Before fs f = refl
same [] Field fs f = refl
same [] Plain fs f = refl
same [] Quoted fs f = refl
same [] Closed fs f = refl
same (c ∷ cs) Before fs f = before_by fs f c cs (same cs) (c == 44) (c == 13) (c == 10) (c == 34)
same (c ∷ cs) Field fs f = field_by fs f c cs (same cs) (c == 44) (c == 13) (c == 10) (c == 34)
same (c ∷ cs) Plain fs f = same_in Plain fs f c cs (Then cs) (same cs) refl refl refl (c == 44) (c == 13) (c == 10)
same (c ∷ cs) Quoted fs f = quoted_by fs f c cs (same cs) (c == 34)
same (c ∷ cs) Closed fs f = closed_by fs f c cs (same cs) (c == 44) (c == 13) (c == 10) (c == 34)

-- the records of a text are those that are left of it before its first
pub records_read : (xs : List ℕ) → records default_config xs ≡ read Before [] [] xs
records_read xs = records_step st.StartRecord xs ∙ rest_is st.StartRecord [] [] xs ∙ same xs Before [] []
