-- Why a run is refused before its first call.
use Rattle.std.proofs.Common.{◌≡◌, ◌∙◌, OnOk, ap, subst, refl, ℕ, ◌+◌, ◌<◌, ◌⊎◌, inl, inr, Bool, true, suc, List, [], ◌∷◌, length, Option, Some, None, Result, Ok, Err, arith, slice_get, IfErr, IfOk, IfSome, eqb, nat_lt, ◌&&◌}
use Rattle.std.proofs.lemmas.Grind.{common_steps}
use Rattle.std.proofs.lemmas.Bool.Decides.{Decides-eqb}
use Rattle.sw_rows.proofs.Scans.RowLaws.{keys-count}
use Rattle.sw_rows.specs.Gives.{Fails}
use Rattle.sw_rows.specs.Tables.{Table, table_of}
use Rattle.sw_table.specs.declared.row.Row.{Row}
use Rattle.sw_query.specs.declared.refusal.Refusal.{Refusal}
use Rattle.sw_query.specs.declared.refusal.Refusal.TheVariants as refusal
use Rattle.sw_rows.specs.Header.{Column, Fault}
use Rattle.sw_query.specs.declared.query.Call.{Call}
use Rattle.sw_lang.proofs.Known.Knowing.{learned_width}
use Rattle.sw_lang.specs.Fits.{FitsCall}
use Rattle.sw_lang.specs.Learning.{learned}
use Rattle.sw_spine.specs.History.{CallsBelow}
use Rattle.sw_lang.specs.Reading.{Answers, refused, refusal_of as line_refusal}
use Rattle.sw_lang.specs.declared.fault.Fault.{Fault as LineFault}
use Rattle.sw_lang.specs.declared.fault.Fault.TheVariants.{Bad, Excess, Unknown}
use Rattle.sw_spine.specs.Table.{is_numbered}
use Rattle.sw_spine.proofs.Histories.{fits_below}
use Rattle.sw_histories.specs.Told.{◌>>=◌, TellsText}
use Rattle.sw_lang.specs.Cuts.{CutLists}
use Rattle.sw_cli.specs.Run.{Start, cuts_of, or_refusal, script_of, start_of}
use Rattle.sw_cli.specs.Script.{Script}
use Rattle.sw_cli.specs.Starts.{IfBoth, RefusedFrom}

-- a fault of the table is the refusal of what comes after it too
pub table_refuses : {A B : Type 0} (I J : Type 0) (e : Refusal) (read : Result A Fault) (f : A → Result B Refusal) → Fails I e read → RefusedFrom {Y = B} (I ⊎ J) e (or_refusal read >>= f)
table_refuses I J refusal.NoMemory read f h = tt
table_refuses I J (refusal.BadTable rec field) read f h = rw h refl
table_refuses I J (refusal.BadLine line why) read f h = absurd h
table_refuses I J (refusal.UnknownAttribute name) read f h = absurd h
table_refuses I J (refusal.TooMany limit) read f h = rw h refl
table_refuses I J (refusal.NoBlank boxes needed) read f h = absurd h
table_refuses I J (refusal.Short used want capacity) read f h = absurd h
table_refuses I J (refusal.Contended seen found) read f h = absurd h
table_refuses I J (refusal.SharesOut made given) read f h = absurd h
table_refuses I J (refusal.HistoryFull entries) read f h = absurd h
table_refuses I J (refusal.NotLegal index) read f h = absurd h
table_refuses I J refusal.Input read f h = inl h
table_refuses I J refusal.Output read f h = absurd h
table_refuses I J (refusal.Ahead seen told) read f h = absurd h

-- the same of bytes that are too many, where one source alone is read
pub bytes_refuse : {A B : Type 0} (I : Type 0) (e : Refusal) (read : Result A Fault) (f : A → Result B Refusal) → Fails I e read → RefusedFrom {Y = B} I e (or_refusal read >>= f)
bytes_refuse I refusal.NoMemory read f h = tt
bytes_refuse I (refusal.BadTable rec field) read f h = rw h refl
bytes_refuse I (refusal.BadLine line why) read f h = absurd h
bytes_refuse I (refusal.UnknownAttribute name) read f h = absurd h
bytes_refuse I (refusal.TooMany limit) read f h = rw h refl
bytes_refuse I (refusal.NoBlank boxes needed) read f h = absurd h
bytes_refuse I (refusal.Short used want capacity) read f h = absurd h
bytes_refuse I (refusal.Contended seen found) read f h = absurd h
bytes_refuse I (refusal.SharesOut made given) read f h = absurd h
bytes_refuse I (refusal.HistoryFull entries) read f h = absurd h
bytes_refuse I (refusal.NotLegal index) read f h = absurd h
bytes_refuse I refusal.Input read f h = h
bytes_refuse I refusal.Output read f h = absurd h
bytes_refuse I (refusal.Ahead seen told) read f h = absurd h

-- a refusal of the script is that of what comes after it too, where something holds that is told of the script
pub script_refuses : {A B : Type 0} (I J K : Type 0) (e : Refusal) (said : Result A Refusal) (f : A → Result B Refusal) → K → RefusedFrom {Y = A} J e said → RefusedFrom {Y = B} (I ⊎ (K × J)) e (said >>= f)
script_refuses I J K refusal.NoMemory said f k h = tt
script_refuses I J K refusal.Input said f k h = inr (k, h)
script_refuses {A} I J K e said f k h = ap (λ (r : Result A Refusal). r >>= f) h

-- a text's refusal is that of its source
pub text_refuses : {A : Type 0} (I : Type 0) (e : Refusal) (said : Result A Refusal) → TellsText e → Answers {A = A} (Err e) said → RefusedFrom {Y = A} I e said
text_refuses I refusal.NoMemory said t h = tt
text_refuses I refusal.Input said t h = absurd t
text_refuses I e said t h = h

same_refusal : {A : Type 0} (d e : Refusal) → ◌≡◌ {A = Result A Refusal} (Err d) (Err e) → d ≡ e
same_refusal d e h = cc

line_tells : {A : Type 0} (n : ℕ) (e : Refusal) (r : Result A LineFault) → refused n r ≡ Err e → TellsText e
line_tells n e (Ok x) h = absurd cc
line_tells {A} n e (Err (Bad why)) h = subst TellsText (same_refusal {A = A} (line_refusal n (Bad why)) e h) tt
line_tells {A} n e (Err (Unknown name)) h = subst TellsText (same_refusal {A = A} (line_refusal n (Unknown name)) e h) tt
line_tells {A} n e (Err (Excess limit)) h = subst TellsText (same_refusal {A = A} (line_refusal n (Excess limit)) e h) tt

-- what a line is refused is a refusal of a text
pub answers_tell : {A : Type 0} (n : ℕ) (e : Refusal) (r : Result A LineFault) → Answers {A = A} (Err e) (refused n r) → TellsText e
answers_tell n refusal.NoMemory r h = tt
answers_tell n e r h = line_tells n e r h

-- what is answered is a refusal of a text
pub result_tells : {A : Type 0} (n : ℕ) (result : Result A Refusal) (r : Result A LineFault) → Answers {A = A} result (refused n r) → IfErr result TellsText
result_tells n (Ok x) r h = tt
result_tells n (Err e) r h = answers_tell n e r h

-- a call that fits the table may be called of it
some_below : (schema : List Column) (o : Option Call) → IfSome o (FitsCall schema) → IfSome o (CallsBelow (length schema))
some_below schema None h = tt
some_below schema (Some c) h = fits_below schema c h

-- and there are as many attributes before the texts of its line are known
pub learned_below : (schema now : List Column) (line : List ℕ) (result : Result (Option Call) Refusal) → OnOk result (now ≡ learned schema line) → IfOk result (λ o. IfSome o (FitsCall now)) → IfOk result (λ o. IfSome o (CallsBelow (length schema)))
learned_below schema now line (Ok o) is h = subst (λ (n : ℕ). IfSome o (CallsBelow n)) (ap length is ∙ learned_width schema line) (some_below now o h)
learned_below schema now line (Err e) is h = tt

both-true : (a b : Bool) → a ≡ true → b ≡ true → (a && b) ≡ true
both-true a b h k = rw (h, k) refl

-- rows whose keys count on from n
numbered_from : (n : ℕ) (rows : List Row) → ((i : ℕ) (r : Row) → slice_get rows i ≡ Some r → r.key ≡ n + i) → is_numbered n rows ≡ true
numbered_from n [] h = refl
numbered_from n (r ∷ rs) h =
    let first : r.key ≡ n = let k = h 0 r refl in omega arith in
    both-true (eqb r.key n) (is_numbered (n + 1) rs) ((Decides-eqb r.key n).1 first) (numbered_from (n + 1) rs (λ i s e. let k = h (suc i) s e in omega arith))

-- the rows of a table have the keys 1, 2, 3 and so on
pub table_numbered : (bytes : List ℕ) (t : Table) → table_of bytes ≡ Ok t → is_numbered 1 t.rows ≡ true
table_numbered bytes t h = numbered_from 1 t.rows (λ i r e. let k = keys-count bytes t i r h e in omega arith)

over_limit : (limit : ℕ) (cuts a b : List ℕ) (t : Table) (s : Script) (lists : CutLists) → table_of a ≡ Ok t → script_of t.columns b ≡ Ok s → cuts_of s.columns cuts ≡ Ok lists → nat_lt limit (length t.rows) ≡ true → start_of limit cuts a b ≡ Err (refusal.TooMany limit)
over_limit limit cuts a b t s lists h k l m = rw (h, k, l, m) refl

-- rows that are more than the limit pass the test of being more
pub exceeds : (limit n many : ℕ) → n ≡ many → limit < n → nat_lt limit many ≡ true
exceeds limit n many e h = subst (λ (k : ℕ). nat_lt limit k ≡ true) e (grind (arith, common_steps))

-- a text's refusal is that of what comes after it too
text_refuses_then : {A B : Type 0} (I : Type 0) (e : Refusal) (said : Result A Refusal) (f : A → Result B Refusal) → TellsText e → Answers {A = A} (Err e) said → RefusedFrom {Y = B} I e (said >>= f)
text_refuses_then I refusal.NoMemory said f t h = tt
text_refuses_then I refusal.Input said f t h = absurd t
text_refuses_then {A} I e said f t h = ap (λ (r : Result A Refusal). r >>= f) h

no_cuts : (I : Type 0) (limit : ℕ) (cuts a b : List ℕ) (t : Table) (s : Script) (e : Refusal) → table_of a ≡ Ok t → script_of t.columns b ≡ Ok s → TellsText e → Answers {A = CutLists} (Err e) (cuts_of s.columns cuts) → RefusedFrom {Y = Start} I e (start_of limit cuts a b)
no_cuts I limit cuts a b t s e h k tells l = rw (h, k) (text_refuses_then I e (cuts_of s.columns cuts) _ tells l)

-- where table and script were read, a refusal of the cuts is the refusal
pub cuts_refuse : (I : List ℕ → Type 0) (limit : ℕ) (cuts : List ℕ) (left right : Option (List ℕ)) (t : Table) (s : Script) (e : Refusal) → IfSome left (λ a. table_of a ≡ Ok t) → IfSome right (λ b. script_of t.columns b ≡ Ok s) → TellsText e → Answers {A = CutLists} (Err e) (cuts_of s.columns cuts) → IfBoth left right (λ a b. RefusedFrom {Y = Start} (I a) e (start_of limit cuts a b))
cuts_refuse I limit cuts (Some a) (Some b) t s e h k tells l = no_cuts (I a) limit cuts a b t s e h k tells l
cuts_refuse I limit cuts (Some a) None t s e h k tells l = tt
cuts_refuse I limit cuts None right t s e h k tells l = tt

-- where all was read and the rows are more than the limit, that is the refusal
pub rows_refuse : (limit : ℕ) (cuts : List ℕ) (left right : Option (List ℕ)) (t : Table) (s : Script) (lists : CutLists) → IfSome left (λ a. table_of a ≡ Ok t) → IfSome right (λ b. script_of t.columns b ≡ Ok s) → cuts_of s.columns cuts ≡ Ok lists → nat_lt limit (length t.rows) ≡ true → IfBoth left right (λ a b. start_of limit cuts a b ≡ Err (refusal.TooMany limit))
rows_refuse limit cuts (Some a) (Some b) t s lists h k l m = over_limit limit cuts a b t s lists h k l m
rows_refuse limit cuts (Some a) None t s lists h k l m = tt
rows_refuse limit cuts None right t s lists h k l m = tt
