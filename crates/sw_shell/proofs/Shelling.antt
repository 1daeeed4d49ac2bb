-- What a shell answers, from what was read of its table.
use Rattle.std.proofs.Common.{◌≡◌, ◌⊎◌, inl, inr, ℕ, List, [], Option, Some, None, IfSome, Result, Ok, Err, IfOk, IsOkUnless, subst, sym, arith}
use Rattle.sw_rows.specs.Gives.{Raised}
use Rattle.sw_rows.specs.Header.{Column}
use Rattle.sw_table.specs.declared.row.Row.{Row}
use Rattle.sw_spine.specs.History.{IsLegal}
use Rattle.sw_query.specs.declared.refusal.Refusal.{Refusal}
use Rattle.sw_query.specs.declared.refusal.Refusal.TheVariants as refusal
use Rattle.sw_cli.specs.Run.{Start, start_of}
use Rattle.sw_cli.specs.Sides.{FailedInTurn, SourceFailed, SourceSeen, SpellTable, source_seen}
use Rattle.sw_cli.specs.Starts.{IfBoth, ReadsFrom, ReadsStart, RefusedFrom, start_seen}
use Rattle.sw_cli.specs.declared.running.Options.{Options}
use Rattle.sw_cli.specs.declared.start.Inputs.{Inputs}
use Rattle.sw_shell.specs.Shelled.{IsLeftBy, ReadsTable, Shelled, Shells}
use Rattle.sw_shell.specs.Traffic.{Traffic}
use Rattle.sw_shell.specs.declared.opening.Ended.{Ended}

-- for want of memory nothing is answered of the table
pub read_without : (asked : Options) (o : Option (List ℕ)) (before after : ℕ) → ReadsTable asked (source_seen o before after) (Err refusal.NoMemory)
read_without asked None before after = tt
read_without asked (Some bytes) before after = tt

weaker : (I J : Type 0) (e : Refusal) (read : Result Start Refusal) → (I → J) → RefusedFrom I e read → RefusedFrom J e read
weaker I J refusal.NoMemory read f h = tt
weaker I J refusal.Input read f h = f h
weaker I J e read f h = h

never_raised : (a b : ℕ) → a ≡ 0 → b ≡ 0 → Raised a b → ⊥
never_raised a b is_a is_b (inl l) = omega (arith, is_a, is_b, l)
never_raised a b is_a is_b (inr e) = omega (arith, is_b, e)

only_first : (I X Y : Type 0) → (Y → ⊥) → (I ⊎ (X × Y)) → I
only_first I X Y never (inl i) = i
only_first I X Y never (inr f) = absurd (never f.1)

read_first : (I X Y : Type 0) (read : Result Start Refusal) (result : Result Inputs Refusal) → (Y → ⊥) → ReadsFrom (I ⊎ (X × Y)) start_seen result read → ReadsFrom I start_seen result read
read_first I X Y read (Ok opened) never h = h
read_first I X Y read (Err e) never h = weaker (I ⊎ (X × Y)) I e read (only_first I X Y never) h

-- a script without bytes, whose source counts no failure, is none
pub read_alone : (asked : Options) (o l : Option (List ℕ)) (a b before after : ℕ) (result : Result Inputs Refusal)
    → l ≡ Some [] → before ≡ 0 → after ≡ 0
    → ReadsStart asked.limit asked.cuts.now (source_seen o a b) (source_seen l before after) result
    → ReadsTable asked (source_seen o a b) result
read_alone asked None l a b before after result none was is read = tt
read_alone asked (Some bytes) l a b before after result none was is read =
    let t = source_seen (Some bytes) a b in
    let s = source_seen l before after in
    let F : List ℕ → List ℕ → Type 0 = λ x y. ReadsFrom (FailedInTurn t s x) start_seen result (start_of asked.limit asked.cuts.now x y) in
    let known : F bytes [] = subst (λ (k : Option (List ℕ)). IfBoth (Some bytes) k F) none read in
    read_first (SourceFailed t) (SpellTable bytes) (SourceFailed s) (start_of asked.limit asked.cuts.now bytes []) result (never_raised before after was is) known

-- a shell over the table that was read
shelled_over : (I : Type 0) (limit : ℕ) (cuts : List ℕ) (o : Option (List ℕ)) (old new : Traffic) (opened : Inputs) (result : Result Ended Refusal)
    → IfSome o (λ bytes. ReadsFrom I start_seen (Ok opened) (start_of limit cuts bytes []))
    → IfOk result (IsLeftBy opened.schema opened.rows.items limit old new) → IsOkUnless result refusal.NoMemory
    → IfSome o (λ bytes. Shelled I limit cuts bytes old new result)
shelled_over I limit cuts None old new opened result read is refused = tt
shelled_over I limit cuts (Some bytes) old new opened (Ok e) read is refused = (start_seen opened, read, is)
shelled_over I limit cuts (Some bytes) old new opened (Err e) read is refused =
    subst (λ (x : Refusal). RefusedFrom I x (start_of limit cuts bytes [])) (sym refused) tt

-- from the table that was read, and what the lines left, to the outcome of a shell
pub shelled_by : (asked : Options) (old new : Traffic) (t : SourceSeen) (opened : Inputs) (result : Result Ended Refusal)
    → ReadsTable asked t (Ok opened)
    → IfOk result (IsLeftBy opened.schema opened.rows.items asked.limit old new) → IsOkUnless result refusal.NoMemory
    → Shells asked t old new result
shelled_by asked old new t opened result read is refused =
    shelled_over (SourceFailed t) asked.limit asked.cuts.now t.left old new opened result read is refused

-- its record is legal
pub legal_by : (columns : List Column) (rows : List Row) (limit : ℕ) (old new : Traffic) (result : Result Ended Refusal)
    → IfOk result (IsLeftBy columns rows limit old new) → IfOk result (λ e. IsLegal e.history)
legal_by columns rows limit old new (Ok e) is = is.history.legal
legal_by columns rows limit old new (Err e) is = tt
