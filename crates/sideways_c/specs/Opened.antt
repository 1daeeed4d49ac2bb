-- Engines that are opened and ended.
use Rattle.std.specs.Prelude.{ℕ, ◌≡◌, ◌≤◌, ◌<◌, ◌+◌, ◌==◌, ◌&&◌, ◌⊎◌, if◌then◌else◌, Bool, true, false, nat_le, nat_lt, List, Option, None, Some, Result, Ok, Err}
use Rattle.std.specs.Global.{Vec}
use Rattle.std.specs.Str.{is_utf8}
use Rattle.sw_rows.specs.Faults.{Fault}
use Rattle.sw_rows.specs.Gives.{Fails}
use Rattle.sw_rows.specs.Header.{Column}
use Rattle.sw_rows.specs.Tables.{Table}
use Rattle.sw_query.specs.declared.refusal.Refusal.{Refusal}
use Rattle.sw_query.specs.declared.refusal.Refusal.TheVariants.{BadLine, NoMemory}
use Rattle.sw_query.specs.declared.refusal.Why.TheVariants as why
use Rattle.sw_rows.specs.declared.table.TheConstants.{MOST_ROWS}
use Rattle.sw_lang.specs.Cuts.{CutLists}
use Rattle.sw_lang.specs.CutsReading.{cuts_at}
use Rattle.sw_lang.specs.Reading.{refused}
use Rattle.sw_spine.specs.Books.{RefusesRows}
use Rattle.sw_spine.specs.History.{IsLegal}
use Rattle.sw_spine.specs.Rest.{none_open}
use Rattle.sw_histories.specs.RecordText.{record_text}
use Rattle.sw_solo.specs.Called.{RefusesSession, SoloState, new_solo}
use Rattle.sideways_c.specs.Codes.{code_of}
use Rattle.sideways_c.specs.Handles.{OnEngine, OnHandle, seen}
use Rattle.sideways_c.specs.Shown.{Shown, over}
use Rattle.sideways_c.specs.declared.codes.TheConstants.{BAD_OPTIONS, MISUSE, OK}
use Rattle.sideways_c.specs.declared.holder.Sideways.{Sideways}
use Rattle.sideways_c.specs.declared.opening.Options.{Options}
use Rattle.sideways_c.specs.declared.opening.TheConstants.{MOST_CELLS, MOST_MAPS}

-- ---- options

abbrev pub are_sound : Options → Bool
are_sound o =
    nat_lt 0 o.limit && nat_le o.limit MOST_ROWS && nat_le o.budget MOST_CELLS && nat_le o.maps MOST_MAPS

-- the limit is one of rows
pub record AreSound (o : Options) : Type 0 where
  pub some : 0 < o.limit
  pub most : o.limit ≤ MOST_ROWS

-- ---- opening

-- the cuts of a text
abbrev pub cuts_in : List Column → List ℕ → Result CutLists Refusal
cuts_in columns text = if is_utf8 text then refused 0 (cuts_at columns text) else Err (BadLine 0 why.Cuts)

-- what the engine of what was read and of cuts is refused for: a fault of the table; where it has none, one of the cuts;
-- where they have none, more rows than the limit; or there is no memory
abbrev pub IsNotOpening : Result Table Fault → List ℕ → ℕ → Refusal → Type 0
IsNotOpening read cuts limit e =
    Fails ⊥ e read
    ⊎ ((t : Table) × (read ≡ Ok t) × (cuts_in t.columns cuts ≡ Err e))
    ⊎ ((t : Table) × (lists : CutLists) × (read ≡ Ok t) × (cuts_in t.columns cuts ≡ Ok lists) × RefusesRows limit t.rows e)

-- an engine with no calls and no sessions over the table that was read
abbrev pub IsOpening : Result Table Fault → List ℕ → ℕ → Result SoloState Refusal → Type 0
IsOpening read cuts limit (Ok s) =
    (t : Table) × (lists : CutLists) × (read ≡ Ok t) × (cuts_in t.columns cuts ≡ Ok lists)
    × (s ≡ new_solo t.columns t.rows limit)
IsOpening read cuts limit (Err e) = IsNotOpening read cuts limit e

-- the handle of such an engine
abbrev pub IsHandleOf : Result Table Fault → List ℕ → ℕ → Option Shown → Type 0
IsHandleOf read cuts limit h = (s : SoloState) × IsOpening read cuts limit (Ok s) × (h ≡ Some (over s))

abbrev pub IsHandleOr : Result Table Fault → List ℕ → ℕ → Result Sideways Refusal → Type 0
IsHandleOr read cuts limit (Ok h) = IsHandleOf read cuts limit (seen h)
IsHandleOr read cuts limit (Err e) = IsNotOpening read cuts limit e

-- what comes of a closed handle under options that are sound, and under others
abbrev pub OpensUnder : Bool → Result Table Fault → List ℕ → ℕ → Option Shown → ℕ → Type 0
OpensUnder true read cuts limit new code =
    ((code ≡ OK) × IsHandleOf read cuts limit new)
    ⊎ ((e : Refusal) × IsNotOpening read cuts limit e × (code ≡ code_of e) × (new ≡ None))
OpensUnder false read cuts limit new code = (code ≡ BAD_OPTIONS) × (new ≡ None)

abbrev pub OpensHandle : Result Table Fault → List ℕ → Options → Option Shown → Option Shown → ℕ → Type 0
OpensHandle read cuts options None new code = OpensUnder (are_sound options) read cuts options.limit new code
OpensHandle read cuts options (Some h) new code = (code ≡ MISUSE) × (new ≡ Some h)

-- ---- sessions

abbrev pub Enrols : SoloState → Shown → Shown → ℕ → Type 0
Enrols s old new code =
    ((code ≡ OK) × (new ≡ record old { engine = Some (record s { sessions = s.sessions + 1 }) }))
    ⊎ ((e : Refusal) × RefusesSession s e × (code ≡ code_of e) × (new ≡ old))

abbrev pub EnrolsIn : Shown → Shown → ℕ → Type 0
EnrolsIn old new code = OnEngine Enrols old new code

abbrev pub EnrolsHandle : Option Shown → Option Shown → ℕ → Type 0
EnrolsHandle old new code = OnHandle EnrolsIn old new code

-- the number of a session that was opened, or 0
abbrev pub number_told : Option SoloState → ℕ → ℕ
number_told None code = 0
number_told (Some s) code = if code == OK then s.sessions + 1 else 0

-- ---- the history

-- the bytes of the history so far, which is legal; or there was no memory for them
abbrev pub SpellsHistory : SoloState → Result (Vec ℕ) ℕ → Type 0
SpellsHistory s (Ok text) = (text.items ≡ record_text s.history) × IsLegal s.history
SpellsHistory s (Err code) = code ≡ code_of NoMemory

-- the text is these bytes
abbrev pub TellsHistory : SoloState → Shown → Shown → ℕ → Type 0
TellsHistory s old new code =
    ((code ≡ OK) × (new ≡ record old { text = record_text s.history }) × IsLegal s.history)
    ⊎ ((code ≡ code_of NoMemory) × (new ≡ old))

abbrev pub KeepsHistoryIn : Shown → Shown → ℕ → Type 0
KeepsHistoryIn old new code = OnEngine TellsHistory old new code

abbrev pub KeepsHistory : Option Shown → Option Shown → ℕ → Type 0
KeepsHistory old new code = OnHandle KeepsHistoryIn old new code

-- ---- the end

-- the engine ended: the text is that of its history, which is legal and has no open entry; or there was no memory for it
abbrev pub Closes : SoloState → Shown → Shown → ℕ → Type 0
Closes s old new code =
    ((code ≡ OK) × (new ≡ record old { engine = None; text = record_text s.history; kept = None })
    × IsLegal s.history × (none_open s.history.entries ≡ true))
    ⊎ ((code ≡ code_of NoMemory) × (new ≡ record old { engine = None; kept = None }))

abbrev pub ClosesIn : Shown → Shown → ℕ → Type 0
ClosesIn old new code = OnEngine Closes old new code

abbrev pub ClosesHandle : Option Shown → Option Shown → ℕ → Type 0
ClosesHandle old new code = OnHandle ClosesIn old new code
