-- Why calls are refused.
use Rattle.std.specs.Prelude.{◌≡◌, ◌+◌, ◌<◌, List, length, ℕ}
use Rattle.sw_rows.specs.Gives.{Raised}
use Rattle.sw_query.specs.Scan.{TakesMemory}
use Rattle.sw_query.specs.declared.query.Want.{Want}
use Rattle.sw_table.specs.declared.row.Row.{Row}
use Rattle.sw_table.specs.declared.row.Update.{Update}
use Rattle.sw_query.specs.declared.refusal.Refusal.{Refusal}
use Rattle.sw_query.specs.declared.refusal.Refusal.TheVariants as refusal
use Rattle.sw_versions.specs.Known.{Known}
use Rattle.sw_versions.specs.declared.viewer.TheConstants.{MOST_VIEWERS}

-- why no viewer is opened where so many were ever opened: there is no memory for the copies that the first one has
-- made, or no place for a reader
abbrev pub RefusesViewer : ℕ → Refusal → Type 0
RefusesViewer viewers refusal.NoMemory = viewers ≡ 0
RefusesViewer viewers (refusal.TooMany limit) = limit ≡ MOST_VIEWERS
RefusesViewer viewers other = ⊥

-- the copy that a viewer came to lacks updates: of its own list, or of one that the viewer saw or was told of
abbrev pub IsBehind : Refusal → Type 0
IsBehind (refusal.Ahead s t) = t < s
IsBehind other = ⊥

-- why a viewer answers no query over the copy that it came to: there is no memory for a list of rows, or the copy lacks
-- updates
abbrev pub RefusesLook : Want → Refusal → Type 0
RefusesLook want refusal.NoMemory = TakesMemory want
RefusesLook want (refusal.Ahead s t) = t < s
RefusesLook want other = ⊥

-- Why a viewer answers no query: it could not come to the copies, which it counts; or what it came to. It has seen and
-- was told what it had.
abbrev pub RefusesAnswer : Want → Known → Known → Refusal → Type 0
RefusesAnswer want old new (refusal.TooMany limit) =
    (limit ≡ MOST_VIEWERS) × (new ≡ record old { failed = new.failed }) × Raised old.failed new.failed
RefusesAnswer want old new e = RefusesLook want e × (new ≡ old)

-- why a viewer is not met: it has seen more updates than are published, opening rows counted
abbrev pub IsAhead : List Row → List Update → List Update → Refusal → Type 0
IsAhead opening seen published (refusal.Ahead s t) =
    (s ≡ length opening + length seen) × (t ≡ length opening + length published) × (length published < length seen)
IsAhead opening seen published other = ⊥
