use Rattle.std.proofs.Common.{◌≡◌, ℕ, ◌≤◌, codes, length, Some}
use Rattle.json.specs.Json.{members, value}
use Rattle.serde_json.specs.Data.{Members, no_members}
use Rattle.serde_json.specs.Read.{converted, of_members}
use Rattle.serde_json.specs.View.{members_view}
use Rattle.sw_histories.specs.Outlines.{Stands, after_members, outline_of}
use Rattle.sw_histories.proofs.reading.outline.outline_members.Given as goal

abbrev pub invariant-members : goal.invariant-members
invariant-members l =
    (n : ℕ) × (all : Members) × (length l.reader ≤ n)
    × (converted (λ ms. of_members ms no_members) (members (value 126) (length l.initial.reader) l.initial.reader) ≡ converted (λ ms. of_members ms all) (members (value 126) n l.reader))
    × (length l.reader ≤ length l.initial.reader)
    × (members_view l.found.entries ≡ outline_of all)
    × (after_members l.place l.initial.reader ≡ Some l.reader)
    × Stands (codes "entries") l.entries all l.initial.reader
    × Stands (codes "rows") l.rows all l.initial.reader

abbrev pub decreases-members : goal.decreases-members
decreases-members l = length l.reader
