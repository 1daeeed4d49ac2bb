-- The areas of a head, asked one after the other.
use Rattle.std.specs.Prelude.{◌≡◌, ◌≢◌, ◌<◌, ◌*◌, ℕ, ℤ, Bool, List, Result, Err, min, [], ◌∷◌, if◌then◌else◌, true, false, filter, get_or, length, map, All}
use Rattle.sw_query.specs.declared.query.Query.{Query}
use Rattle.sw_query.specs.declared.reply.Reply.{Reply}
use Rattle.sw_table.specs.declared.row.Row.{Row}
use Rattle.sw_table.specs.declared.row.Update.{Update}
use Rattle.sw_query.specs.Scan.{answer, answer_over}
use Rattle.sw_table.specs.Updates.{rows_of}
use Rattle.sw_query.specs.declared.refusal.Refusal.{Refusal}
use Rattle.sw_query.specs.declared.refusal.Refusal.TheVariants.{Short}
use Rattle.sw_set.specs.declared.area.ready.Ready.{Ready}
use Rattle.sw_set.specs.Needs.{head_in, needed}
use Rattle.sw_set.specs.Merged.{StandsForSame}
use Rattle.sw_set.specs.Prepared.{IsPreparedFor, IsSameButBoxes, is_touched}
use Rattle.sw_set.specs.Resting.{IsAtRest}
use Rattle.sw_set.specs.Shelf.{AreaState, rows_in}
use Rattle.sw_chunks.specs.Cleared.{AreEach}
use Rattle.sw_chunks.specs.Cuts.{Interval}
use Rattle.sw_chunks.specs.Heads.{AreAreasOf, IsRanged, StandsFor, meets_interval, part_of}
use Rattle.sw_chunks.specs.Joined.{JoinFits, joined}

-- the replies over the parts that a query touches, from the lowest
abbrev pub part_replies : ℕ → List Row → Query → List Interval → List Reply
part_replies a rows q is = map (λ i. answer (part_of a rows i) q) (filter (meets_interval q) is)

-- a reply, with that of one area more if the query touches it
abbrev pub with_area : Query → Reply → AreaState → Reply
with_area q first x = if is_touched x q then joined q.want first (answer (rows_in x) q) else first

-- the two fit, where the query touches the area
abbrev pub AreaFits : Query → Reply → AreaState → Type 0
AreaFits q first x = is_touched x q ≡ true → JoinFits q.want first (answer (rows_in x) q)

-- one area after the other
abbrev pub AreasFit : Query → Reply → List AreaState → Type 0
AreasFit q first [] = Unit {0}
AreasFit q first (x ∷ xs) = AreaFits q first x × AreasFit q (with_area q first x) xs

-- a reply, with those of areas more
abbrev pub with_all : Query → Reply → List AreaState → Reply
with_all q first [] = first
with_all q first (x ∷ xs) = with_all q (with_area q first x) xs

-- the replies of these areas together
abbrev pub with_each : Query → List AreaState → Reply
with_each q xs = with_all q (answer_over [] q.want) xs

-- an area that a query does not touch does not scan
abbrev pub ScansIfTouched : Query → AreaState → Bool → Type 0
ScansIfTouched q x scanned = is_touched x q ≡ false → scanned ≡ false

-- an area that a query touches is ready for it as it stands
abbrev pub RestsIfTouched : Query → AreaState → Type 0
RestsIfTouched q x = is_touched x q ≡ true → IsAtRest q x

-- each of these areas is
abbrev pub AreAtRest : Query → List AreaState → Type 0
AreAtRest q xs = All (RestsIfTouched q) xs

-- an area is prepared for a query, and the query's bounds stand in ranges of its tape
abbrev pub IsReadyFor : Query → AreaState → Ready → Type 0
IsReadyFor q x r = IsPreparedFor q x r.from r.upto × IsRanged q x

-- the area at a place stands for the same rows, and of the others maps may have been cleared
pub record IsOneAsked (k : ℕ) (xs ys : List AreaState) : Type 0 where
  pub many : length ys ≡ length xs
  pub here : (d e : AreaState) → StandsForSame (get_or xs k d) (get_or ys k e)
  pub others : (j : ℕ) (d e : AreaState) → j < length xs → j ≢ k → IsSameButBoxes (get_or xs j d) (get_or ys j e)

-- the areas of a head, asked one after the other, give the answer over all rows that its updates leave
abbrev pub AreasAnswer : Type 0
AreasAnswer =
    (us : List Update) (a : ℕ) (cuts : List ℤ) (xs : List AreaState) (q : Query)
    → AreAreasOf a cuts xs → StandsFor us a cuts xs → head_in q.conds ≡ a
    → with_each q xs ≡ answer (rows_of us) q

-- areas that stand for the same rows stand for the same updates
abbrev pub SameStand : Type 0
SameStand =
    (us : List Update) (a : ℕ) (cuts : List ℤ) (xs ys : List AreaState)
    → AreEach StandsForSame xs ys → AreAreasOf a cuts xs → StandsFor us a cuts xs
    → AreAreasOf a cuts ys × StandsFor us a cuts ys

-- the cells that other areas are asked for where an area is short: what was wanted, for each map that the query needs
abbrev pub cells_short : Result Ready Refusal → ℕ → Query → ℕ
cells_short (Err (Short used want capacity)) a q = min (want * length (needed a q)) 18446744073709551615
cells_short told a q = 0
