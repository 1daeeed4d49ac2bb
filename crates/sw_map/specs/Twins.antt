-- Two maps whose heads are the same, in the same pieces: when they may replay an entry together, and what a cut makes of both.
use Rattle.std.specs.Prelude.{◌≡◌, ◌<◌, ◌≤◌, ◌+◌, ℕ, false, vec_len, vec_capacity}
use Rattle.std.specs.Global.{Vec}
use Rattle.sw_query.specs.declared.bound.Bound.{Bound}
use Rattle.sw_table.specs.declared.row.Row.{Row}
use Rattle.sw_kernel.specs.declared.mark.Mark.{Mark}
use Rattle.sw_kernel.specs.Flat.{InOrder, KeepsRoom, Pairs}
use Rattle.sw_kernel.specs.Partition.{goes_left, head_of}
use Rattle.sw_kernel.specs.Replay.{Step, shown}
use Rattle.sw_kernel.specs.Tapes.{IsRising}
use Rattle.sw_tape.specs.declared.tape.TheConstants.{MAX_ENTRIES}
use Rattle.sw_map.specs.declared.lists.Lists.{Lists}
use Rattle.sw_map.specs.Held.{Held, MayReplay, after, pairs_in}
use Rattle.sw_map.specs.Pieces.{AreCut, bounds_of, count_between, parted, zipped}

-- a map that may replay this entry next, and has room for it
pub record MayStep (e : Step Row) (m : Held) : Type 0 where
  pub begun : m.is_blank ≡ false
  pub early : m.cursor < MAX_ENTRIES
  pub next : MayReplay m e
  pub room : pairs_in (after e m) ≤ m.cells

-- pairs whose heads are the same, in the same pieces
abbrev pub HaveSameHeads : Pairs → Pairs → Type 0
HaveSameHeads a b = shown head_of a ≡ shown head_of b

-- two lists of one length, and marks whose places never fall and whose bounds rise
pub record AreCuttable (lists : Lists) (marks : Vec Mark) : Type 0 where
  pub lengths : vec_len lists.head ≡ vec_len lists.tail
  pub order : InOrder 0 (vec_len lists.head) marks.items
  pub rising : IsRising (bounds_of marks.items)

-- lists with the same heads, and the same marks
pub record AreTwins (lists : Lists) (marks : Vec Mark) (twin : Lists) (twin_marks : Vec Mark) : Type 0 where
  pub same_heads : twin.head.items ≡ lists.head.items
  pub same_marks : twin_marks.items ≡ marks.items

-- one more mark may come
abbrev pub HasRoomForMark : Vec Mark → Type 0
HasRoomForMark marks = vec_len marks < vec_capacity marks

-- the lists are as long as they were, and so is their memory
pub record IsSameSize (old new : Lists) : Type 0 where
  pub heads : vec_len new.head ≡ vec_len old.head
  pub tails : vec_len new.tail ≡ vec_len old.tail
  pub head_room : KeepsRoom old.head new.head
  pub tail_room : KeepsRoom old.tail new.tail

-- the pairs from s up to e are parted, and those that do not go left begin at `at`
pub record HasParted (b : Bound) (s e : ℕ) (old new : Lists) (at : ℕ) : Type 0 where
  pub pairs : zipped new.head new.tail ≡ parted (goes_left head_of b) s e (zipped old.head old.tail)
  pub begins : at ≡ s + count_between (goes_left head_of b) s e (zipped old.head old.tail)

-- lists and marks are what f makes of their pieces, with one mark more at most, and may be cut again
pub record HasCut (f : Pairs → Pairs) (old : Lists) (old_marks : Vec Mark) (new : Lists) (new_marks : Vec Mark) : Type 0 where
  pub cut : AreCut f old.head old.tail old_marks new.head new.tail new_marks
  pub size : IsSameSize old new
  pub more : vec_len new_marks ≤ vec_len old_marks + 1
  pub room : vec_capacity new_marks ≡ vec_capacity old_marks
