-- What is left to come of a text that is read under a header.
use Rattle.std.specs.Io.KnownBytes.{Keeps, ReadConsumes, prepend_known}
use Rattle.std.specs.Prelude.{◌≡◌, ◌++◌, ℕ, List, [], true, Option, Some, None, Result, if◌then◌else◌, option_map}
use Rattle.sw_headers.specs.declared.header.Header.{Header}
use Rattle.sw_headers.specs.declared.source.Headed.{Headed}
use Rattle.sw_headers.specs.declared.source.Under.{Under}
use Rattle.sw_headers.specs.Steps.{by, goes_by, rewritten, rewritten_from, waiting}

-- what goes on of the rest of a text of which this was not yet read: that as it is, or all that was not yet taken in
abbrev pub going_on_of : Under → List ℕ → List ℕ
going_on_of u text =
    if goes_by u.rewriter.header.keeps.items u.rewriter.place then text
    else by rewritten_from u.rewriter (u.block.items ++ text)

-- what waits, and then, where the text is not over, what goes on of its rest
abbrev pub left_under : Under → List ℕ → List ℕ
left_under u text = waiting u.rewriter ++ (if u.is_over then [] else going_on_of u text)

-- the same, where it is known what was not yet read
abbrev pub known_under : Under → Option (List ℕ) → Option (List ℕ)
known_under u known = option_map (left_under u) known

abbrev pub known_by : Option Under → Option (List ℕ) → Option (List ℕ)
known_by None known = known
known_by (Some u) known = known_under u known

-- what is left to come of a reader, where the one behind it tells what it has left
abbrev pub headed_left : {R : Type 0} → (R → Option (List ℕ)) → Headed R → Option (List ℕ)
headed_left remaining s = known_by s.under (remaining s.source)

-- what goes on of a text that is known: of one under a header its bytes are those of `text_under`
abbrev pub headed : Option Header → Option (List ℕ) → Option (List ℕ)
headed None known = known
headed (Some h) known = option_map (rewritten h.record.items h.keeps.items) known

-- a block was taken in, or is still there: all is left that was; no block ends the text
abbrev pub TakesBlock : Under → Under → Type 0
TakesBlock old new = (text : List ℕ) → (old.block.items ≡ [] → text ≡ []) → left_under new text ≡ left_under old text

-- a block was taken in, and none is left; where there was none, the text is over
abbrev pub GetsOn : Under → Under → Type 0
GetsOn old new = (new.block.items ≡ []) × (old.block.items ≡ [] → new.is_over ≡ true)

-- a block and what is known to be left behind it, together, are as they were
abbrev pub KeepsBoth : List ℕ → Option (List ℕ) → List ℕ → Option (List ℕ) → Type 0
KeepsBoth old known new later = Keeps (prepend_known old known) (prepend_known new later)

-- what was read are the next bytes of what was left to come under the header
abbrev pub ReadsUnder : {E : Type 0} → Under → Option (List ℕ) → Under → Option (List ℕ) → Result ℕ E → List ℕ → Type 0
ReadsUnder old known new later told read = ReadConsumes (known_under old known) (known_under new later) told read
