-- What goes on of a text, byte by byte.
use Rattle.std.specs.Prelude.{◌≡◌, ◌≤◌, ◌+◌, ◌-◌, ◌^◌, ◌++◌, ◌==◌, ◌&&◌, ◌||◌, ℕ, Bool, true, false, not, List, [], ◌∷◌, get_or, if◌then◌else◌, length, min, nat_lt, replicate, take, drop}
use Rattle.std.specs.List.{list_all}
use Rattle.sw_headers.specs.declared.rewriting.Spot.{Spot}
use Rattle.sw_headers.specs.declared.rewriting.Spot.TheVariants.{Before, Field, Plain, Quoted, Closed}
use Rattle.sw_headers.specs.declared.rewriting.Place.{Place}
use Rattle.sw_headers.specs.declared.rewriting.Rewriter.{Rewriter}
use Rattle.sw_headers.specs.Under.{Fields, is_named, kept_in}

-- a header with one more word, behind a comma where it has one
abbrev pub joined_on : Bool → List ℕ → List ℕ → List ℕ
joined_on has_kept header word =
    if is_named word then (if has_kept then header ++ 44 ∷ word else header ++ word) else header

-- the same of some words, one after another
abbrev pub joined_after : Bool → List ℕ → Fields → List ℕ
joined_after has_kept header [] = header
joined_after has_kept header (w ∷ ws) = joined_after (has_kept || is_named w) (joined_on has_kept header w) ws

-- the same of one that has no word yet
abbrev pub joined : List ℕ → Fields → List ℕ
joined header ws = joined_after false header ws

abbrev pub is_line_end : ℕ → Bool
is_line_end c = (c == 13) || (c == 10)

-- where the byte after one in no quotes stands
abbrev pub outside : ℕ → Spot
outside c = if c == 44 then Field else if is_line_end c then Before else Plain

-- the same after the first byte of a field
abbrev pub opened : ℕ → Spot
opened c = if c == 34 then Quoted else outside c

-- where the byte after one at a spot stands
abbrev pub next_spot : Spot → ℕ → Spot
next_spot Before c = if is_line_end c then Before else opened c
next_spot Field c = opened c
next_spot Plain c = outside c
next_spot Quoted c = if c == 34 then Closed else Quoted
next_spot Closed c = if c == 34 then Quoted else outside c

-- whether the field at a place of a record is kept
abbrev pub keeps_at : List Bool → ℕ → Bool
keeps_at keeps field = get_or keeps field true

-- the same of the field at hand; none of the first record is
abbrev pub is_kept : List Bool → Place → Bool
is_kept keeps p = not p.is_first && keeps_at keeps p.field

-- a step leaves a place, and some bytes go on
abbrev pub Step : Type 0
Step = Place × List ℕ

-- a field begins; behind another that is kept with a comma
abbrev pub begun : List Bool → Place → Step
begun keeps p =
    if is_kept keeps p
    then if p.has_given then (record p { has_bytes = true }, 44 ∷ []) else (record p { has_given = true }, [])
    else (p, [])

-- line ends that were passed by, and perhaps one more
abbrev pub missed_after : ℕ → ℕ → ℕ
missed_after missed c = if c == 10 then min (missed + 1) (2 ^ 64 - 1) else missed

abbrev pub missed_in : ℕ → List ℕ → ℕ
missed_in missed [] = missed
missed_in missed (c ∷ cs) = missed_in (missed_after missed c) cs

-- a byte of the field at hand goes on or is passed by
abbrev pub copied : List Bool → Place → ℕ → Step
copied keeps p c =
    if is_kept keeps p then (record p { has_bytes = true }, c ∷ [])
    else (record p { missed = missed_after p.missed c }, [])

-- the place behind a field
abbrev pub next_field : List Bool → ℕ → ℕ
next_field keeps field = if nat_lt field (length keeps) then field + 1 else field

-- how many commas follow so many fields that are kept, where a record is too short
abbrev pub lacking : ℕ → ℕ → ℕ
lacking given all = if given == 0 then all else if given == all then 1 else 0

-- how many commas follow a record whose last field is at a place
abbrev pub commas : List Bool → ℕ → ℕ
commas keeps field =
    if nat_lt (field + 1) (length keeps) then lacking (kept_in (take (field + 1) keeps)) (kept_in keeps) else 0

-- what goes on at the end of a record, before it is seen whether the record has bytes
abbrev pub ending : List ℕ → List Bool → Place → List ℕ
ending header keeps p = if p.is_first then header else replicate (commas keeps p.field) 44

-- some bytes, or an empty field in quotes where nothing of the record went on
abbrev pub or_quotes : Bool → List ℕ → List ℕ
or_quotes true bytes = bytes
or_quotes false [] = 34 ∷ 34 ∷ []
or_quotes false (b ∷ bytes) = b ∷ bytes

abbrev pub closing : List ℕ → List Bool → Place → List ℕ
closing header keeps p = or_quotes p.has_bytes (ending header keeps p)

-- the same of the first record, and of another one
abbrev pub closing_first : List ℕ → List Bool → Place → List ℕ
closing_first header keeps p = or_quotes p.has_bytes header

abbrev pub closing_later : List ℕ → List Bool → Place → List ℕ
closing_later header keeps p = or_quotes p.has_bytes (replicate (commas keeps p.field) 44)

-- the place before a record that is not the first
abbrev pub fresh : Place → Place
fresh p = record p {
  spot = Before;
  is_first = false;
  field = 0;
  has_given = false;
  has_bytes = false;
  missed = 0;
}

-- a byte that stands in a record, with the spot after it
abbrev pub inside : List ℕ → List Bool → Place → Spot → ℕ → Step
inside header keeps p Before c = (fresh p, closing header keeps p ++ (c ∷ replicate p.missed 10))
inside header keeps p Field c = begun keeps (record p { spot = Field; field = next_field keeps p.field })
inside header keeps p Plain c = copied keeps (record p { spot = Plain }) c
inside header keeps p Quoted c = copied keeps (record p { spot = Quoted }) c
inside header keeps p Closed c = copied keeps (record p { spot = Closed }) c

-- a byte that stands before a record, with the spot after it; a record begins with a field
abbrev pub entered : List ℕ → List Bool → Place → Spot → ℕ → Step
entered header keeps p Before c = (p, c ∷ [])
entered header keeps p s c = inside header keeps (record p { has_given = is_kept keeps p }) s c

-- a byte behind a byte order mark
abbrev pub stepped_at : List ℕ → List Bool → Place → Spot → ℕ → Step
stepped_at header keeps p Before c = entered header keeps p (next_spot Before c) c
stepped_at header keeps p s c = inside header keeps p (next_spot s c) c

abbrev pub stepped : List ℕ → List Bool → Place → ℕ → Step
stepped header keeps p c = stepped_at header keeps p p.spot c

-- the bytes of a byte order mark
abbrev pub mark : List ℕ
mark = 239 ∷ 187 ∷ 191 ∷ []

-- the next byte can be no part of a byte order mark: a part that went by begins the first record
abbrev pub unmarked : Place → Place
unmarked p = record p { marked = 3; spot = if nat_lt 0 p.marked && nat_lt p.marked 3 then Plain else p.spot }

abbrev pub is_mark : Place → ℕ → Bool
is_mark p c = nat_lt p.marked 3 && (c == get_or mark p.marked 0)

-- a byte of the text
abbrev pub taken : List ℕ → List Bool → Place → ℕ → Step
taken header keeps p c =
    if is_mark p c then (record p { marked = p.marked + 1 }, []) else stepped header keeps (unmarked p) c

-- the bytes of a part of a text, one after another
abbrev pub place_after : List ℕ → List Bool → Place → List ℕ → Place
place_after header keeps p [] = p
place_after header keeps p (c ∷ cs) = place_after header keeps (taken header keeps p c).0 cs

abbrev pub going_on : List ℕ → List Bool → Place → List ℕ → List ℕ
going_on header keeps p [] = []
going_on header keeps p (c ∷ cs) =
    (taken header keeps p c).1 ++ going_on header keeps (taken header keeps p c).0 cs

-- both
abbrev pub fed : List ℕ → List Bool → Place → List ℕ → Step
fed header keeps p text = (place_after header keeps p text, going_on header keeps p text)

-- bytes of the field at hand go on or are passed by
abbrev pub copied_run : List Bool → Place → List ℕ → Step
copied_run keeps p run =
    if is_kept keeps p then (record p { has_bytes = true }, run)
    else (record p { missed = missed_in p.missed run }, [])

-- whether what is left of a text goes on as it is: no column is passed by, and the first record is over
abbrev pub goes_by : List Bool → Place → Bool
goes_by keeps p = not p.is_first && list_all (λ k. k) keeps

-- what goes on at the end of the text, perhaps in the middle of a record: quotes that are open are closed, but in one that
-- goes on as it is
abbrev pub finished_at : List ℕ → List Bool → Place → Spot → List ℕ
finished_at header keeps p Before = []
finished_at header keeps p Quoted =
    if goes_by keeps p then [] else (copied keeps p 34).1 ++ closing header keeps (copied keeps p 34).0
finished_at header keeps p s = closing header keeps p

abbrev pub finished : List ℕ → List Bool → Place → List ℕ
finished header keeps p = finished_at header keeps (unmarked p) (unmarked p).spot

-- before a text
abbrev pub start : Place
start = record {
  spot = Before;
  marked = 0;
  is_first = true;
  field = 0;
  has_given = false;
  has_bytes = false;
  missed = 0;
}

-- what goes on of the rest of a text, from a place in it on
abbrev pub rewritten_from : List ℕ → List Bool → Place → List ℕ → List ℕ
rewritten_from header keeps p text = going_on header keeps p text ++ finished header keeps (place_after header keeps p text)

-- the same of a whole text
abbrev pub rewritten : List ℕ → List Bool → List ℕ → List ℕ
rewritten header keeps text = rewritten_from header keeps start text

-- bytes that belong to the field at hand, and change nothing but that they went on or were passed by
abbrev pub stays : Spot → ℕ → Bool
stays Plain c = not ((c == 44) || is_line_end c)
stays Quoted c = not (c == 34)
stays Before c = false
stays Field c = false
stays Closed c = false

-- what one of the functions here gives of a header, its columns and a place, by a rewriter
abbrev pub by : {A : Type 0} → (List ℕ → List Bool → Place → A) → Rewriter → A
by f r = f r.header.record.items r.header.keeps.items r.place

-- a step was made: the header is the same, what goes on of it stands behind what went on before, and no more is given of that
abbrev pub Goes : Rewriter → Rewriter → Step → Type 0
Goes old new s =
    (new.header ≡ old.header)
    × (new.place ≡ s.0)
    × (new.out.items ≡ old.out.items ++ s.1)
    × (new.handed ≡ old.handed)

-- what went on and was not yet given
abbrev pub waiting : Rewriter → List ℕ
waiting r = drop r.handed r.out.items

-- bytes were given that waited, from the first on, and the others still wait; of what goes on later none was given
pub record Gives (old new : Rewriter) (given : List ℕ) : Type 0 where
  pub header : new.header ≡ old.header
  pub place : new.place ≡ old.place
  pub bytes : given ++ waiting new ≡ waiting old
  pub later : new.handed ≤ length new.out.items

-- a beginning of some bytes was taken in, and these are left of them
abbrev pub TakesIn : Rewriter → Rewriter → List ℕ → List ℕ → Type 0
TakesIn old new text left =
    (new.header ≡ old.header)
    × (by place_after old text ≡ by place_after (record new { header = old.header }) left)
    × (old.out.items ++ by going_on old text ≡ new.out.items ++ by going_on (record new { header = old.header }) left)
    × (new.handed ≡ old.handed)
