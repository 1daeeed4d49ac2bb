-- Texts of cuts: the reading finds the cuts that the relation relates to a text, and no others.
use Rattle.std.proofs.Common.{◌≡◌, ◌∙◌, ap, sym, refl, subst, ℕ, zero, suc, ℤ, ◌+◌, ◌<◌, ◌≤◌, inl, inr, Bool, true, false, not, cond, eqb, List, [], ◌∷◌, ◌++◌, length, take, drop, codes, All, Option, Some, None, Result, Ok, Err, position, slice_get, int_lt, nat_lt, length-append, length-drop, ext_get_or, arith, lt-ltb, ltb-true, ◌==◌}
use Rattle.std.specs.List.{AllByRecursion, list_all, slice_split}
use Rattle.std.proofs.Math.Seq.{take-append_seam}
use Rattle.std.proofs.lemmas.Bool.{and_parts}
use Rattle.std.proofs.lemmas.Bool.Decides.{Decides-eqb, nat_tests}
use Rattle.std.proofs.lemmas.List.{get_or-replicate, length-replicate}
use Rattle.std.proofs.lemmas.List.Elements.{All-append, All-cons, All-from_recursion}
use Rattle.std.proofs.lemmas.List.Quantifiers.{position-Some}
use Rattle.std.proofs.lemmas.List.Splits.{slice_split_at, slice_split_none}
use Rattle.sw_rows.proofs.Tables.CellSpelling.{all_like, cell_spelled, divided, drop_past, position_seam}
use Rattle.sw_rows.specs.Header.{Column, IsSchema, names_of}
use Rattle.sw_rows.specs.Spelling.{WritesCell}
use Rattle.sw_rows.specs.Domains.{Domain}
use Rattle.sw_rows.specs.Domains as kind
use Rattle.sw_query.specs.declared.refusal.Why.TheVariants as why
use Rattle.sw_lang.specs.declared.reading.cuts.TheConstants.{MOST_CUTS}
use Rattle.sw_lang.specs.declared.fault.Fault.{Fault}
use Rattle.sw_lang.specs.declared.fault.Fault.TheVariants.{Bad, Excess}
use Rattle.sw_lang.specs.Cuts.{AreCuts, AreEntries, Cut, CutLists, FitCuts, IsCuts, IsEntry, cuts_on, values_on}
use Rattle.sw_lang.specs.CutsReading.{cut_name, cut_split, cut_value, cut_valued, cuts_after, cuts_at, equals_at, is_divider, no_cuts, with_cut, with_room}
use Rattle.sw_lang.specs.Fits.{IsOfKind}
use Rattle.sw_lang.specs.Reading.{◌>>=◌, attr_of, word_value}
use Rattle.sw_lang.specs.Replies.{kind_at}
use Rattle.sw_lang.specs.Tokens.{is_word_byte, word}
use Rattle.sw_lang.proofs.Cutting.Lists.{AllLawful, AllWithin, Allowed, HasRoom, LawfulWith, added, added_lawful, added_length, added_on, lawful_allowed, with_new}
use Rattle.sw_lang.proofs.Cutting.Steps.{empty_text, parts_none, parts_some, some_text}
use Rattle.sw_lang.proofs.Parsing.Fits.{value_kind}
use Rattle.sw_lang.proofs.Parsing.Names.{attr_found, attr_named, attr_read, attr_within}
use Rattle.sw_lang.proofs.Printed.Cells.{number_word}
use Rattle.sw_lang.proofs.Printed.Names.{word_of}
use Rattle.sw_lang.proofs.Parsing.Relates.{bind_ok, same_ok}

-- ---- the bytes of an entry

word-divides_not : (b : ℕ) → is_word_byte b ≡ true → is_divider b ≡ false
word-divides_not b h = grind (arith, nat_tests)

word-equals_not : (b : ℕ) → is_word_byte b ≡ true → not (b == 61) ≡ true
word-equals_not b h = grind (arith, nat_tests)

none_divides : (w : List ℕ) → list_all is_word_byte w ≡ true → AllByRecursion (λ b. is_divider b ≡ false) w
none_divides [] h = tt
none_divides (b ∷ bs) h =
    let parts = and_parts (is_word_byte b) (list_all is_word_byte bs) h in
    (word-divides_not b parts.0, none_divides bs parts.1)

name_bytes : (schema : List Column) (w : List ℕ) (i : ℕ) → IsSchema schema → slice_get (names_of schema) i ≡ Some w → list_all is_word_byte w ≡ true
name_bytes schema w i ok at = (word_of w (attr_named schema w i ok at)).run.bytes

flag_bytes : (w : List ℕ) (z : ℤ) → WritesCell kind.Flag w z → list_all is_word_byte w ≡ true
flag_bytes w z (inl s) = ap (list_all is_word_byte) s.0
flag_bytes w z (inr s) = ap (list_all is_word_byte) s.0

value_bytes : (k : Domain) (w : List ℕ) (z : ℤ) → word_value k w ≡ Some z → list_all is_word_byte w ≡ true
value_bytes kind.Int w z h = (number_word 0 w z (cell_spelled kind.Int w z h)).0.bytes
value_bytes (kind.Fix places) w z h = (number_word places w z (cell_spelled (kind.Fix places) w z h)).0.bytes
value_bytes kind.Flag w z h = flag_bytes w z (cell_spelled kind.Flag w z h)
value_bytes (kind.Text texts) w z h = absurd cc

abbrev Undivided : List ℕ → Type 0
Undivided text = All (λ b. is_divider b ≡ false) text

entry_undivided : (schema : List Column) (text : List ℕ) (c : Cut) → IsSchema schema → IsEntry schema text c → Undivided text
entry_undivided schema text c ok is =
    let apart : ℕ → Type 0 = λ b. is_divider b ≡ false in
    let name : Undivided is.name = All-from_recursion (λ b. is_divider b ≡ false) is.name (none_divides is.name (name_bytes schema is.name c.0 ok is.named)) in
    let value : Undivided is.value = All-from_recursion (λ b. is_divider b ≡ false) is.value (none_divides is.value (value_bytes (kind_at schema c.0) is.value c.1 is.valued)) in
    subst Undivided (sym is.text_is) (All-append (λ b. is_divider b ≡ false) is.name (61 ∷ is.value) name (All-cons (λ b. is_divider b ≡ false) 61 is.value refl value))

-- ---- a text and its parts

abbrev PartsAre : List Column → List (List ℕ) → List Cut → Type 0
PartsAre schema [] [] = Unit {0}
PartsAre schema [] (c ∷ cs) = ⊥
PartsAre schema (p ∷ ps) [] = ⊥
PartsAre schema (p ∷ ps) (c ∷ cs) = IsEntry schema p c × PartsAre schema ps cs

-- one entry or more
abbrev SomeEntries : List Column → List ℕ → List Cut → Type 0
SomeEntries schema text cs = AreEntries schema text cs × (0 < length cs)

one_part : (schema : List Column) (text : List ℕ) (cs : List Cut) → PartsAre schema (text ∷ []) cs → SomeEntries schema text cs
one_part schema text [] h = absurd h
one_part schema text (c ∷ []) h = (h.0, omega arith)
one_part schema text (c ∷ d ∷ ds) h = absurd h.1

more_parts : (schema : List Column) (text part rest : List ℕ) (cs : List Cut) → text ≡ part ++ (codes ";" ++ rest) → PartsAre schema (part ∷ slice_split is_divider rest) cs
    → ((ds : List Cut) → PartsAre schema (slice_split is_divider rest) ds → SomeEntries schema rest ds) → SomeEntries schema text cs
more_parts schema text part rest [] e h ih = absurd h
more_parts schema text part rest (c ∷ []) e h ih = let none = (ih [] h.1).1 in absurd (omega (arith, none))
more_parts schema text part rest (c ∷ d ∷ ds) e h ih = ((part, rest, e, h.0, (ih (d ∷ ds) h.1).0), omega arith)

-- the entries of shorter texts are found
abbrev Shorter : List Column → List ℕ → Type 0
Shorter schema text = (rest : List ℕ) (ds : List Cut) → length rest < length text → PartsAre schema (slice_split is_divider rest) ds → SomeEntries schema rest ds

divided-at : (o : Option ℕ) (schema : List Column) (text : List ℕ) (cs : List Cut) → position is_divider text ≡ o → PartsAre schema (slice_split is_divider text) cs → Shorter schema text → SomeEntries schema text cs
divided-at None schema text cs e h ih = one_part schema text cs (subst (λ (ps : List (List ℕ)). PartsAre schema ps cs) (parts_none text e) h)
divided-at (Some i) schema text cs e h ih =
    let within : i < length text = (position-Some is_divider text i 0 e).0 in
    let rest : List ℕ = drop (i + 1) text in
    let shorter : length rest < length text = omega (arith, within, length-drop (i + 1) text) in
    more_parts schema text (take i text) rest cs (divided 59 text i e) (subst (λ (ps : List (List ℕ)). PartsAre schema ps cs) (parts_some text i e) h) (λ ds g. ih rest ds shorter g)

entries_found : (n : ℕ) (schema : List Column) (text : List ℕ) (cs : List Cut) → length text ≤ n → PartsAre schema (slice_split is_divider text) cs → SomeEntries schema text cs
entries_found zero schema text cs short h = divided-at (position is_divider text) schema text cs refl h (λ rest ds lt g. absurd (omega (arith, short, lt)))
entries_found (suc n) schema text cs short h = divided-at (position is_divider text) schema text cs refl h (λ rest ds lt g. entries_found n schema rest ds (omega (arith, short, lt)) g)

entries_read : (schema : List Column) (text : List ℕ) (c : Cut) (cs : List Cut) → IsSchema schema → AreEntries schema text (c ∷ cs) → PartsAre schema (slice_split is_divider text) (c ∷ cs)
entries_read schema text c [] ok is =
    subst (λ ps. PartsAre schema ps (c ∷ [])) (sym (slice_split_none is_divider text (entry_undivided schema text c ok is))) (is, tt)
entries_read schema text c (d ∷ ds) ok (entry, rest, e, is, more) =
    let split : slice_split is_divider text ≡ entry ∷ slice_split is_divider rest = ap (slice_split is_divider) e ∙ slice_split_at is_divider entry 59 rest (entry_undivided schema entry c ok is) refl in
    subst (λ ps. PartsAre schema ps (c ∷ d ∷ ds)) (sym split) (is, entries_read schema rest d ds ok more)

-- ---- one part

when_ok : {A : Type 0} (v : Bool) (x y : A) (f : Fault) → ◌≡◌ {A = Result A Fault} (cond v (Ok x) (Err f)) (Ok y) → (v ≡ true) × (x ≡ y)
when_ok true x y f e = (refl, same_ok x y e)
when_ok false x y f e = absurd cc

valued_is : (o : Option ℤ) (z : ℤ) → cut_valued o ≡ Ok z → o ≡ Some z
valued_is (Some y) z e = cc
valued_is None z e = absurd cc

-- a part that was read
record PartFound (schema : List Column) (cuts more : CutLists) (part : List ℕ) : Type 0 where
  pub cut : Cut
  pub entry : IsEntry schema part cut
  pub room : HasRoom cuts cut
  pub made : more ≡ with_new cuts cut

named_part : (schema : List Column) (cuts : CutLists) (w : List ℕ) (a : ℕ) → cut_name schema cuts w ≡ Ok a → (slice_get (names_of schema) a ≡ Some w) × (length (cuts_on cuts a) < MOST_CUTS)
unfolding cut_name with_room
named_part schema cuts w a e =
    let b = bind_ok (attr_of schema why.Cuts w) (with_room cuts) a e in
    let r = when_ok (nat_lt (length (cuts_on cuts b.0)) MOST_CUTS) b.0 a (Excess MOST_CUTS) b.2 in
    let same : b.0 ≡ a = r.1 in
    (attr_found schema why.Cuts w a (b.1 ∙ ap (λ (i : ℕ). Ok i) same), subst (λ (i : ℕ). length (cuts_on cuts i) < MOST_CUTS) same (ltb-true (length (cuts_on cuts b.0)) MOST_CUTS r.0))

value_part : (k : Domain) (part : List ℕ) (i : ℕ) (z : ℤ) → cut_value k part (Some i) ≡ Ok z → word_value k (drop (i + 1) part) ≡ Some z
unfolding cut_value
value_part k part i z e = valued_is (word_value k (drop (i + 1) part)) z e

no_value : (k : Domain) (part : List ℕ) (z : ℤ) → cut_value k part None ≡ Ok z → ⊥
unfolding cut_value
no_value k part z e = absurd cc

new_part : (cuts more : CutLists) (a : ℕ) (z : ℤ) → with_cut cuts a z ≡ Ok more → (list_all (λ y. int_lt y z) (cuts_on cuts a) ≡ true) × (with_new cuts (a, z) ≡ more)
unfolding with_cut
new_part cuts more a z e = when_ok (list_all (λ y. int_lt y z) (cuts_on cuts a)) (with_new cuts (a, z)) more (Bad why.Cuts) e

part-at : (o : Option ℕ) (schema : List Column) (cuts more : CutLists) (part : List ℕ) → equals_at part ≡ o → cut_split schema cuts part o ≡ Ok more → PartFound schema cuts more part
unfolding cut_split
part-at None schema cuts more part is e =
    let n = bind_ok (cut_name schema cuts part) (λ a. cut_value (kind_at schema a) part None >>= λ z. with_cut cuts a z) more e in
    let v = bind_ok (cut_value (kind_at schema n.0) part None) (λ z. with_cut cuts n.0 z) more n.2 in
    absurd (no_value (kind_at schema n.0) part v.0 v.1)
part-at (Some i) schema cuts more part is e =
    let n = bind_ok (cut_name schema cuts (take i part)) (λ a. cut_value (kind_at schema a) part (Some i) >>= λ z. with_cut cuts a z) more e in
    let v = bind_ok (cut_value (kind_at schema n.0) part (Some i)) (λ z. with_cut cuts n.0 z) more n.2 in
    let name = named_part schema cuts (take i part) n.0 n.1 in
    let new = new_part cuts more n.0 v.0 v.2 in
    record {
      cut = (n.0, v.0);
      entry = record { name = take i part; value = drop (i + 1) part; text_is = divided 61 part i is; named = name.0; valued = value_part (kind_at schema n.0) part i v.0 v.1 };
      room = (name.1, new.0);
      made = sym new.1;
    }

name_read : (schema : List Column) (cuts : CutLists) (w : List ℕ) (a : ℕ) → IsSchema schema → slice_get (names_of schema) a ≡ Some w → length (cuts_on cuts a) < MOST_CUTS → cut_name schema cuts w ≡ Ok a
unfolding cut_name with_room
name_read schema cuts w a ok named room =
    let fits : nat_lt (length (cuts_on cuts a)) MOST_CUTS ≡ true = lt-ltb (length (cuts_on cuts a)) MOST_CUTS room in
    ap (λ r. r >>= with_room cuts) (attr_read schema why.Cuts w a ok named) ∙ rw fits refl

value_read : (k : Domain) (part : List ℕ) (i : ℕ) (z : ℤ) → word_value k (drop (i + 1) part) ≡ Some z → cut_value k part (Some i) ≡ Ok z
unfolding cut_value
value_read k part i z e = ap cut_valued e

new_read : (cuts : CutLists) (a : ℕ) (z : ℤ) → list_all (λ y. int_lt y z) (cuts_on cuts a) ≡ true → with_cut cuts a z ≡ Ok (with_new cuts (a, z))
unfolding with_cut
new_read cuts a z e = ap (λ b. cond b (Ok (with_new cuts (a, z))) (Err (Bad why.Cuts))) e

part_read : (schema : List Column) (cuts : CutLists) (part : List ℕ) (c : Cut) → IsSchema schema → IsEntry schema part c → HasRoom cuts c → cut_split schema cuts part (equals_at part) ≡ Ok (with_new cuts c)
unfolding cut_split
part_read schema cuts part c ok is room =
    let n : ℕ = length is.name in
    let plain = all_like is_word_byte (λ b. not (b == 61)) word-equals_not is.name (name_bytes schema is.name c.0 ok is.named) in
    let place : equals_at part ≡ Some n = ap equals_at is.text_is ∙ position_seam (λ b. b == 61) is.name 61 is.value plain refl in
    let front : take n part ≡ is.name = ap (take n) is.text_is ∙ take-append_seam is.name (61 ∷ is.value) in
    let back : drop (n + 1) part ≡ is.value = ap (drop (n + 1)) is.text_is ∙ drop_past is.name 61 is.value in
    let k = kind_at schema c.0 in
    ap (cut_split schema cuts part) place
    ∙ ap (λ r. r >>= λ a. cut_value (kind_at schema a) part (Some n) >>= λ z. with_cut cuts a z) (ap (cut_name schema cuts) front ∙ name_read schema cuts is.name c.0 ok is.named room.0)
    ∙ ap (λ r. r >>= λ z. with_cut cuts c.0 z) (value_read k part n c.1 (ap (word_value k) back ∙ is.valued))
    ∙ new_read cuts c.0 c.1 room.1

-- ---- all parts

record PartsFound (schema : List Column) (cuts all : CutLists) (parts : List (List ℕ)) : Type 0 where
  pub found : List Cut
  pub entries : PartsAre schema parts found
  pub allowed : Allowed cuts found
  pub made : all ≡ added cuts found

parts_found : (schema : List Column) (cuts all : CutLists) (parts : List (List ℕ)) → cuts_after schema cuts parts ≡ Ok all → PartsFound schema cuts all parts
parts_found schema cuts all [] e = record { found = []; entries = tt; allowed = tt; made = sym (same_ok cuts all e) }
parts_found schema cuts all (p ∷ ps) e =
    let b = bind_ok (cut_split schema cuts p (equals_at p)) (λ more. cuts_after schema more ps) all e in
    let f = part-at (equals_at p) schema cuts b.0 p refl b.1 in
    let m = parts_found schema b.0 all ps b.2 in
    record {
      found = f.cut ∷ m.found;
      entries = (f.entry, m.entries);
      allowed = (f.room, subst (λ (w : CutLists). Allowed w m.found) f.made m.allowed);
      made = m.made ∙ ap (λ (w : CutLists). added w m.found) f.made;
    }

parts_read : (schema : List Column) (cuts : CutLists) (parts : List (List ℕ)) (cs : List Cut) → IsSchema schema → PartsAre schema parts cs → Allowed cuts cs → cuts_after schema cuts parts ≡ Ok (added cuts cs)
parts_read schema cuts [] [] ok h l = refl
parts_read schema cuts [] (c ∷ cs) ok h l = absurd h
parts_read schema cuts (p ∷ ps) [] ok h l = absurd h
parts_read schema cuts (p ∷ ps) (c ∷ cs) ok h l =
    ap (λ r. r >>= λ more. cuts_after schema more ps) (part_read schema cuts p c ok h.0 l.0) ∙ parts_read schema (with_new cuts c) ps cs ok h.1 l.1

-- ---- all of a text

empty_cuts : AreCuts []
empty_cuts = record { rise = refl; few = omega arith }

none_long : (schema : List Column) → length (no_cuts schema) ≡ length schema
none_long schema = length-replicate (length schema) []

none_on : (schema : List Column) (a : ℕ) → a < length schema → cuts_on (no_cuts schema) a ≡ []
none_on schema a h = get_or-replicate (length schema) a [] [] h

none_lawful : (schema : List Column) → AllLawful (length schema) (no_cuts schema)
none_lawful schema = λ a h. subst AreCuts (sym (none_on schema a h)) empty_cuts

all_within : (schema : List Column) (parts : List (List ℕ)) (cs : List Cut) → PartsAre schema parts cs → AllWithin (length schema) cs
all_within schema [] [] h = tt
all_within schema [] (c ∷ cs) h = absurd h
all_within schema (p ∷ ps) [] h = absurd h
all_within schema (p ∷ ps) (c ∷ cs) h = (attr_within schema h.0.name c.0 h.0.named, all_within schema ps cs h.1)

values_of : (schema : List Column) (cs : List Cut) (a : ℕ) → AllWithin (length schema) cs → a < length schema → cuts_on (added (no_cuts schema) cs) a ≡ values_on cs a
values_of schema cs a w h = added_on (length schema) (no_cuts schema) cs a (none_long schema) w ∙ ap (λ l. l ++ values_on cs a) (none_on schema a h)

from_parts : (schema : List Column) (text : List ℕ) (cuts : CutLists) (parts : List (List ℕ)) (f : PartsFound schema (no_cuts schema) cuts parts) → AreEntries schema text f.found → IsCuts schema text cuts
from_parts schema text cuts parts f is =
    let within = all_within schema parts f.found f.entries in
    let lawful = added_lawful (length schema) (no_cuts schema) f.found (none_long schema) within f.allowed (none_lawful schema) in
    record {
      entries = f.found;
      text_is = is;
      lists = ap length f.made ∙ added_length (no_cuts schema) f.found ∙ none_long schema;
      values = λ a h. ap (λ (w : CutLists). cuts_on w a) f.made ∙ values_of schema f.found a within h;
      lawful = λ a h. subst (λ (w : CutLists). AreCuts (cuts_on w a)) (sym f.made) (lawful a h);
    }

-- the cuts that are read are related to the text
pub cuts_found : (schema : List Column) (text : List ℕ) (cuts : CutLists) → cuts_at schema text ≡ Ok cuts → IsCuts schema text cuts
unfolding cuts_at
cuts_found schema [] cuts e = from_parts schema [] cuts [] (record { found = []; entries = tt; allowed = tt; made = sym (same_ok (no_cuts schema) cuts e) }) refl
cuts_found schema (b ∷ bs) cuts e =
    let f = parts_found schema (no_cuts schema) cuts (slice_split is_divider (b ∷ bs)) e in
    from_parts schema (b ∷ bs) cuts (slice_split is_divider (b ∷ bs)) f (entries_found (length (b ∷ bs)) schema (b ∷ bs) f.found (omega arith) f.entries).0

-- lists are told by what each attribute has
same_cuts : (schema : List Column) (cuts : CutLists) (cs : List Cut) → length cuts ≡ length schema → ((a : ℕ) → a < length schema → cuts_on cuts a ≡ values_on cs a) → AllWithin (length schema) cs → added (no_cuts schema) cs ≡ cuts
same_cuts schema cuts cs lists values w =
    let long : length (added (no_cuts schema) cs) ≡ length schema = added_length (no_cuts schema) cs ∙ none_long schema in
    ext_get_or [] (added (no_cuts schema) cs) cuts (long ∙ sym lists) (λ i h. let within : i < length schema = omega (arith, long, h) in values_of schema cs i w within ∙ sym (values i within))

some_bytes : (schema : List Column) (text : List ℕ) (c : Cut) (cs : List Cut) → AreEntries schema text (c ∷ cs) → 0 < length text
some_bytes schema text c [] is = let long : length text ≡ length (is.name ++ 61 ∷ is.value) = ap length is.text_is in omega (arith, long, length-append is.name (61 ∷ is.value))
some_bytes schema text c (d ∷ ds) (entry, rest, e, is, more) = let long : length text ≡ length (entry ++ 59 ∷ rest) = ap length e in omega (arith, long, length-append entry (59 ∷ rest))

read-by : (cs : List Cut) (schema : List Column) (text : List ℕ) (cuts : CutLists) → IsSchema schema → AreEntries schema text cs → length cuts ≡ length schema
    → ((a : ℕ) → a < length schema → cuts_on cuts a ≡ values_on cs a) → AllLawful (length schema) cuts → cuts_at schema text ≡ Ok cuts
read-by [] schema text cuts ok is lists values lawful = empty_text schema text cuts (ap length is) (sym (same_cuts schema cuts [] lists values tt))
read-by (c ∷ cs) schema text cuts ok is lists values lawful =
    let parts = entries_read schema text c cs ok is in
    let within = all_within schema (slice_split is_divider text) (c ∷ cs) parts in
    let with_all : LawfulWith (length schema) (no_cuts schema) (c ∷ cs) = λ a h. subst AreCuts (values a h ∙ ap (λ l. l ++ values_on (c ∷ cs) a) (sym (none_on schema a h))) (lawful a h) in
    let allowed = lawful_allowed (length schema) (no_cuts schema) (c ∷ cs) (none_long schema) within with_all in
    sym (some_text schema text (some_bytes schema text c cs is))
    ∙ parts_read schema (no_cuts schema) (slice_split is_divider text) (c ∷ cs) ok parts allowed
    ∙ ap (λ (w : CutLists). Ok w) (same_cuts schema cuts (c ∷ cs) lists values within)

-- the cuts that are related to a text are read
pub cuts_read : (schema : List Column) (text : List ℕ) (cuts : CutLists) → IsSchema schema → IsCuts schema text cuts → cuts_at schema text ≡ Ok cuts
cuts_read schema text cuts ok is = read-by is.entries schema text cuts ok is.text_is is.lists is.values is.lawful

-- ---- kinds

abbrev AllOfKind : List Column → List Cut → Type 0
AllOfKind schema [] = Unit {0}
AllOfKind schema (c ∷ cs) = IsOfKind (kind_at schema c.0) c.1 × AllOfKind schema cs

entry_kind : (schema : List Column) (text : List ℕ) (c : Cut) → IsEntry schema text c → IsOfKind (kind_at schema c.0) c.1
entry_kind schema text c is = value_kind (kind_at schema c.0) (word is.value) c.1 (inl (is.value, refl, is.valued))

entries_kinds : (schema : List Column) (text : List ℕ) (cs : List Cut) → AreEntries schema text cs → AllOfKind schema cs
entries_kinds schema text [] is = tt
entries_kinds schema text (c ∷ []) is = (entry_kind schema text c is, tt)
entries_kinds schema text (c ∷ d ∷ ds) (entry, rest, e, is, more) = (entry_kind schema entry c is, entries_kinds schema rest (d ∷ ds) more)

abbrev OfKind : List Column → ℕ → List ℤ → Type 0
OfKind schema a zs = AllByRecursion (IsOfKind (kind_at schema a)) zs

kind-by : (v : Bool) (schema : List Column) (c : Cut) (a : ℕ) (zs : List ℤ) → eqb c.0 a ≡ v → IsOfKind (kind_at schema c.0) c.1 → OfKind schema a zs → OfKind schema a (cond v (c.1 ∷ zs) zs)
kind-by true schema c a zs e k h = (subst (λ (b : ℕ). IsOfKind (kind_at schema b) c.1) ((Decides-eqb c.0 a).0 e) k, h)
kind-by false schema c a zs e k h = h

kinds_on : (schema : List Column) (cs : List Cut) (a : ℕ) → AllOfKind schema cs → OfKind schema a (values_on cs a)
kinds_on schema [] a h = tt
kinds_on schema (c ∷ cs) a h = kind-by (eqb c.0 a) schema c a (values_on cs a) refl h.0 (kinds_on schema cs a h.1)

-- related cuts fit the table
pub cuts_fit : (schema : List Column) (text : List ℕ) (cuts : CutLists) → IsCuts schema text cuts → FitCuts schema cuts
cuts_fit schema text cuts is = record {
  lists = is.lists;
  lawful = is.lawful;
  kinds = λ a h. subst (All (IsOfKind (kind_at schema a))) (sym (is.values a h)) (All-from_recursion (IsOfKind (kind_at schema a)) (values_on is.entries a) (kinds_on schema is.entries a (entries_kinds schema text is.entries is.text_is)));
}
