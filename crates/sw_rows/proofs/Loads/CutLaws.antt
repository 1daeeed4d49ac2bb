-- Bytes with no quote, cut behind a line feed: their records are those of the two parts.
use Rattle.std.proofs.Common.{◌≡◌, ◌∙◌, ap, sym, refl, ℕ, ◌+◌, ◌<◌, ◌≤◌, ◌==◌, Bool, true, false, List, [], ◌∷◌, ◌++◌, length, take, drop, get_or, arith}
use Rattle.std.specs.Prelude.{not, ◌&&◌}
use Rattle.std.specs.List.{list_all}
use Rattle.std.proofs.lemmas.Bool.{eqb-true}
use Rattle.std.proofs.lemmas.List.{drop_more, get_or-drop, length-drop, take-append-drop, take_more}
use Rattle.std.proofs.lemmas.List.Folds.{list_all-append}
use Rattle.csv.specs.Machine.{next_record, step}
use Rattle.csv.specs.Reading.{default_config, is_bom, records, records_from, records_next, strip_bom}
use Rattle.csv.specs.declared.parser.Action.TheVariants as act
use Rattle.csv.specs.declared.parser.State.{State}
use Rattle.csv.specs.declared.parser.State.TheVariants as st
use Rattle.sw_rows.specs.Parts.{IsKnownQuoteless, begins_plain, has_no_quote}
use Rattle.sw_rows.specs.Records.{records_at}
use Rattle.sw_rows.proofs.Options.{by_bool}
use Rattle.sw_rows.proofs.Tables.RecordLemmas.{records_step}

-- the records from inside a record, with its fields and the bytes of the field at hand
abbrev pub records_within : State → List (List ℕ) → List ℕ → List ℕ → List (List (List ℕ))
records_within s fs f xs = records_next records_at (next_record default_config s fs f xs)

-- between records
abbrev Between : State → Type 0
Between st.StartRecord = Unit {0}
Between st.AfterCr = Unit {0}
Between st.StartField = ⊥
Between st.InField = ⊥
Between st.InQuoted = ⊥
Between st.AfterQuote = ⊥
Between st.InEscape = ⊥
Between st.InComment = ⊥

-- outside quotes, and with nothing gathered between records
abbrev Stands : State → List (List ℕ) → List ℕ → Type 0
Stands st.StartRecord fs f = (fs ≡ []) × (f ≡ [])
Stands st.AfterCr fs f = (fs ≡ []) × (f ≡ [])
Stands st.StartField fs f = Unit {0}
Stands st.InField fs f = Unit {0}
Stands st.InQuoted fs f = ⊥
Stands st.AfterQuote fs f = ⊥
Stands st.InEscape fs f = ⊥
Stands st.InComment fs f = ⊥

-- no byte of it is a quote
plain_head : (c : ℕ) (p : List ℕ) → list_all (λ c. not (c == 34)) (c ∷ p) ≡ true → (c == 34) ≡ false
plain_head c p h = by_bool (c == 34) (λ e. absurd (cc (rw e at h))) (λ n. n)

plain_tail : (c : ℕ) (p : List ℕ) → list_all (λ c. not (c == 34)) (c ∷ p) ≡ true → list_all (λ c. not (c == 34)) p ≡ true
plain_tail c p h = rw (plain_head c p h) at h

-- what a byte that is no quote does outside quotes
data Move (s : State) (c : ℕ) : Type 0 where
  skips : Between s → step default_config s c ≡ (st.StartRecord, act.Skip) → Move s c
  joins : step default_config s c ≡ (st.InField, act.Copy) → Move s c
  divides : step default_config s c ≡ (st.StartField, act.EndField) → Move s c
  ends : (t : State) → Between t → step default_config s c ≡ (t, act.EndRecord) → Move s c

-- the bytes that are told apart
data Byte (c : ℕ) : Type 0 where
  comma : c ≡ 44 → Byte c
  return : c ≡ 13 → Byte c
  feed : c ≡ 10 → Byte c
  other : (c == 44) ≡ false → (c == 13) ≡ false → (c == 10) ≡ false → (c == 34) ≡ false → Byte c

byte_of : (c : ℕ) → (c == 34) ≡ false → Byte c
byte_of c q =
    by_bool (c == 44) (λ e. comma (eqb-true c 44 e)) (λ n. by_bool (c == 13) (λ e. return (eqb-true c 13 e)) (λ m. by_bool (c == 10) (λ e. feed (eqb-true c 10 e)) (λ o. other n m o q)))

move : (s : State) (fs : List (List ℕ)) (f : List ℕ) → Stands s fs f → (c : ℕ) → Byte c → Move s c
move st.StartRecord fs f h c (comma e) = divides (rw e refl)
move st.StartRecord fs f h c (return e) = skips tt (rw e refl)
move st.StartRecord fs f h c (feed e) = skips tt (rw e refl)
move st.StartRecord fs f h c (other n m o q) = joins (rw (n, m, o, q) refl)
move st.AfterCr fs f h c (comma e) = divides (rw e refl)
move st.AfterCr fs f h c (return e) = skips tt (rw e refl)
move st.AfterCr fs f h c (feed e) = skips tt (rw e refl)
move st.AfterCr fs f h c (other n m o q) = joins (rw (n, m, o, q) refl)
move st.StartField fs f h c (comma e) = divides (rw e refl)
move st.StartField fs f h c (return e) = ends st.AfterCr tt (rw e refl)
move st.StartField fs f h c (feed e) = ends st.StartRecord tt (rw e refl)
move st.StartField fs f h c (other n m o q) = joins (rw (n, m, o, q) refl)
move st.InField fs f h c (comma e) = divides (rw e refl)
move st.InField fs f h c (return e) = ends st.AfterCr tt (rw e refl)
move st.InField fs f h c (feed e) = ends st.StartRecord tt (rw e refl)
move st.InField fs f h c (other n m o q) = joins (rw (n, m, o) refl)
move st.InQuoted fs f h c b = absurd h
move st.AfterQuote fs f h c b = absurd h
move st.InEscape fs f h c b = absurd h
move st.InComment fs f h c b = absurd h

-- one byte of each kind
pub after_skip : (s : State) (fs : List (List ℕ)) (f : List ℕ) (c : ℕ) (xs : List ℕ) → step default_config s c ≡ (st.StartRecord, act.Skip) → records_within s fs f (c ∷ xs) ≡ records_within st.StartRecord fs f xs
unfolding next_record
after_skip s fs f c xs e = rw e refl

-- a byte of a field goes on with it
pub after_join : (s : State) (fs : List (List ℕ)) (f : List ℕ) (c : ℕ) (xs : List ℕ) → step default_config s c ≡ (st.InField, act.Copy) → records_within s fs f (c ∷ xs) ≡ records_within st.InField fs (f ++ c ∷ []) xs
unfolding next_record
after_join s fs f c xs e = rw e refl

-- a comma ends a field
pub after_divide : (s : State) (fs : List (List ℕ)) (f : List ℕ) (c : ℕ) (xs : List ℕ) → step default_config s c ≡ (st.StartField, act.EndField) → records_within s fs f (c ∷ xs) ≡ records_within st.StartField (fs ++ f ∷ []) [] xs
unfolding next_record
after_divide s fs f c xs e = rw e refl

-- a line feed ends a record
pub after_end : (s t : State) (fs : List (List ℕ)) (f : List ℕ) (c : ℕ) (xs : List ℕ) → step default_config s c ≡ (t, act.EndRecord) → records_within s fs f (c ∷ xs) ≡ (fs ++ f ∷ []) ∷ records_within t [] [] xs
unfolding next_record
after_end s t fs f c xs e = rw e (ap (λ rs. (fs ++ f ∷ []) ∷ rs) (records_step t xs))

-- no bytes have no record
pub none_left : records_at st.StartRecord [] ≡ []
unfolding records_from next_record
none_left = refl

none_within : records_within st.StartRecord [] [] [] ≡ []
unfolding next_record
none_within = refl

clean : (s : State) (fs : List (List ℕ)) (f : List ℕ) → Between s → Stands s fs f → Stands st.StartRecord fs f
clean st.StartRecord fs f b h = h
clean st.AfterCr fs f b h = h
clean st.StartField fs f b h = absurd b
clean st.InField fs f b h = absurd b
clean st.InQuoted fs f b h = absurd b
clean st.AfterQuote fs f b h = absurd b
clean st.InEscape fs f b h = absurd b
clean st.InComment fs f b h = absurd b

fresh : (s : State) → Between s → Stands s [] []
fresh st.StartRecord b = (refl, refl)
fresh st.AfterCr b = (refl, refl)
fresh st.StartField b = absurd b
fresh st.InField b = absurd b
fresh st.InQuoted b = absurd b
fresh st.AfterQuote b = absurd b
fresh st.InEscape b = absurd b
fresh st.InComment b = absurd b

-- a line feed outside quotes begins anew
feed_skips : (s : State) (fs : List (List ℕ)) (f : List ℕ) (q : List ℕ) → (fs ≡ []) × (f ≡ []) → step default_config s 10 ≡ (st.StartRecord, act.Skip)
    → records_within s fs f (10 ∷ q) ≡ records_within s fs f (10 ∷ []) ++ records_at st.StartRecord q
feed_skips s fs f q h e = rw (after_skip s fs f 10 q e, after_skip s fs f 10 [] e, h.0, h.1, none_within) (sym (records_step st.StartRecord q))

feed_ends : (s : State) (fs : List (List ℕ)) (f : List ℕ) (q : List ℕ) → step default_config s 10 ≡ (st.StartRecord, act.EndRecord)
    → records_within s fs f (10 ∷ q) ≡ records_within s fs f (10 ∷ []) ++ records_at st.StartRecord q
feed_ends s fs f q e = rw (after_end s st.StartRecord fs f 10 q e, after_end s st.StartRecord fs f 10 [] e, none_within) (ap (λ rs. (fs ++ f ∷ []) ∷ rs) (sym (records_step st.StartRecord q)))

at_feed : (s : State) (fs : List (List ℕ)) (f : List ℕ) (q : List ℕ) → Stands s fs f → records_within s fs f (10 ∷ q) ≡ records_within s fs f (10 ∷ []) ++ records_at st.StartRecord q
at_feed st.StartRecord fs f q h = feed_skips st.StartRecord fs f q h refl
at_feed st.AfterCr fs f q h = feed_skips st.AfterCr fs f q h refl
at_feed st.StartField fs f q h = feed_ends st.StartField fs f q refl
at_feed st.InField fs f q h = feed_ends st.InField fs f q refl
at_feed st.InQuoted fs f q h = absurd h
at_feed st.AfterQuote fs f q h = absurd h
at_feed st.InEscape fs f q h = absurd h
at_feed st.InComment fs f q h = absurd h

-- a line feed behind bytes with no quote begins anew
pub cut_within : (p q : List ℕ) (s : State) (fs : List (List ℕ)) (f : List ℕ) → Stands s fs f → list_all (λ c. not (c == 34)) p ≡ true
    → records_within s fs f (p ++ 10 ∷ q) ≡ records_within s fs f (p ++ 10 ∷ []) ++ records_at st.StartRecord q
cut_within [] q s fs f h plain = at_feed s fs f q h
cut_within (c ∷ p) q s fs f h plain = by_move (move s fs f h c (byte_of c (plain_head c p plain))) (λ t gs g k. cut_within p q t gs g k (plain_tail c p plain))
  where
    by_move : Move s c → ((t : State) (gs : List (List ℕ)) (g : List ℕ) → Stands t gs g → records_within t gs g (p ++ 10 ∷ q) ≡ records_within t gs g (p ++ 10 ∷ []) ++ records_at st.StartRecord q)
        → records_within s fs f (c ∷ p ++ 10 ∷ q) ≡ records_within s fs f (c ∷ p ++ 10 ∷ []) ++ records_at st.StartRecord q
    by_move (skips b e) more = rw (after_skip s fs f c (p ++ 10 ∷ q) e, after_skip s fs f c (p ++ 10 ∷ []) e) (more st.StartRecord fs f (clean s fs f b h))
    by_move (joins e) more = rw (after_join s fs f c (p ++ 10 ∷ q) e, after_join s fs f c (p ++ 10 ∷ []) e) (more st.InField fs (f ++ c ∷ []) tt)
    by_move (divides e) more = rw (after_divide s fs f c (p ++ 10 ∷ q) e, after_divide s fs f c (p ++ 10 ∷ []) e) (more st.StartField (fs ++ f ∷ []) [] tt)
    by_move (ends t b e) more = rw (after_end s t fs f c (p ++ 10 ∷ q) e, after_end s t fs f c (p ++ 10 ∷ []) e) (ap (λ rs. (fs ++ f ∷ []) ∷ rs) (more t [] [] (fresh t b)))

-- the law
pub cut_law : (p q : List ℕ) → list_all (λ c. not (c == 34)) p ≡ true → records default_config (p ++ 10 ∷ q) ≡ records default_config (p ++ 10 ∷ []) ++ records default_config q
cut_law p q plain = records_step st.StartRecord (p ++ 10 ∷ q) ∙ cut_within p q st.StartRecord [] [] (refl, refl) plain ∙ ap (λ rs. rs ++ records_at st.StartRecord q) (sym (records_step st.StartRecord (p ++ 10 ∷ [])))

front_plain : (a b : Bool) → (a && b) ≡ true → a ≡ true
front_plain true b h = refl
front_plain false b h = h

-- the same at a place of the bytes
pub cut_at : (bytes : List ℕ) (from at : ℕ) → at < length (drop from bytes) → get_or (drop from bytes) at 0 ≡ 10 → has_no_quote (take (from + at + 1) bytes) ≡ true
    → records default_config bytes ≡ records default_config (take (from + at + 1) bytes) ++ records default_config (drop (from + at + 1) bytes)
cut_at bytes from at inside is_feed plain =
    let k = from + at in
    let lt : k < length bytes = omega (arith, inside, length-drop from bytes) in
    let is : get_or bytes k 0 ≡ 10 = sym (get_or-drop from bytes at 0) ∙ is_feed in
    let front : take (k + 1) bytes ≡ take k bytes ++ 10 ∷ [] = take_more bytes k 0 lt ∙ ap (λ c. take k bytes ++ c ∷ []) is in
    let back : drop k bytes ≡ 10 ∷ drop (k + 1) bytes = drop_more bytes k 0 lt ∙ ap (λ c. c ∷ drop (k + 1) bytes) is in
    let whole : bytes ≡ take k bytes ++ 10 ∷ drop (k + 1) bytes = sym (take-append-drop k bytes) ∙ ap (λ ys. take k bytes ++ ys) back in
    let none : has_no_quote (take k bytes) ≡ true =
    front_plain (has_no_quote (take k bytes)) (has_no_quote (10 ∷ [])) (sym (list_all-append (λ c. not (c == 34)) (take k bytes) (10 ∷ [])) ∙ ap has_no_quote (sym front) ∙ plain) in
    ap (records default_config) whole ∙ cut_law (take k bytes) (drop (k + 1) bytes) none ∙ ap (λ xs. records default_config xs ++ records default_config (drop (k + 1) bytes)) (sym front)

-- bytes that begin so have no byte order mark
pub unmarked : (bytes : List ℕ) → begins_plain bytes ≡ true → strip_bom bytes ≡ bytes
unfolding strip_bom
unmarked [] h = refl
unmarked (a ∷ []) h = refl
unmarked (a ∷ b ∷ []) h = refl
unmarked (a ∷ b ∷ c ∷ rest) h = by_bool (a == 239) (λ e. absurd (cc (rw e at h))) (λ n. rw n refl)

-- fewer than three bytes begin with no byte order mark
pub short_bom : (bytes : List ℕ) → length bytes < 3 → bytes ≡ strip_bom bytes
unfolding strip_bom
short_bom [] h = refl
short_bom (a ∷ []) h = refl
short_bom (a ∷ b ∷ []) h = refl
short_bom (a ∷ b ∷ c ∷ rest) h = absurd (omega arith)

-- bytes that begin otherwise have no byte order mark to leave out
pub no_bom : (bytes : List ℕ) → 3 ≤ length bytes → is_bom (get_or bytes 0 0) (get_or bytes 1 0) (get_or bytes 2 0) ≡ false → bytes ≡ strip_bom bytes
unfolding strip_bom
no_bom [] h n = refl
no_bom (a ∷ []) h n = refl
no_bom (a ∷ b ∷ []) h n = refl
no_bom (a ∷ b ∷ c ∷ rest) h n = rw n refl

-- a byte order mark is left out
pub one_bom : (bytes : List ℕ) → 3 ≤ length bytes → is_bom (get_or bytes 0 0) (get_or bytes 1 0) (get_or bytes 2 0) ≡ true → drop 3 bytes ≡ strip_bom bytes
unfolding strip_bom
one_bom [] h n = refl
one_bom (a ∷ []) h n = absurd (omega arith)
one_bom (a ∷ b ∷ []) h n = absurd (omega arith)
one_bom (a ∷ b ∷ c ∷ rest) h n = rw n refl

both_true : (a b : Bool) → (a && b) ≡ true → b ≡ true
both_true true b h = h
both_true false b h = absurd (cc h)

-- what has no quote has none behind a place
pub plain_behind : (is_known : Bool) (bytes : List ℕ) (at : ℕ) → IsKnownQuoteless is_known bytes → IsKnownQuoteless is_known (drop at bytes)
plain_behind is_known bytes at known is =
    both_true (has_no_quote (take at bytes)) (has_no_quote (drop at bytes))
    (sym (list_all-append (λ c. not (c == 34)) (take at bytes) (drop at bytes)) ∙ ap has_no_quote (take-append-drop at bytes) ∙ known is)
