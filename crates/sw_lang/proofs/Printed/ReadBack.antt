-- A call that a line gives is the call of its printed text.
use Rattle.std.proofs.Common.{◌≡◌, ◌∙◌, ap, sym, refl, subst, ℕ, ℤ, pos, ◌-◌, ◌^◌, ◌<◌, ◌≤◌, inl, inr, false, List, [], ◌∷◌, ◌++◌, length, map, replicate, codes, decimal, append_assoc, append-nil, arith}
use Rattle.std.specs.List.{AllByRecursion}
use Rattle.std.proofs.lemmas.List.Elements.{recursion_from_All}
use Rattle.sw_rows.specs.Domains.{IsDomain}
use Rattle.sw_rows.specs.Header.{Column, IsSchema, kinds_of}
use Rattle.sw_rows.specs.Domains.{Domain}
use Rattle.sw_query.specs.declared.query.Call.{Call}
use Rattle.sw_query.specs.declared.query.Call.TheVariants.{Select, Insert, Delete, DeleteWhere}
use Rattle.sw_query.specs.declared.query.Cond.{Cond}
use Rattle.sw_query.specs.declared.query.Want.{Want}
use Rattle.sw_query.specs.declared.query.Want.TheVariants.{Rows, Count, Sum, Min, Max}
use Rattle.sw_lang.specs.Grammar.{HasTerms, IsCall, IsNames, IsValues, IsWant, IsWhere, MoreValues}
use Rattle.sw_lang.specs.PrintedCalls.{call_text, more_names, name_at, names_text, want_text, where_text}
use Rattle.sw_lang.specs.Reading.{is_comment}
use Rattle.sw_lang.specs.Replies.{cells_text, more_cells}
use Rattle.sw_lang.specs.Terms.{conditions}
use Rattle.sw_lang.specs.Tokens.{Tok, word, comma, tokens}
use Rattle.sw_lang.proofs.Parsing.Fits.{name_within, names_below, some_conds}
use Rattle.sw_lang.proofs.Parsing.Conds.{all_bound, printed_good, value_stored, where_conds}
use Rattle.sw_lang.proofs.Printed.Cells.{Ends, cell_printed, digits_word, value_tok}
use Rattle.sw_lang.proofs.Printed.Digits.{decimal_writes, key_back, key_fits}
use Rattle.sw_lang.proofs.Printed.Merge.{printed_make}
use Rattle.sw_lang.proofs.Printed.Names.{name_is, name_word}
use Rattle.sw_lang.proofs.Printed.Terms.{name_tok, where_is, where_stops}
use Rattle.sw_lang.proofs.Printed.Tokens.{IsRun, Stops, front_word}

-- ---- names

-- each of the attributes is one of the schema's
abbrev pub Below : List Column → List ℕ → Type 0
Below schema names = AllByRecursion (λ a. a < length schema) names

abbrev more_toks : List Column → List ℕ → List Tok
more_toks schema [] = []
more_toks schema (a ∷ xs) = comma ∷ name_tok schema a ∷ more_toks schema xs

abbrev name_toks : List Column → List ℕ → List Tok
name_toks schema [] = []
name_toks schema (a ∷ xs) = name_tok schema a ∷ more_toks schema xs

more_stops : (schema : List Column) (xs rest : List ℕ) → Stops rest → Stops (more_names (map (name_at schema) xs) ++ rest)
more_stops schema [] rest h = h
more_stops schema (a ∷ xs) rest h = refl

more_tokens : (schema : List Column) (xs rest : List ℕ) → IsSchema schema → Below schema xs → Stops rest → tokens (more_names (map (name_at schema) xs) ++ rest) ≡ more_toks schema xs ++ tokens rest
more_tokens schema [] rest ok below stops = refl
more_tokens schema (a ∷ xs) rest ok below stops =
    let name : List ℕ = name_at schema a in
    let later : List ℕ = more_names (map (name_at schema) xs) in
    ap tokens (append_assoc (codes ", " ++ name) later rest)
    ∙ ap (λ l. comma ∷ l) (front_word name (later ++ rest) (name_word schema a ok below.0).run (more_stops schema xs rest stops))
    ∙ ap (λ l. comma ∷ word name ∷ l) (more_tokens schema xs rest ok below.1 stops)

names_tokens : (schema : List Column) (xs rest : List ℕ) → IsSchema schema → Below schema xs → Stops rest → tokens (names_text (map (name_at schema) xs) ++ rest) ≡ name_toks schema xs ++ tokens rest
names_tokens schema [] rest ok below stops = refl
names_tokens schema (a ∷ xs) rest ok below stops =
    let name : List ℕ = name_at schema a in
    let later : List ℕ = more_names (map (name_at schema) xs) in
    ap tokens (append_assoc name later rest)
    ∙ front_word name (later ++ rest) (name_word schema a ok below.0).run (more_stops schema xs rest stops)
    ∙ ap (λ l. word name ∷ l) (more_tokens schema xs rest ok below.1 stops)

names_are : (schema : List Column) (ts : List Tok) (xs : List ℕ) → Below schema xs → IsNames schema ts xs → IsNames schema (name_toks schema xs) xs
names_are schema ts [] below h = absurd h
names_are schema ts (a ∷ []) below h = (name_tok schema a, refl, name_is schema a below.0)
names_are schema ts (a ∷ b ∷ xs) below (t, rest, e, is, more) = (name_tok schema a, name_toks schema (b ∷ xs), refl, name_is schema a below.0, names_are schema rest (b ∷ xs) below.1 more)

-- ---- questions

-- the tokens of what is asked for, before the conditions' text
abbrev WantFront : List Column → Want → List ℕ → Type 0
WantFront schema want rest = (front : List Tok) × (tokens (want_text schema want ++ rest) ≡ front ++ tokens rest) × IsWant schema front want

count_run : IsRun (codes "count")
count_run = record { some = omega arith; bytes = refl }

want_front : (schema : List Column) (ts : List Tok) (want : Want) (rest : List ℕ) → IsSchema schema → IsWant schema ts want → Stops rest → WantFront schema want rest
want_front schema ts (Rows names) rest ok (more, e, is, few) stops =
    let below = names_below schema more names is in
    (word (codes "select") ∷ name_toks schema names, ap (λ l. word (codes "select") ∷ l) (names_tokens schema names rest ok below stops), (name_toks schema names, refl, names_are schema more names below is, few))
want_front schema ts Count rest ok e stops = (word (codes "count") ∷ [], front_word (codes "count") rest count_run stops, refl)
want_front schema ts (Sum a) rest ok (t, e, is) stops =
    let within = name_within schema t a is.0 in
    (word (codes "sum") ∷ name_tok schema a ∷ [], ap (λ l. word (codes "sum") ∷ l) (front_word (name_at schema a) rest (name_word schema a ok within).run stops), (name_tok schema a, refl, (name_is schema a within, is.1)))
want_front schema ts (Min a) rest ok (t, e, is) stops =
    let within = name_within schema t a is.0 in
    (word (codes "min") ∷ name_tok schema a ∷ [], ap (λ l. word (codes "min") ∷ l) (front_word (name_at schema a) rest (name_word schema a ok within).run stops), (name_tok schema a, refl, (name_is schema a within, is.1)))
want_front schema ts (Max a) rest ok (t, e, is) stops =
    let within = name_within schema t a is.0 in
    (word (codes "max") ∷ name_tok schema a ∷ [], ap (λ l. word (codes "max") ∷ l) (front_word (name_at schema a) rest (name_word schema a ok within).run stops), (name_tok schema a, refl, (name_is schema a within, is.1)))

where_back : (schema : List Column) (ts : List Tok) (conds : List Cond) → IsSchema schema → IsWhere schema ts conds → IsWhere schema (tokens (where_text schema false conds)) conds
where_back schema ts conds ok h =
    let c = where_conds schema ts conds ok h in
    where_is schema conds ok (printed_good schema conds c.stored) (printed_make schema conds c.once (all_bound schema conds c.stored))

delete_run : IsRun (codes "delete")
delete_run = record { some = omega arith; bytes = refl }

-- conditions that are there are printed as terms
given_back : (schema : List Column) (ts : List Tok) (conds : List Cond) → IsSchema schema → HasTerms schema ts conds → HasTerms schema (tokens (where_text schema false conds)) conds
given_back schema ts conds ok (terms, rest, e, is, made) = some_given (where_back schema ts conds ok (inr (terms, rest, e, is, made)))
  where
    some_given : IsWhere schema (tokens (where_text schema false conds)) conds → HasTerms schema (tokens (where_text schema false conds)) conds
    some_given (inl (none, no_conds)) =
        let some : 1 ≤ length (conditions terms) = some_conds schema rest terms is in
        let empty : length (conditions terms) ≡ 0 = ap (λ (w : List Cond). length w) (sym made ∙ no_conds) in
        absurd (omega (arith, some, empty))
    some_given (inr given) = given

-- ---- rows

-- all domains are sound: decimals are one to six, and texts are few and differ
abbrev pub AllPlaces : List Domain → Type 0
AllPlaces ks = AllByRecursion IsDomain ks

-- the kinds of a schema are kinds of cells
pub kinds_places : (columns : List Column) → AllByRecursion (λ c. IsDomain c.1) columns → AllPlaces (kinds_of columns)
kinds_places [] h = tt
kinds_places (c ∷ cs) h = (h.0, kinds_places cs h.1)

cells_end : (ks : List Domain) (zs : List ℤ) → Ends (more_cells ks zs)
cells_end [] zs = (refl, refl)
cells_end (k ∷ ks) [] = (refl, refl)
cells_end (k ∷ ks) (z ∷ zs) = (refl, refl)

more_back : (ks : List Domain) (ts : List Tok) (zs pad : List ℤ) → AllPlaces ks → MoreValues ks ts zs → MoreValues ks (tokens (more_cells ks (zs ++ pad))) zs
more_back [] ts zs pad p (none, no_values) = (refl, no_values)
more_back (k ∷ ks) ts [] pad p h = absurd h
more_back (k ∷ ks) ts (z ∷ zs) pad p (a, rest, e, is, others) =
    let cell = cell_printed k z (value_stored k a z p.0 is) in
    let later : List ℕ = more_cells ks (zs ++ pad) in (
      value_tok k z,
      tokens later,
      ap (λ l. comma ∷ l) (cell.front later (cells_end ks (zs ++ pad))),
      cell.value,
      more_back ks rest zs pad p.1 others,
    )

values_back : (ks : List Domain) (ts : List Tok) (zs pad : List ℤ) → AllPlaces ks → IsValues ks ts zs → IsValues ks (tokens (cells_text ks (zs ++ pad))) zs
values_back [] ts zs pad p (none, no_values) = (refl, no_values)
values_back (k ∷ ks) ts [] pad p h = absurd h
values_back (k ∷ ks) ts (z ∷ zs) pad p (a, rest, e, is, others) =
    let cell = cell_printed k z (value_stored k a z p.0 is) in
    let later : List ℕ = more_cells ks (zs ++ pad) in (
      value_tok k z,
      tokens later,
      cell.front later (cells_end ks (zs ++ pad)),
      cell.value,
      more_back ks rest zs pad p.1 others,
    )

-- ---- calls

-- the digits of a key are one word
pub key_run : (key : ℕ) → key < 2 ^ 64 → IsRun (decimal key)
key_run key h = let w = decimal_writes key h in record { some = w.some; bytes = digits_word (decimal key) w.digits }

-- the tokens of the printed text of a related call are related to it
pub call_back : (schema : List Column) (ts : List Tok) (c : Call) → IsSchema schema → IsCall schema ts c → IsCall schema (tokens (call_text schema c)) c
call_back schema ts (Select q) ok (front, rest, parts, is, h) =
    let conds : List ℕ = where_text schema false q.conds in
    let f = want_front schema front q.want conds ok is (where_stops schema q.conds) in
    (f.0, tokens conds, f.1, f.2, where_back schema rest q.conds ok h)
call_back schema ts (Insert cells) ok (zs, rest, e, is, pad) =
    let places = kinds_places schema (recursion_from_All (λ (c : Column). IsDomain c.1) schema ok.sound.domains) in
    let values = values_back (kinds_of schema) rest zs (replicate (8 - length zs) (pos 0)) places is in
    (zs, tokens (cells_text (kinds_of schema) cells), refl, subst (λ (w : List ℤ). IsValues (kinds_of schema) (tokens (cells_text (kinds_of schema) w)) zs) (sym pad) values, pad)
call_back schema ts (Delete key) ok (t, e, (w, word_is, value)) =
    let fits = key_fits w key value in
    let one : tokens (decimal key) ≡ word (decimal key) ∷ [] = ap tokens (sym (append-nil (decimal key))) ∙ front_word (decimal key) [] (key_run key fits) refl in
    (word (decimal key), ap (λ l. word (codes "delete") ∷ l) one, (decimal key, refl, key_back key fits))
call_back schema ts (DeleteWhere conds) ok (rest, e, given) =
    let more : List ℕ = where_text schema false conds in
    (tokens more, front_word (codes "delete") more delete_run (where_stops schema conds), given_back schema rest conds ok given)

-- the printed text of a call is no comment
pub no_comment : (schema : List Column) (c : Call) → is_comment (call_text schema c) ≡ false
no_comment schema (Select q) = by_want q.want
  where
    by_want : (want : Want) → is_comment (want_text schema want ++ where_text schema false q.conds) ≡ false
    by_want (Rows names) = refl
    by_want Count = refl
    by_want (Sum a) = refl
    by_want (Min a) = refl
    by_want (Max a) = refl
no_comment schema (Insert cells) = refl
no_comment schema (Delete key) = refl
no_comment schema (DeleteWhere conds) = refl
