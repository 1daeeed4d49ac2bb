-- Which words are names, values, keys and words of the language.
use Rattle.std.proofs.Common.{◌≡◌, ◌∙◌, ap, sym, refl, subst, ℕ, zero, suc, ℤ, ◌<◌, inl, inr, Bool, true, false, cond, not, ◌&&◌, List, [], ◌∷◌, length, get_or, Option, Some, None, Result, Ok, Err, slice_get, arith}
use Rattle.std.specs.Prelude.{position, bytes_eq}
use Rattle.std.specs.List.{list_all, position_or_len}
use Rattle.std.proofs.lemmas.Bool.{cond-true, false≢true, lt-ltb}
use Rattle.std.proofs.lemmas.List.{get_or-map, length-map}
use Rattle.std.proofs.lemmas.List.Folds.{list_all_at, list_any_at}
use Rattle.std.proofs.lemmas.List.Quantifiers.{position-Some}
use Rattle.std.proofs.lemmas.Option.{slice_get-get_or, slice_get_within, get_or_from_slice_get}
use Rattle.std.proofs.lemmas.Slice.Eq.{bytes_eq-Decides}
use Rattle.sw_rows.proofs.Tables.CellSpelling.{cell_spelled}
use Rattle.sw_rows.specs.Cells.{cell_value}
use Rattle.sw_rows.specs.Header.{Column, IsSchema, is_known, is_name, names_differ, names_of}
use Rattle.sw_rows.specs.Domains.{Domain, is_of_texts}
use Rattle.sw_rows.specs.Domains as kind
use Rattle.sw_query.specs.declared.refusal.Why.{Why}
use Rattle.sw_query.specs.declared.refusal.Why.TheVariants as why
use Rattle.sw_rows.specs.Texts.{is_text}
use Rattle.sw_lang.specs.declared.fault.Fault.{Fault}
use Rattle.sw_lang.specs.declared.fault.Fault.TheVariants.{Bad}
use Rattle.sw_lang.specs.declared.reading.token.Op.{Op}
use Rattle.sw_lang.specs.Replies.{kind_at}
use Rattle.sw_lang.specs.Tokens.{Tok, word, op, comma, quoted, stray}
use Rattle.sw_lang.specs.Reading.{◌>>=◌, attr_of, coded, found, valued, key_value, key_of, name_of, number_name, of_numbers, op_for, op_of, quoted_value, value_of, is_equality, is_word, is_comma, word_value}
use Rattle.sw_lang.specs.Grammar.{IsKey, IsName, IsNumbersName, IsValue}

-- texts that compare equal are equal
pub same_bytes : (v w : List ℕ) → bytes_eq v w ≡ true → v ≡ w
same_bytes v w h = (bytes_eq-Decides v w).0 h

-- a text compares equal to itself
pub bytes-same : (w : List ℕ) → bytes_eq w w ≡ true
bytes-same w = (bytes_eq-Decides w w).1 refl

bytes-turned : (v w : List ℕ) → bytes_eq v w ≡ false → bytes_eq w v ≡ false
bytes-turned v w e = by_cases (bytes_eq w v) refl
  where
    by_cases : (b : Bool) → bytes_eq w v ≡ b → bytes_eq w v ≡ false
    by_cases true f = absurd (false≢true (sym e ∙ (bytes_eq-Decides v w).1 (sym (same_bytes w v f))))
    by_cases false f = f

-- a token that is taken for a word is that word
pub word_is : (w : List ℕ) (t : Tok) → is_word w t ≡ true → t ≡ word w
word_is w (word v) h = ap word (same_bytes v w h)
word_is w (op o) h = absurd (false≢true h)
word_is w comma h = absurd (false≢true h)
word_is w (quoted q) h = absurd (false≢true h)
word_is w stray h = absurd (false≢true h)

-- a token that is taken for a comma is one
pub comma_is : (t : Tok) → is_comma t ≡ true → t ≡ comma
comma_is (word v) h = absurd (false≢true h)
comma_is (op o) h = absurd (false≢true h)
comma_is comma h = refl
comma_is (quoted q) h = absurd (false≢true h)
comma_is stray h = absurd (false≢true h)

-- ---- names

found_at : (w : List ℕ) (o : Option ℕ) (i : ℕ) → found w o ≡ Ok i → o ≡ Some i
found_at w (Some j) i h = cc
found_at w None i h = absurd cc

named : (v : Bool) (malformed : Why) (w : List ℕ) (o : Option ℕ) (i : ℕ) → cond v (found w o) (Err (Bad malformed)) ≡ Ok i → (v ≡ true) × (o ≡ Some i)
named true malformed w o i h = (refl, found_at w o i h)
named false malformed w o i h = absurd cc

no_column : Column
no_column = ([], kind.Int)

at_place : (schema : List Column) (w : List ℕ) (i : ℕ) → position (λ c. bytes_eq w c.0) schema ≡ Some i → slice_get (names_of schema) i ≡ Some w
at_place schema w i h =
    let p = position-Some (λ c. bytes_eq w c.0) schema i no_column h in
    let within : i < length (names_of schema) = rw length-map p.0 in
    slice_get-get_or (names_of schema) i [] within ∙ ap Some (get_or-map (λ c. c.0) schema i no_column [] p.0 ∙ sym (same_bytes w (get_or schema i no_column).0 p.1))

-- a word that is taken for an attribute is its name
pub attr_found : (schema : List Column) (malformed : Why) (w : List ℕ) (i : ℕ) → attr_of schema malformed w ≡ Ok i → slice_get (names_of schema) i ≡ Some w
attr_found schema malformed w i h = at_place schema w i (named (is_name w) malformed w (position (λ c. bytes_eq w c.0) schema) i h).1

-- a token that is taken for a name is that of the attribute
pub name_found : (schema : List Column) (t : Tok) (i : ℕ) → name_of schema t ≡ Ok i → IsName schema t i
unfolding name_of
name_found schema (word w) i h = (w, refl, attr_found schema why.Word w i h)
name_found schema (op o) i h = absurd cc
name_found schema comma i h = absurd cc
name_found schema (quoted q) i h = absurd cc
name_found schema stray i h = absurd cc

and-true : (p q : Bool) → (p && q) ≡ true → (p ≡ true) × (q ≡ true)
and-true true q h = (refl, h)
and-true false q h = absurd (false≢true h)

not-true : (p : Bool) → not p ≡ true → p ≡ false
not-true true h = absurd (false≢true h)
not-true false h = refl

-- the place of a name among distinct ones
place-of : (cols : List Column) (i : ℕ) → names_differ cols ≡ true → i < length cols → position_or_len (λ c. bytes_eq (get_or cols i no_column).0 c.0) cols ≡ i
place-of [] i d h = absurd (omega arith)
place-of (c ∷ cs) zero d h = rw (bytes-same c.0) refl
place-of (c ∷ cs) (suc j) d h =
    let parts = and-true (not (is_known cs c.0)) (names_differ cs) d in
    let fresh : is_known cs c.0 ≡ false = not-true (is_known cs c.0) parts.0 in
    let lt : j < length cs = omega arith in
    let other = get_or cs j no_column in
    let apart : bytes_eq other.0 c.0 ≡ false = bytes-turned c.0 other.0 (by_cases c cs j fresh lt (bytes_eq c.0 other.0) refl) in
    let more = place-of cs j parts.1 lt in
    rw (apart, more) (omega arith)
  where
    by_cases : (c : Column) (cs : List Column) (j : ℕ) → is_known cs c.0 ≡ false → j < length cs → (b : Bool) → bytes_eq c.0 (get_or cs j no_column).0 ≡ b → bytes_eq c.0 (get_or cs j no_column).0 ≡ false
    by_cases c cs j fresh lt true e = absurd (false≢true (sym fresh ∙ list_any_at (λ d. bytes_eq c.0 d.0) cs j no_column lt e))
    by_cases c cs j fresh lt false e = e

all-true : (v : Bool) (cols : List Column) (i : ℕ) → is_name (get_or cols i no_column).0 ≡ v → i < length cols → list_all (λ c. is_name c.0) cols ≡ true → v ≡ true
all-true true cols i e h all = refl
all-true false cols i e h all = absurd (false≢true (sym (list_all_at (λ c. is_name c.0) cols i no_column h e) ∙ all))

-- the place of a name is below the number of attributes
pub attr_within : (schema : List Column) (w : List ℕ) (i : ℕ) → slice_get (names_of schema) i ≡ Some w → i < length schema
attr_within schema w i at = rw length-map at (slice_get_within (names_of schema) i w at)

attr_here : (schema : List Column) (w : List ℕ) (i : ℕ) → slice_get (names_of schema) i ≡ Some w → (get_or schema i no_column).0 ≡ w
attr_here schema w i at = sym (get_or-map (λ c. c.0) schema i no_column [] (attr_within schema w i at)) ∙ get_or_from_slice_get (names_of schema) i w [] at

-- the name of an attribute is well formed
pub attr_named : (schema : List Column) (w : List ℕ) (i : ℕ) → IsSchema schema → slice_get (names_of schema) i ≡ Some w → is_name w ≡ true
attr_named schema w i ok at =
    ap is_name (sym (attr_here schema w i at)) ∙ all-true (is_name (get_or schema i no_column).0) schema i refl (attr_within schema w i at) ok.sound.names

-- the name of an attribute is found at its place
pub attr_read : (schema : List Column) (malformed : Why) (w : List ℕ) (i : ℕ) → IsSchema schema → slice_get (names_of schema) i ≡ Some w → attr_of schema malformed w ≡ Ok i
attr_read schema malformed w i ok at =
    let within = attr_within schema w i at in
    let here = attr_here schema w i at in
    let good : is_name w ≡ true = attr_named schema w i ok at in
    let place : position_or_len (λ c. bytes_eq w c.0) schema ≡ i = rw here at (place-of schema i ok.sound.distinct within) in
    rw (good, place, lt-ltb i (length schema) within) refl

-- a name is taken for its attribute
pub name_read : (schema : List Column) (t : Tok) (i : ℕ) → IsSchema schema → IsName schema t i → name_of schema t ≡ Ok i
unfolding name_of
name_read schema t i ok (w, is, at) = rw is (attr_read schema why.Word w i ok at)

-- what a test lets pass
kept-by : {A : Type 0} (v : Bool) (x y : A) → ◌≡◌ {A = Result A Fault} (cond v (Err (Bad why.Word)) (Ok x)) (Ok y) → (v ≡ false) × (x ≡ y)
kept-by true x y h = absurd cc
kept-by false x y h = (refl, cc)

number-by : (r : Result ℕ Fault) (schema : List Column) (t : Tok) (a : ℕ) → name_of schema t ≡ r → (r >>= of_numbers schema) ≡ Ok a → IsNumbersName schema t a
number-by (Ok i) schema t a e h =
    let k = kept-by (is_of_texts (kind_at schema i)) i a h in
    (name_found schema t a (e ∙ ap (λ (n : ℕ). Ok n) k.1), subst (λ (n : ℕ). is_of_texts (kind_at schema n) ≡ false) k.1 k.0)
number-by (Err f) schema t a e h = absurd cc

-- a token that is taken for a name of numbers is one
pub number_found : (schema : List Column) (t : Tok) (a : ℕ) → number_name schema t ≡ Ok a → IsNumbersName schema t a
unfolding number_name
number_found schema t a h = number-by (name_of schema t) schema t a refl h

-- a name of numbers is taken for its attribute
pub number_read : (schema : List Column) (t : Tok) (a : ℕ) → IsSchema schema → IsNumbersName schema t a → number_name schema t ≡ Ok a
unfolding number_name
number_read schema t a ok (is, numbers) = rw (name_read schema t a ok is, numbers) refl

-- ---- operators, values and keys

-- an operator that serves a domain
abbrev pub Serves : Domain → Op → Type 0
Serves d o = (is_of_texts d && not (is_equality o)) ≡ false

-- an operator that is taken is the token, and serves the kind
pub op_found : (d : Domain) (t : Tok) (o : Op) → op_for d t ≡ Ok o → (t ≡ op o) × Serves d o
unfolding op_for op_of
op_found d (word w) o h = absurd cc
op_found d (op p) o h =
    let k = kept-by (is_of_texts d && not (is_equality p)) p o h in
    (ap op k.1, subst (Serves d) k.1 k.0)
op_found d comma o h = absurd cc
op_found d (quoted q) o h = absurd cc
op_found d stray o h = absurd cc

-- an operator that serves the kind is taken
pub op_read : (d : Domain) (t : Tok) (o : Op) → t ≡ op o → Serves d o → op_for d t ≡ Ok o
unfolding op_for op_of
op_read d t o h serves = rw (h, serves) refl

valued_is : {A : Type 0} (x : Option A) (z : A) → valued x ≡ Ok z → x ≡ Some z
valued_is (Some y) z h = cc
valued_is None z h = absurd cc

coded_is : (x : Option ℤ) (z : ℤ) → coded x ≡ Ok z → x ≡ Some z
coded_is (Some y) z h = cc
coded_is None z h = absurd cc

quoted-by : (v w : Bool) (x : Option ℤ) (z : ℤ) → cond (v && w) (coded x) (Err (Bad why.Value)) ≡ Ok z → (v ≡ true) × (x ≡ Some z)
quoted-by true true x z h = (refl, coded_is x z h)
quoted-by true false x z h = absurd cc
quoted-by false w x z h = absurd cc

-- a token that is taken for a value writes it
pub value_found : (k : Domain) (t : Tok) (z : ℤ) → value_of k t ≡ Ok z → IsValue k t z
unfolding value_of
value_found k (word w) z h = inl (w, refl, valued_is (word_value k w) z h)
value_found k (op o) z h = absurd cc
value_found k comma z h = absurd cc
value_found k (quoted q) z h = let b = quoted-by (is_of_texts k) (is_text q) (cell_value k q) z h in inr (q, refl, b.0, b.1)
value_found k stray z h = absurd cc

quoted_read : (k : Domain) (text : List ℕ) (z : ℤ) → is_of_texts k ≡ true → cell_value k text ≡ Some z → quoted_value k text ≡ Ok z
quoted_read kind.Int text z t h = absurd (false≢true t)
quoted_read (kind.Fix places) text z t h = absurd (false≢true t)
quoted_read kind.Flag text z t h = absurd (false≢true t)
quoted_read (kind.Text texts) text z t h =
    let is : is_text text ≡ true = (cell_spelled (kind.Text texts) text z h).0 in
    cond-true (is_text text) (coded (cell_value (kind.Text texts) text)) (Err (Bad why.Value)) is ∙ ap coded h

-- a token that writes a value is taken for it
pub value_read : (k : Domain) (t : Tok) (z : ℤ) → IsValue k t z → value_of k t ≡ Ok z
unfolding value_of
value_read k t z (inl (w, is, value)) = rw is (ap valued value)
value_read k t z (inr (text, is, of_texts, value)) = rw is (quoted_read k text z of_texts value)

-- a token that is taken for a key writes it
pub key_found : (t : Tok) (n : ℕ) → key_of t ≡ Ok n → IsKey t n
unfolding key_of
key_found (word w) n h = (w, refl, valued_is (key_value w) n h)
key_found (op o) n h = absurd cc
key_found comma n h = absurd cc
key_found (quoted q) n h = absurd cc
key_found stray n h = absurd cc

-- a token that writes a key is taken for it
pub key_read : (t : Tok) (n : ℕ) → IsKey t n → key_of t ≡ Ok n
unfolding key_of
key_read t n (w, is, value) = rw is (ap valued value)
