-- Which lines are which calls, apart from the reading from left to right: the parts of a line stand one after another.
use Rattle.std.specs.Prelude.{◌≡◌, ◌≤◌, ◌⊎◌, ◌&&◌, not, ℕ, ℤ, true, false, List, [], ◌∷◌, ◌++◌, length, slice_get, Option, Some, None, codes}
use Rattle.sw_rows.specs.Cells.{cell_value}
use Rattle.sw_rows.specs.Header.{Column, kinds_of, names_of}
use Rattle.sw_rows.specs.Tables.{padded}
use Rattle.sw_rows.specs.Domains.{Domain, is_of_texts}
use Rattle.sw_query.specs.declared.query.Cond.{Cond}
use Rattle.sw_query.specs.declared.query.Call.{Call}
use Rattle.sw_query.specs.declared.query.Call.TheVariants.{Select, Insert, Delete, DeleteWhere}
use Rattle.sw_query.specs.declared.query.Want.{Want}
use Rattle.sw_query.specs.declared.query.Want.TheVariants.{Rows, Count, Sum, Min, Max}
use Rattle.sw_lang.specs.declared.reading.parse.TheConstants.{MOST_LINE}
use Rattle.sw_lang.specs.declared.reading.term.Term.{Term}
use Rattle.sw_lang.specs.Replies.{kind_at}
use Rattle.sw_lang.specs.Terms.{conditions}
use Rattle.sw_lang.specs.Tokens.{Tok, word, op, comma, quoted, tokens}
use Rattle.sw_lang.specs.Reading.{is_comment, is_equality, key_value, word_value}

-- a word that is the name of an attribute
abbrev pub IsName : List Column → Tok → ℕ → Type 0
IsName schema t attr = (w : List ℕ) × (t ≡ word w) × (slice_get (names_of schema) attr ≡ Some w)

-- a word that is a cell, or a quoted text that is one of an attribute of texts
abbrev pub IsValue : Domain → Tok → ℤ → Type 0
IsValue d t z =
    ((w : List ℕ) × (t ≡ word w) × (word_value d w ≡ Some z))
    ⊎ ((text : List ℕ) × (t ≡ quoted text) × (is_of_texts d ≡ true) × (cell_value d text ≡ Some z))

-- a word that is a key
abbrev pub IsKey : Tok → ℕ → Type 0
IsKey t key = (w : List ℕ) × (t ≡ word w) × (key_value w ≡ Some key)

-- a name, an operator, which is equality for texts, and a value of the name's domain
pub record IsTerm (schema : List Column) (a b c : Tok) (t : Term) : Type 0 where
  pub name : IsName schema a t.attr
  pub op : b ≡ op t.op
  pub fits : (is_of_texts (kind_at schema t.attr) && not (is_equality t.op)) ≡ false
  pub value : IsValue (kind_at schema t.attr) c t.value

-- one term or more, with "and" between
abbrev pub IsTerms : List Column → List Tok → List Term → Type 0
IsTerms schema ts [] = ⊥
IsTerms schema ts (t ∷ []) = (a b c : Tok) × (ts ≡ a ∷ b ∷ c ∷ []) × IsTerm schema a b c t
IsTerms schema ts (t ∷ u ∷ us) =
    (a b c : Tok) × (rest : List Tok) × (ts ≡ a ∷ b ∷ c ∷ word (codes "and") ∷ rest)
    × IsTerm schema a b c t × IsTerms schema rest (u ∷ us)

-- "where" and terms, which make the conditions
abbrev pub HasTerms : List Column → List Tok → List Cond → Type 0
HasTerms schema ts conds =
    (terms : List Term) × (rest : List Tok) × (ts ≡ word (codes "where") ∷ rest)
    × IsTerms schema rest terms × (conds ≡ conditions terms)

-- nothing, or "where" and terms
abbrev pub IsWhere : List Column → List Tok → List Cond → Type 0
IsWhere schema ts conds = ((ts ≡ []) × (conds ≡ [])) ⊎ HasTerms schema ts conds

-- one name or more, with commas between
abbrev pub IsNames : List Column → List Tok → List ℕ → Type 0
IsNames schema ts [] = ⊥
IsNames schema ts (i ∷ []) = (a : Tok) × (ts ≡ a ∷ []) × IsName schema a i
IsNames schema ts (i ∷ j ∷ js) =
    (a : Tok) × (rest : List Tok) × (ts ≡ a ∷ comma ∷ rest) × IsName schema a i × IsNames schema rest (j ∷ js)

-- a comma and a value of each kind
abbrev pub MoreValues : List Domain → List Tok → List ℤ → Type 0
MoreValues [] ts zs = (ts ≡ []) × (zs ≡ [])
MoreValues (k ∷ ks) ts [] = ⊥
MoreValues (k ∷ ks) ts (z ∷ zs) =
    (a : Tok) × (rest : List Tok) × (ts ≡ comma ∷ a ∷ rest) × IsValue k a z × MoreValues ks rest zs

-- one value of each kind, with commas between
abbrev pub IsValues : List Domain → List Tok → List ℤ → Type 0
IsValues [] ts zs = (ts ≡ []) × (zs ≡ [])
IsValues (k ∷ ks) ts [] = ⊥
IsValues (k ∷ ks) ts (z ∷ zs) =
    (a : Tok) × (rest : List Tok) × (ts ≡ a ∷ rest) × IsValue k a z × MoreValues ks rest zs

-- the name of an attribute that is not of texts
abbrev pub IsNumbersName : List Column → Tok → ℕ → Type 0
IsNumbersName schema t attr = IsName schema t attr × (is_of_texts (kind_at schema attr) ≡ false)

-- what is asked: "select" and 1 to 8 names, "count", or "sum", "min" or "max" and a name
abbrev pub IsWant : List Column → List Tok → Want → Type 0
IsWant schema ts (Rows names) =
    (rest : List Tok) × (ts ≡ word (codes "select") ∷ rest) × IsNames schema rest names × (length names ≤ 8)
IsWant schema ts Count = ts ≡ word (codes "count") ∷ []
IsWant schema ts (Sum a) = (t : Tok) × (ts ≡ word (codes "sum") ∷ t ∷ []) × IsNumbersName schema t a
IsWant schema ts (Min a) = (t : Tok) × (ts ≡ word (codes "min") ∷ t ∷ []) × IsNumbersName schema t a
IsWant schema ts (Max a) = (t : Tok) × (ts ≡ word (codes "max") ∷ t ∷ []) × IsNumbersName schema t a

-- a question and perhaps conditions; "insert" and one value for each attribute; or "delete" and a key, or "where" and
-- terms
abbrev pub IsCall : List Column → List Tok → Call → Type 0
IsCall schema ts (Select q) =
    (front rest : List Tok) × (ts ≡ front ++ rest) × IsWant schema front q.want × IsWhere schema rest q.conds
IsCall schema ts (Insert cells) =
    (zs : List ℤ) × (rest : List Tok) × (ts ≡ word (codes "insert") ∷ rest)
    × IsValues (kinds_of schema) rest zs × (cells ≡ padded zs)
IsCall schema ts (Delete key) = (t : Tok) × (ts ≡ word (codes "delete") ∷ t ∷ []) × IsKey t key
IsCall schema ts (DeleteWhere conds) =
    (rest : List Tok) × (ts ≡ word (codes "delete") ∷ rest) × HasTerms schema rest conds

-- a line of at most 4,096 bytes: a comment or a line without tokens, which is no call, or a call
abbrev pub IsLine : List Column → List ℕ → Option Call → Type 0
IsLine schema text None = (length text ≤ MOST_LINE) × ((is_comment text ≡ true) ⊎ (tokens text ≡ []))
IsLine schema text (Some c) = (length text ≤ MOST_LINE) × (is_comment text ≡ false) × IsCall schema (tokens text) c
