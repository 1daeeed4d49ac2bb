-- A list of terms and a list of names, one step at a time.
use Rattle.std.proofs.Common.{◌≡◌, ℕ, Bool, List, [], ◌∷◌, ◌++◌, length, Result, Ok, Err, ℤ, refl, sym, ◌∙◌}
use Rattle.std.specs.Prelude.{codes, nat_lt, if◌then◌else◌}
use Rattle.sw_rows.specs.Header.{Column}
use Rattle.sw_query.specs.declared.query.Cond.{Cond}
use Rattle.sw_query.specs.declared.refusal.Why.TheVariants as why
use Rattle.sw_lang.specs.declared.fault.Fault.{Fault}
use Rattle.sw_lang.specs.declared.fault.Fault.TheVariants.{Bad}
use Rattle.sw_lang.specs.declared.fault.ParseError.{ParseError}
use Rattle.sw_lang.specs.declared.fault.ParseError.TheVariants as errors
use Rattle.sw_lang.specs.declared.reading.token.Op.{Op}
use Rattle.sw_lang.specs.declared.reading.term.Term.{Term}
use Rattle.sw_lang.specs.Replies.{kind_at}
use Rattle.sw_lang.specs.Terms.{add_term}
use Rattle.sw_lang.specs.Tokens.{Tok, word, op, comma, quoted, stray}
use Rattle.sw_lang.specs.Reading.{◌>>=◌, Fails, name_of, op_for, value_of, is_word, is_comma, first_by, term_at, terms_at, names_at}

-- the term of three tokens
abbrev pub term_of : List Column → Tok → Tok → Tok → Result Term Fault
term_of schema a b c = name_of schema a >>= λ x. op_for (kind_at schema x) b >>= λ o. value_of (kind_at schema x) c >>= λ z. Ok (record { attr = x; op = o; value = z })

-- with the tokens that are left
abbrev pub with_rest : {A : Type 0} → List Tok → Result A Fault → Result (A × List Tok) Fault
with_rest rest r = r >>= λ x. Ok (x, rest)

abbrev made : ℕ → Op → ℤ → Result Term Fault
made x o z = Ok (record { attr = x; op = o; value = z })

abbrev made_with : ℕ → Op → ℤ × List Tok → Result (Term × List Tok) Fault
made_with x o value = Ok (record { attr = x; op = o; value = value.0 }, value.1)

with_value : (x : ℕ) (o : Op) (rest : List Tok) (r : Result ℤ Fault) → (with_rest rest r >>= made_with x o) ≡ with_rest rest (r >>= made x o)
with_value x o rest (Ok z) = refl
with_value x o rest (Err e) = refl

by-op : (schema : List Column) (x : ℕ) (b c : Tok) (rest : List Tok) (r : Result Op Fault) → op_for (kind_at schema x) b ≡ r
    → (first_by (op_for (kind_at schema x)) (b ∷ c ∷ rest) >>= λ o. first_by (value_of (kind_at schema x)) o.1 >>= made_with x o.0)
    ≡ with_rest rest (op_for (kind_at schema x) b >>= λ o. value_of (kind_at schema x) c >>= made x o)
unfolding first_by
by-op schema x b c rest (Ok o) e = rw e (with_value x o rest (value_of (kind_at schema x) c))
by-op schema x b c rest (Err f) e = rw e refl

by-name-of : (schema : List Column) (a b c : Tok) (rest : List Tok) (r : Result ℕ Fault) → name_of schema a ≡ r → term_at schema (a ∷ b ∷ c ∷ rest) ≡ with_rest rest (term_of schema a b c)
unfolding term_at first_by
by-name-of schema a b c rest (Ok x) e = rw e (by-op schema x b c rest (op_for (kind_at schema x) b) refl)
by-name-of schema a b c rest (Err f) e = rw e refl

-- a term is read of the first three tokens
pub term_at-of : (schema : List Column) (a b c : Tok) (rest : List Tok) → term_at schema (a ∷ b ∷ c ∷ rest) ≡ with_rest rest (term_of schema a b c)
term_at-of schema a b c rest = by-name-of schema a b c rest (name_of schema a) refl

-- what follows a term
abbrev pub more_terms : List Column → List Cond → List Tok → Result (List Cond) Fault
more_terms schema conds [] = Ok conds
more_terms schema conds (d ∷ ts) = if is_word (codes "and") d then terms_at schema conds ts else Err (Bad why.Word)

then-rest : (r : Result Term Fault) (first second : List Tok) (f g : List Tok → Term → Result (List Cond) Fault) → ((t : Term) → f first t ≡ g second t)
    → (with_rest first r >>= λ t. f t.1 t.0) ≡ (with_rest second r >>= λ t. g t.1 t.0)
then-rest (Ok t) first second f g h = h t
then-rest (Err e) first second f g h = refl

by-terms : (schema : List Column) (conds : List Cond) (a b c d : Tok) (ts : List Tok)
    → terms_at schema conds (a ∷ b ∷ c ∷ d ∷ ts) ≡ (term_at schema (a ∷ b ∷ c ∷ d ∷ ts) >>= λ t. more_terms schema (add_term conds t.0) t.1)
unfolding terms_at
by-terms schema conds a b c d ts =
    rw (term_at-of schema a b c [], term_at-of schema a b c (d ∷ ts))
    (then-rest (term_of schema a b c) [] (d ∷ ts) (λ _ t. if is_word (codes "and") d then terms_at schema (add_term conds t) ts else Err (Bad why.Word)) (λ rest t. more_terms schema (add_term conds t) rest) (λ t. refl))

by-last : (schema : List Column) (conds : List Cond) (a b c : Tok)
    → terms_at schema conds (a ∷ b ∷ c ∷ []) ≡ (term_at schema (a ∷ b ∷ c ∷ []) >>= λ t. more_terms schema (add_term conds t.0) t.1)
unfolding terms_at
by-last schema conds a b c =
    rw (term_at-of schema a b c [])
    (then-rest (term_of schema a b c) [] [] (λ _ t. Ok (add_term conds t)) (λ rest t. more_terms schema (add_term conds t) rest) (λ t. refl))

-- a term of two tokens is none, whatever its operator
by-short-op : (schema : List Column) (conds : List Cond) (x : ℕ) (b : Tok) (r : Result Op Fault)
    → ((with_rest [] r >>= λ o. first_by (value_of (kind_at schema x)) o.1 >>= made_with x o.0) >>= λ t. Ok (add_term conds t.0))
    ≡ ((with_rest [] r >>= λ o. first_by (value_of (kind_at schema x)) o.1 >>= made_with x o.0) >>= λ t. more_terms schema (add_term conds t.0) t.1)
unfolding first_by
by-short-op schema conds x b (Ok o) = refl
by-short-op schema conds x b (Err e) = refl

by-short : (schema : List Column) (conds : List Cond) (a b : Tok) (r : Result ℕ Fault) → name_of schema a ≡ r
    → terms_at schema conds (a ∷ b ∷ []) ≡ (term_at schema (a ∷ b ∷ []) >>= λ t. more_terms schema (add_term conds t.0) t.1)
unfolding terms_at term_at first_by
by-short schema conds a b (Err e) e1 = rw e1 refl
by-short schema conds a b (Ok x) e1 = rw e1 (by-short-op schema conds x b (op_for (kind_at schema x) b))

by-one : (schema : List Column) (conds : List Cond) (a : Tok) (r1 : Result ℕ Fault) → name_of schema a ≡ r1
    → terms_at schema conds (a ∷ []) ≡ (term_at schema (a ∷ []) >>= λ t. more_terms schema (add_term conds t.0) t.1)
unfolding terms_at term_at first_by
by-one schema conds a (Err e) e1 = rw e1 refl
by-one schema conds a (Ok x) e1 = rw e1 refl

-- a list of terms is one term and then the others
pub terms_step : (schema : List Column) (conds : List Cond) (ts : List Tok) → terms_at schema conds ts ≡ (term_at schema ts >>= λ t. more_terms schema (add_term conds t.0) t.1)
unfolding terms_at term_at first_by
terms_step schema conds [] = refl
terms_step schema conds (a ∷ []) = by-one schema conds a (name_of schema a) refl
terms_step schema conds (a ∷ b ∷ []) = by-short schema conds a b (name_of schema a) refl
terms_step schema conds (a ∷ b ∷ c ∷ []) = by-last schema conds a b c
terms_step schema conds (a ∷ b ∷ c ∷ d ∷ ts) = by-terms schema conds a b c d ts

-- what follows a name, where another may follow
abbrev pub more_names : List Column → Bool → List ℕ → List Tok → Result (List ℕ × List Tok) Fault
more_names schema room names [] = Ok (names, [])
more_names schema room names (d ∷ ts) = if is_comma d then (if room then names_at schema names ts else Err (Bad why.Word)) else Ok (names, d ∷ ts)

by-name : (schema : List Column) (names : List ℕ) (a : Tok) (ts : List Tok) (r : Result ℕ Fault) → name_of schema a ≡ r
    → names_at schema names (a ∷ ts) ≡ (first_by (name_of schema) (a ∷ ts) >>= λ p. more_names schema (nat_lt (length names) 7) (names ++ p.0 ∷ []) p.1)
unfolding names_at first_by
by-name schema names a [] (Err e) h = rw h refl
by-name schema names a [] (Ok x) h = rw h refl
by-name schema names a (word w ∷ ts) (Err e) h = rw h refl
by-name schema names a (word w ∷ ts) (Ok x) h = rw h refl
by-name schema names a (op o ∷ ts) (Err e) h = rw h refl
by-name schema names a (op o ∷ ts) (Ok x) h = rw h refl
by-name schema names a (comma ∷ ts) (Err e) h = rw h refl
by-name schema names a (comma ∷ ts) (Ok x) h = rw h refl
by-name schema names a (quoted q ∷ ts) (Err e) h = rw h refl
by-name schema names a (quoted q ∷ ts) (Ok x) h = rw h refl
by-name schema names a (stray ∷ ts) (Err e) h = rw h refl
by-name schema names a (stray ∷ ts) (Ok x) h = rw h refl

-- a list of names is one name and then the others
pub names_step : (schema : List Column) (names : List ℕ) (ts : List Tok)
    → names_at schema names ts ≡ (first_by (name_of schema) ts >>= λ p. more_names schema (nat_lt (length names) 7) (names ++ p.0 ∷ []) p.1)
unfolding names_at first_by
names_step schema names [] = refl
names_step schema names (a ∷ ts) = by-name schema names a ts (name_of schema a) refl

-- ---- the loops' exits

-- a term that is refused ends the list with its fault
pub term_ends : (e : ParseError) (schema : List Column) (conds : List Cond) (ts : List Tok) (total : Result (List Cond) Fault) → Fails e (term_at schema ts) → terms_at schema conds ts ≡ total → Fails e total
term_ends errors.Memory schema conds ts total h so_far = tt
term_ends (errors.Fault f) schema conds ts total h so_far =
    let one : terms_at schema conds ts ≡ Err f = terms_step schema conds ts ∙ rw h refl in
    sym so_far ∙ one

-- a term that is read goes on with the conditions that it leaves
pub term_goes : (schema : List Column) (conds : List Cond) (ts : List Tok) (total : Result (List Cond) Fault) (t : Term) (rest : List Tok) → term_at schema ts ≡ Ok (t, rest) → terms_at schema conds ts ≡ total → more_terms schema (add_term conds t) rest ≡ total
term_goes schema conds ts total t rest h so_far =
    let one : terms_at schema conds ts ≡ more_terms schema (add_term conds t) rest = terms_step schema conds ts ∙ rw h refl in
    sym one ∙ so_far

-- a name that is refused ends the list with its fault
pub name_ends : (e : ParseError) (schema : List Column) (names : List ℕ) (ts : List Tok) (total : Result (List ℕ × List Tok) Fault) → Fails e (first_by (name_of schema) ts) → names_at schema names ts ≡ total → Fails e total
name_ends errors.Memory schema names ts total h so_far = tt
name_ends (errors.Fault f) schema names ts total h so_far =
    let one : names_at schema names ts ≡ Err f = names_step schema names ts ∙ rw h refl in
    sym so_far ∙ one

-- a name that is read goes on with the names so far
pub name_goes : (schema : List Column) (names : List ℕ) (ts : List Tok) (total : Result (List ℕ × List Tok) Fault) (i : ℕ) (rest : List Tok) → first_by (name_of schema) ts ≡ Ok (i, rest) → names_at schema names ts ≡ total → more_names schema (nat_lt (length names) 7) (names ++ i ∷ []) rest ≡ total
name_goes schema names ts total i rest h so_far =
    let one : names_at schema names ts ≡ more_names schema (nat_lt (length names) 7) (names ++ i ∷ []) rest = names_step schema names ts ∙ rw h refl in
    sym one ∙ so_far
