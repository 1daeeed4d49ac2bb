-- The reading from left to right finds what the grammar relates, and nothing else.
use Rattle.std.proofs.Common.{◌≡◌, ◌∙◌, ap, sym, refl, subst, ℕ, zero, suc, ℤ, ◌+◌, ◌<◌, ◌≤◌, ◌⊎◌, inl, inr, Bool, true, false, cond, List, [], ◌∷◌, ◌++◌, length, append_assoc, Result, Ok, Err, arith, nat_lt}
use Rattle.std.specs.Prelude.{codes}
use Rattle.std.proofs.lemmas.Bool.{lt-ltb, ltb-true}
use Rattle.sw_rows.specs.Header.{Column, IsSchema}
use Rattle.sw_rows.specs.Domains.{Domain}
use Rattle.sw_query.specs.declared.query.Cond.{Cond}
use Rattle.sw_query.specs.declared.refusal.Why.TheVariants as why
use Rattle.sw_lang.specs.declared.fault.Fault.{Fault}
use Rattle.sw_lang.specs.declared.fault.Fault.TheVariants.{Bad}
use Rattle.sw_lang.specs.declared.reading.term.Term.{Term}
use Rattle.sw_lang.specs.Replies.{kind_at}
use Rattle.sw_lang.specs.Terms.{conditions, add_term}
use Rattle.sw_lang.specs.Tokens.{Tok, word, comma}
use Rattle.sw_lang.specs.Reading.{◌>>=◌, first_by, is_word, is_comma, name_of, names_at, next_value, nothing_left, op_for, past_comma, term_at, terms_at, value_of, values_at, where_at}
use Rattle.sw_lang.specs.Grammar.{HasTerms, IsName, IsNames, IsTerm, IsTerms, IsValues, IsWhere, MoreValues}
use Rattle.sw_lang.proofs.Parsing.Merge.{conds_from, conds_from-conditions}
use Rattle.sw_lang.proofs.Parsing.Names.{comma_is, name_found, name_read, op_found, op_read, value_found, value_read, word_is}
use Rattle.sw_lang.proofs.Parsing.Steps.{more_names, more_terms, names_step, terms_step}

-- where two steps give something, the first gave what the second took
pub bind_ok : {A B : Type 0} (r : Result A Fault) (f : A → Result B Fault) (y : B) → (r >>= f) ≡ Ok y → (x : A) × (r ≡ Ok x) × (f x ≡ Ok y)
bind_ok (Ok x) f y e = (x, refl, e)
bind_ok (Err d) f y e = absurd cc

-- answers that are the same answer the same
pub same_ok : {A : Type 0} (x y : A) → ◌≡◌ {A = Result A Fault} (Ok x) (Ok y) → x ≡ y
same_ok x y e = cc

-- the same of a pair
pub same_pair : {A : Type 0} (x y : A) (s t : List Tok) → ◌≡◌ {A = Result (A × List Tok) Fault} (Ok (x, s)) (Ok (y, t)) → (x ≡ y) × (s ≡ t)
same_pair {A = A} x y s t e =
    let p : ◌≡◌ {A = A × List Tok} (x, s) (y, t) = cc in
    (ap (λ (w : A × List Tok). w.0) p, ap (λ (w : A × List Tok). w.1) p)

-- where something was read first, it is of the first token
pub first_is : {A : Type 0} (f : Tok → Result A Fault) (ts : List Tok) (x : A) (rest : List Tok) → first_by f ts ≡ Ok (x, rest) → (a : Tok) × (ts ≡ a ∷ rest) × (f a ≡ Ok x)
unfolding first_by
first_is {A = A} f [] x rest e = absurd cc
first_is {A = A} f (a ∷ ts) x rest e =
    let b = bind_ok (f a) (λ y. Ok (y, ts)) (x, rest) e in
    let p = same_pair b.0 x ts rest b.2 in
    (a, ap (λ (w : List Tok). a ∷ w) p.1, b.1 ∙ ap (λ (w : A). Ok w) p.0)

-- what the first token gives is read first
pub first_read : {A : Type 0} (f : Tok → Result A Fault) (a : Tok) (x : A) (rest : List Tok) → f a ≡ Ok x → first_by f (a ∷ rest) ≡ Ok (x, rest)
unfolding first_by
first_read f a x rest e = rw e refl

-- ---- terms

-- a related term is read
pub term_read : (schema : List Column) (a b c : Tok) (t : Term) (rest : List Tok) → IsSchema schema → IsTerm schema a b c t → term_at schema (a ∷ b ∷ c ∷ rest) ≡ Ok (t, rest)
unfolding term_at first_by
term_read schema a b c t rest ok h = rw (name_read schema a t.attr ok h.name, op_read (kind_at schema t.attr) b t.op h.op h.fits, value_read (kind_at schema t.attr) c t.value h.value) refl

-- related terms are read onto the conditions before them
pub terms_read : (schema : List Column) (conds : List Cond) (ts : List Tok) (us : List Term) → IsSchema schema → IsTerms schema ts us → terms_at schema conds ts ≡ Ok (conds_from conds us)
terms_read schema conds ts [] ok h = absurd h
terms_read schema conds ts (t ∷ []) ok (a, b, c, e, is) =
    rw e (terms_step schema conds (a ∷ b ∷ c ∷ []) ∙ rw (term_read schema a b c t [] ok is) refl)
terms_read schema conds ts (t ∷ u ∷ us) ok (a, b, c, rest, e, is, more) =
    rw e (terms_step schema conds (a ∷ b ∷ c ∷ word (codes "and") ∷ rest) ∙ rw (term_read schema a b c t (word (codes "and") ∷ rest) ok is) (terms_read schema (add_term conds t) rest (u ∷ us) ok more))

same_term : (schema : List Column) (a b c : Tok) (t u : Term) → t ≡ u → IsTerm schema a b c t → IsTerm schema a b c u
same_term schema a b c t u e is = subst (λ (w : Term). IsTerm schema a b c w) e is

three : (ts more last left rest : List Tok) (a b c : Tok) → ts ≡ a ∷ more → more ≡ b ∷ last → last ≡ c ∷ left → left ≡ rest → ts ≡ a ∷ b ∷ c ∷ rest
three ts more last left rest a b c e1 e2 e3 e4 = rw (e1, e2, e3, e4) refl

term_is : (schema : List Column) (ts : List Tok) (t : Term) (rest : List Tok) → term_at schema ts ≡ Ok (t, rest) → (a b c : Tok) × (ts ≡ a ∷ b ∷ c ∷ rest) × IsTerm schema a b c t
unfolding term_at
term_is schema ts t rest e =
    let n = bind_ok (first_by (name_of schema) ts) (λ name. first_by (op_for (kind_at schema name.0)) name.1 >>= λ o. first_by (value_of (kind_at schema name.0)) o.1 >>= λ value. Ok (record { attr = name.0; op = o.0; value = value.0 }, value.1)) (t, rest) e in
    let o = bind_ok (first_by (op_for (kind_at schema n.0.0)) n.0.1) (λ o. first_by (value_of (kind_at schema n.0.0)) o.1 >>= λ value. Ok (record { attr = n.0.0; op = o.0; value = value.0 }, value.1)) (t, rest) n.2 in
    let v = bind_ok (first_by (value_of (kind_at schema n.0.0)) o.0.1) (λ value. Ok (record { attr = n.0.0; op = o.0.0; value = value.0 }, value.1)) (t, rest) o.2 in
    let made : Term = record { attr = n.0.0; op = o.0.0; value = v.0.0 } in
    let p = same_pair made t v.0.1 rest v.2 in
    let fa = first_is (name_of schema) ts n.0.0 n.0.1 n.1 in
    let fb = first_is (op_for (kind_at schema n.0.0)) n.0.1 o.0.0 o.0.1 o.1 in
    let fc = first_is (value_of (kind_at schema n.0.0)) o.0.1 v.0.0 v.0.1 v.1 in
    let parts : ts ≡ fa.0 ∷ fb.0 ∷ fc.0 ∷ rest = three ts n.0.1 o.0.1 v.0.1 rest fa.0 fb.0 fc.0 fa.1 fb.1 fc.1 p.1 in
    let operator = op_found (kind_at schema n.0.0) fb.0 o.0.0 fb.2 in
    let is : IsTerm schema fa.0 fb.0 fc.0 made = record { name = name_found schema fa.0 n.0.0 fa.2; op = operator.0; fits = operator.1; value = value_found (kind_at schema n.0.0) fc.0 v.0.0 fc.2 } in
    (fa.0, fb.0, fc.0, parts, same_term schema fa.0 fb.0 fc.0 made t p.0 is)

joined_is : (v : Bool) (r : Result (List Cond) Fault) (cs : List Cond) → cond v r (Err (Bad why.Word)) ≡ Ok cs → (v ≡ true) × (r ≡ Ok cs)
joined_is true r cs e = (refl, e)
joined_is false r cs e = absurd cc

-- terms that were read
abbrev pub Found : List Column → List Cond → List Tok → List Cond → Type 0
Found schema conds ts cs = (u : Term) × (us : List Term) × IsTerms schema ts (u ∷ us) × (cs ≡ conds_from conds (u ∷ us))

after : (n : ℕ) (schema : List Column) (conds : List Cond) (ts : List Tok) (cs : List Cond) (t : Term) (rest : List Tok) (a b c : Tok) → ts ≡ a ∷ b ∷ c ∷ rest → IsTerm schema a b c t → length ts ≤ suc n
    → ((ds : List Cond) (rs : List Tok) (es : List Cond) → length rs ≤ n → terms_at schema ds rs ≡ Ok es → Found schema ds rs es)
    → more_terms schema (add_term conds t) rest ≡ Ok cs → Found schema conds ts cs
after n schema conds ts cs t [] a b c parts is short ih e = (t, [], (a, b, c, parts, is), sym (same_ok (add_term conds t) cs e))
after n schema conds ts cs t (d ∷ rest) a b c parts is short ih e =
    let j = joined_is (is_word (codes "and") d) (terms_at schema (add_term conds t) rest) cs e in
    let len : length ts ≡ length (a ∷ b ∷ c ∷ d ∷ rest) = ap length parts in
    let f = ih (add_term conds t) rest cs (omega arith) j.1 in
    let with_and : ts ≡ a ∷ b ∷ c ∷ word (codes "and") ∷ rest = parts ∙ ap (λ (w : Tok). a ∷ b ∷ c ∷ w ∷ rest) (word_is (codes "and") d j.0) in
    (t, f.0 ∷ f.1, (a, b, c, rest, with_and, is, f.2), f.3)

-- conditions that are read are those of related terms
pub terms_found : (n : ℕ) (schema : List Column) (conds : List Cond) (ts : List Tok) (cs : List Cond) → length ts ≤ n → terms_at schema conds ts ≡ Ok cs → Found schema conds ts cs
terms_found zero schema conds ts cs short e =
    let b = bind_ok (term_at schema ts) (λ t. more_terms schema (add_term conds t.0) t.1) cs (sym (terms_step schema conds ts) ∙ e) in
    let is = term_is schema ts b.0.0 b.0.1 b.1 in
    let len : length ts ≡ length (is.0 ∷ is.1 ∷ is.2 ∷ b.0.1) = ap length is.3 in
    absurd (omega arith)
terms_found (suc n) schema conds ts cs short e =
    let b = bind_ok (term_at schema ts) (λ t. more_terms schema (add_term conds t.0) t.1) cs (sym (terms_step schema conds ts) ∙ e) in
    let is = term_is schema ts b.0.0 b.0.1 b.1 in
    after n schema conds ts cs b.0.0 b.0.1 is.0 is.1 is.2 is.3 is.4 short (terms_found n schema) b.2

-- ---- conditions

-- related terms are read as their conditions
pub given_read : (schema : List Column) (ts : List Tok) (terms : List Term) → IsSchema schema → IsTerms schema ts terms → terms_at schema [] ts ≡ Ok (conditions terms)
given_read schema ts terms ok is = terms_read schema [] ts terms ok is ∙ ap (λ (w : List Cond). Ok w) (conds_from-conditions terms)

-- related conditions are read
pub where_read : (schema : List Column) (ts : List Tok) (conds : List Cond) → IsSchema schema → IsWhere schema ts conds → where_at schema ts ≡ Ok conds
unfolding where_at
where_read schema ts conds ok (inl (none, no_conds)) = rw (none, no_conds) refl
where_read schema ts conds ok (inr (terms, rest, e, is, made)) = rw (e, made) (given_read schema rest terms ok is)

-- conditions that are read after the word where are of related terms
pub given_found : (schema : List Column) (t : Tok) (rest : List Tok) (conds : List Cond) → is_word (codes "where") t ≡ true → terms_at schema [] rest ≡ Ok conds → HasTerms schema (t ∷ rest) conds
given_found schema t rest conds h e =
    let f = terms_found (length rest) schema [] rest conds (omega arith) e in
    (f.0 ∷ f.1, rest, ap (λ (w : Tok). w ∷ rest) (word_is (codes "where") t h), f.2, f.3 ∙ conds_from-conditions (f.0 ∷ f.1))

-- conditions that are read are related to their tokens
pub where_found : (schema : List Column) (ts : List Tok) (conds : List Cond) → where_at schema ts ≡ Ok conds → IsWhere schema ts conds
unfolding where_at
where_found schema [] conds e = inl (refl, sym (same_ok [] conds e))
where_found schema (t ∷ rest) conds e =
    let j = joined_is (is_word (codes "where") t) (terms_at schema [] rest) conds e in
    inr (given_found schema t rest conds j.0 j.1)

-- ---- names

-- what does not go on with a comma
abbrev pub NoComma : List Tok → Type 0
NoComma [] = Unit {0}
NoComma (t ∷ ts) = is_comma t ≡ false

-- no comma stands first in conditions
pub where-NoComma : (schema : List Column) (ts : List Tok) (conds : List Cond) → IsWhere schema ts conds → NoComma ts
where-NoComma schema ts conds (inl (none, no_conds)) = rw none tt
where-NoComma schema ts conds (inr (terms, rest, e, is, made)) = rw e refl

names-end : (schema : List Column) (room : Bool) (names : List ℕ) (rest : List Tok) → NoComma rest → more_names schema room names rest ≡ Ok (names, rest)
names-end schema room names [] h = refl
names-end schema room names (t ∷ ts) h = rw h refl

-- related names are read onto those before them
pub names_read : (schema : List Column) (done : List ℕ) (front rest : List Tok) (is : List ℕ) → IsSchema schema → IsNames schema front is → NoComma rest → length done + length is ≤ 8
    → names_at schema done (front ++ rest) ≡ Ok (done ++ is, rest)
names_read schema done front rest [] ok h stops few = absurd h
names_read schema done front rest (i ∷ []) ok (a, e, is) stops few =
    rw (e, names_step schema done (a ∷ rest), first_read (name_of schema) a i rest (name_read schema a i ok is)) (names-end schema (nat_lt (length done) 7) (done ++ i ∷ []) rest stops)
names_read schema done front rest (i ∷ j ∷ js) ok (a, more, e, is, others) stops few =
    let room : nat_lt (length done) 7 ≡ true = lt-ltb _ _ (omega arith) in
    let longer : length (done ++ i ∷ []) ≡ length done + 1 = length-last done i in
    let next = names_read schema (done ++ i ∷ []) more rest (j ∷ js) ok others stops (omega arith) in
    let joined = rw append_assoc at next in
    rw (e, names_step schema done (a ∷ comma ∷ (more ++ rest)), first_read (name_of schema) a i (comma ∷ (more ++ rest)) (name_read schema a i ok is), room) joined
  where
    length-last : (xs : List ℕ) (x : ℕ) → length (xs ++ x ∷ []) ≡ length xs + 1
    length-last [] x = refl
    length-last (y ∷ xs) x = let more = length-last xs x in omega arith

-- names that were read, and what is left
abbrev pub NamesFound : List Column → List ℕ → List Tok → List ℕ → List Tok → Type 0
NamesFound schema done ts all rest = (front : List Tok) × (i : ℕ) × (is : List ℕ) × (ts ≡ front ++ rest) × IsNames schema front (i ∷ is) × (all ≡ done ++ i ∷ is) × (length all ≤ 8)

length_last : (xs : List ℕ) (x : ℕ) → length (xs ++ x ∷ []) ≡ length xs + 1
length_last [] x = refl
length_last (y ∷ xs) x = let more = length_last xs x in omega arith

one-name : (schema : List Column) (done all : List ℕ) (ts more rest : List Tok) (a : Tok) (i : ℕ) → ts ≡ a ∷ more → IsName schema a i → length done ≤ 7
    → done ++ i ∷ [] ≡ all → more ≡ rest → NamesFound schema done ts all rest
one-name schema done all ts more rest a i parts is few same left =
    let len : length (done ++ i ∷ []) ≡ length done + 1 = length_last done i in
    let short : length all ≤ 8 = rw (← same) (omega arith) in
    (a ∷ [], i, [], parts ∙ ap (λ (w : List Tok). a ∷ w) left, (a, refl, is), sym same, short)

comma-split : (v room : Bool) (r : Result (List ℕ × List Tok) Fault) (names all : List ℕ) (left rest : List Tok) → cond v (cond room r (Err (Bad why.Word))) (Ok (names, left)) ≡ Ok (all, rest)
    → ((v ≡ true) × (room ≡ true) × (r ≡ Ok (all, rest))) ⊎ ((names ≡ all) × (left ≡ rest))
comma-split true true r names all left rest e = inl (refl, refl, e)
comma-split true false r names all left rest e = absurd cc
comma-split false room r names all left rest e = inr (same_pair names all left rest e)

after-name : (n : ℕ) (schema : List Column) (done all : List ℕ) (ts more rest : List Tok) (a : Tok) (i : ℕ) → ts ≡ a ∷ more → IsName schema a i → length done ≤ 7 → length ts ≤ suc n
    → ((ds : List ℕ) (rs : List Tok) → length rs ≤ n → length ds ≤ 7 → names_at schema ds rs ≡ Ok (all, rest) → NamesFound schema ds rs all rest)
    → more_names schema (nat_lt (length done) 7) (done ++ i ∷ []) more ≡ Ok (all, rest) → NamesFound schema done ts all rest
after-name n schema done all ts [] rest a i parts is few short ih e =
    let p = same_pair (done ++ i ∷ []) all [] rest e in
    one-name schema done all ts [] rest a i parts is few p.0 p.1
after-name n schema done all ts (d ∷ more) rest a i parts is few short ih e =
    by_comma (comma-split (is_comma d) (nat_lt (length done) 7) (names_at schema (done ++ i ∷ []) more) (done ++ i ∷ []) all (d ∷ more) rest e)
  where
    by_comma : ((is_comma d ≡ true) × (nat_lt (length done) 7 ≡ true) × (names_at schema (done ++ i ∷ []) more ≡ Ok (all, rest))) ⊎ ((done ++ i ∷ [] ≡ all) × (d ∷ more ≡ rest)) → NamesFound schema done ts all rest
    by_comma (inl (here, room, go)) =
        let lt : length done < 7 = ltb-true _ _ room in
        let len : length (done ++ i ∷ []) ≡ length done + 1 = length_last done i in
        let size : length ts ≡ length (a ∷ d ∷ more) = ap length parts in
        let f = ih (done ++ i ∷ []) more (omega arith) (omega arith) go in
        let with_comma : ts ≡ a ∷ comma ∷ (f.0 ++ rest) = parts ∙ ap (λ (w : Tok). a ∷ w ∷ more) (comma_is d here) ∙ ap (λ (w : List Tok). a ∷ comma ∷ w) f.3 in
        (a ∷ comma ∷ f.0, i, f.1 ∷ f.2, with_comma, (a, f.0, refl, is, f.4), f.5 ∙ append_assoc done (i ∷ []) (f.1 ∷ f.2), f.6)
    by_comma (inr (same, left)) = one-name schema done all ts (d ∷ more) rest a i parts is few same left

-- names that are read are related to their tokens
pub names_found : (n : ℕ) (schema : List Column) (all : List ℕ) (rest : List Tok) (done : List ℕ) (ts : List Tok) → length ts ≤ n → length done ≤ 7 → names_at schema done ts ≡ Ok (all, rest) → NamesFound schema done ts all rest
names_found zero schema all rest done ts short few e =
    let b = bind_ok (first_by (name_of schema) ts) (λ p. more_names schema (nat_lt (length done) 7) (done ++ p.0 ∷ []) p.1) (all, rest) (sym (names_step schema done ts) ∙ e) in
    let f = first_is (name_of schema) ts b.0.0 b.0.1 b.1 in
    let len : length ts ≡ length (f.0 ∷ b.0.1) = ap length f.1 in
    absurd (omega arith)
names_found (suc n) schema all rest done ts short few e =
    let b = bind_ok (first_by (name_of schema) ts) (λ p. more_names schema (nat_lt (length done) 7) (done ++ p.0 ∷ []) p.1) (all, rest) (sym (names_step schema done ts) ∙ e) in
    let f = first_is (name_of schema) ts b.0.0 b.0.1 b.1 in
    after-name n schema done all ts b.0.1 rest f.0 b.0.0 f.1 (name_found schema f.0 b.0.0 f.2) few short (names_found n schema all rest) b.2

-- ---- values

-- further related values are read
pub more_read : (y : ℤ) (ys : List ℤ) (ks : List Domain) (ts : List Tok) (zs : List ℤ) → MoreValues ks ts zs → values_at (y ∷ ys) ks ts ≡ Ok ((y ∷ ys) ++ zs)
unfolding next_value past_comma
more_read y ys [] ts zs (none, no_values) = rw (none, no_values) (ap (λ (w : List ℤ). Ok w) (sym (append_none (y ∷ ys))))
  where
    append_none : (xs : List ℤ) → xs ++ [] ≡ xs
    append_none [] = refl
    append_none (x ∷ xs) = ap (λ (w : List ℤ). x ∷ w) (append_none xs)
more_read y ys (k ∷ ks) ts [] h = absurd h
more_read y ys (k ∷ ks) ts (z ∷ zs) (a, rest, e, is, others) =
    let more = more_read y (ys ++ z ∷ []) ks rest zs others in
    let joined = rw append_assoc at more in
    rw (e, first_read (value_of k) a z rest (value_read k a z is)) joined

-- related values are read
pub values_read : (ks : List Domain) (ts : List Tok) (zs : List ℤ) → IsValues ks ts zs → values_at [] ks ts ≡ Ok zs
unfolding next_value past_comma
values_read [] ts zs (none, no_values) = rw (none, no_values) refl
values_read (k ∷ ks) ts [] h = absurd h
values_read (k ∷ ks) ts (z ∷ zs) (a, rest, e, is, others) = rw (e, first_read (value_of k) a z rest (value_read k a z is)) (more_read z [] ks rest zs others)

past-is : (y : ℤ) (ys : List ℤ) (ts rest : List Tok) → past_comma (y ∷ ys) ts ≡ Ok rest → ts ≡ comma ∷ rest
unfolding past_comma
past-is y ys [] rest e = absurd cc
past-is y ys (t ∷ ts) rest e = by_comma (is_comma t) refl e
  where
    by_comma : (v : Bool) → is_comma t ≡ v → ◌≡◌ {A = Result (List Tok) Fault} (cond v (Ok ts) (Err (Bad why.Word))) (Ok rest) → t ∷ ts ≡ comma ∷ rest
    by_comma true h f = ap (λ (w : Tok). w ∷ ts) (comma_is t h) ∙ ap (λ (w : List Tok). comma ∷ w) (same_ok ts rest f)
    by_comma false h f = absurd cc

-- all values are those that were read before, and then values of the further tokens
abbrev pub MoreFound : List ℤ → List Domain → List Tok → List ℤ → Type 0
MoreFound done ks ts all = (zs : List ℤ) × MoreValues ks ts zs × (all ≡ done ++ zs)

left-is : {A : Type 0} (x y : A) (ts : List Tok) → nothing_left x ts ≡ Ok y → (ts ≡ []) × (x ≡ y)
left-is x y [] e = (refl, cc)
left-is x y (t ∷ ts) e = absurd cc

append-none : (xs : List ℤ) → xs ++ [] ≡ xs
append-none [] = refl
append-none (x ∷ xs) = ap (λ (w : List ℤ). x ∷ w) (append-none xs)

-- further values that are read are related to their tokens
pub more_found : (y : ℤ) (ys : List ℤ) (ks : List Domain) (ts : List Tok) (all : List ℤ) → values_at (y ∷ ys) ks ts ≡ Ok all → MoreFound (y ∷ ys) ks ts all
unfolding next_value
more_found y ys [] ts all e =
    let p = left-is (y ∷ ys) all ts e in
    ([], (p.0, refl), sym p.1 ∙ sym (append-none (y ∷ ys)))
more_found y ys (k ∷ ks) ts all e =
    let b = bind_ok (past_comma (y ∷ ys) ts >>= first_by (value_of k)) (λ v. values_at ((y ∷ ys) ++ v.0 ∷ []) ks v.1) all e in
    let p = bind_ok (past_comma (y ∷ ys) ts) (first_by (value_of k)) b.0 b.1 in
    let f = first_is (value_of k) p.0 b.0.0 b.0.1 p.2 in
    let m = more_found y (ys ++ b.0.0 ∷ []) ks b.0.1 all b.2 in
    (b.0.0 ∷ m.0, (f.0, b.0.1, past-is y ys ts p.0 p.1 ∙ ap (λ (w : List Tok). comma ∷ w) f.1, value_found k f.0 b.0.0 f.2, m.1), m.2 ∙ append_assoc (y ∷ ys) (b.0.0 ∷ []) m.0)

-- values that are read are related to their tokens
pub values_found : (ks : List Domain) (ts : List Tok) (all : List ℤ) → values_at [] ks ts ≡ Ok all → IsValues ks ts all
unfolding next_value past_comma
values_found [] ts all e = let p = left-is [] all ts e in (p.0, sym p.1)
values_found (k ∷ ks) ts all e =
    let b = bind_ok (first_by (value_of k) ts) (λ v. values_at (v.0 ∷ []) ks v.1) all e in
    let f = first_is (value_of k) ts b.0.0 b.0.1 b.1 in
    let m = more_found b.0.0 [] ks b.0.1 all b.2 in
    subst (λ (w : List ℤ). IsValues (k ∷ ks) ts w) (sym m.2) (f.0, b.0.1, f.1, value_found k f.0 b.0.0 f.2, m.1)
