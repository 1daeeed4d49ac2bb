-- One token, and one value after another.
use Rattle.std.proofs.Common.{◌≡◌, ◌∙◌, ap, sym, refl, ℕ, ℤ, pos, ◌+◌, ◌<◌, ◌≤◌, true, None, List, [], ◌∷◌, ◌++◌, length, get_or, take, drop, Ok, Err}
use Rattle.std.specs.Prelude.{position, bytes_eq}
use Rattle.std.proofs.lemmas.List.{drop_more, drop_all, length-map}
use Rattle.sw_rows.proofs.Tables.TableLemmas.{padded_take}
use Rattle.sw_rows.specs.Header.{Column, is_name, kinds_of}
use Rattle.sw_rows.specs.Domains.{Domain}
use Rattle.sw_rows.specs.Domains as kind
use Rattle.sw_query.specs.declared.refusal.Why.{Why}
use Rattle.sw_lang.specs.declared.fault.Fault.{Fault}
use Rattle.sw_lang.specs.declared.fault.Fault.TheVariants.{Unknown}
use Rattle.sw_lang.specs.Replies.{kind_at}
use Rattle.sw_lang.specs.Tokens.{Tok}
use Rattle.sw_lang.specs.Reading.{◌>>=◌, attr_of, found, next_value, nothing_left, values_at, cells_at}

-- a name that no attribute has
pub unknown : (schema : List Column) (malformed : Why) (w n name : List ℕ) → is_name w ≡ true → n ≡ w → None ≡ position (λ c. bytes_eq n c.0) schema → name ≡ n → attr_of schema malformed w ≡ Err (Unknown name)
unknown schema malformed w n name is e none same =
    rw is (ap (found w) (ap (λ x. position (λ c. bytes_eq x c.0) schema) (sym e) ∙ sym none) ∙ ap (λ x. Err (Unknown x)) (sym e ∙ sym same))

-- the value of the next attribute
pub values_step : (schema : List Column) (values : List ℤ) (i : ℕ) (ts : List Tok) → i < length schema
    → values_at values (drop i (kinds_of schema)) ts ≡ (next_value values (kind_at schema i) ts >>= λ v. values_at (values ++ v.0 ∷ []) (drop (i + 1) (kinds_of schema)) v.1)
values_step schema values i ts h =
    let lt : i < length (kinds_of schema) = rw length-map h in
    rw (drop_more (kinds_of schema) i kind.Int lt) refl

-- reading ends where a value is none
pub value_ends : (f : Fault) (schema : List Column) (values : List ℤ) (i : ℕ) (k : Domain) (all ts : List Tok) → i < length schema → k ≡ kind_at schema i
    → values_at values (drop i (kinds_of schema)) ts ≡ values_at [] (kinds_of schema) all → next_value values k ts ≡ Err f → cells_at schema all ≡ Err f
unfolding cells_at
value_ends f schema values i k all ts lt kind so_far h =
    let next : next_value values (kind_at schema i) ts ≡ Err f = ap (λ x. next_value values x ts) (sym kind) ∙ h in
    let one : values_at [] (kinds_of schema) all ≡ Err f = sym so_far ∙ values_step schema values i ts lt ∙ ap (λ r. r >>= λ v. values_at (values ++ v.0 ∷ []) (drop (i + 1) (kinds_of schema)) v.1) next in
    rw one refl

-- after the last value
last : (schema : List Column) (values : List ℤ) (i : ℕ) (all ts : List Tok) → length schema ≤ i
    → values_at values (drop i (kinds_of schema)) ts ≡ values_at [] (kinds_of schema) all → values_at [] (kinds_of schema) all ≡ nothing_left values ts
last schema values i all ts over so_far =
    let le : length (kinds_of schema) ≤ i = rw length-map over in
    sym so_far ∙ ap (λ ks. values_at values ks ts) (drop_all i (kinds_of schema) le)

other_left : {A B : Type 0} (x : A) (y : B) (f : Fault) (ts : List Tok) → nothing_left x ts ≡ Err f → nothing_left y ts ≡ Err f
other_left x y f [] h = absurd cc
other_left x y f (t ∷ ts) h = cc

other_ends : {A B : Type 0} (x : A) (y : B) (u : A) (ts : List Tok) → nothing_left x ts ≡ Ok u → nothing_left y ts ≡ Ok y
other_ends x y u [] h = refl
other_ends x y u (t ∷ ts) h = absurd cc

-- tokens behind the last value are refused
pub rest_ends : (f : Fault) (schema : List Column) (values : List ℤ) (i : ℕ) (all ts : List Tok) → length schema ≤ i
    → values_at values (drop i (kinds_of schema)) ts ≡ values_at [] (kinds_of schema) all → nothing_left (tt {0}) ts ≡ Err f → cells_at schema all ≡ Err f
unfolding cells_at
rest_ends f schema values i all ts over so_far h =
    let one : values_at [] (kinds_of schema) all ≡ Err f = last schema values i all ts over so_far ∙ other_left (tt {0}) values f ts h in
    rw one refl

-- where the values of a row are read, its other cells are 0
pub row_read : (schema : List Column) (cells : List ℤ) (i : ℕ) (all ts : List Tok) → length schema ≤ i → length cells ≡ 8 → i ≤ 8 → ((k : ℕ) → i ≤ k → get_or cells k (pos 0) ≡ pos 0)
    → values_at (take i cells) (drop i (kinds_of schema)) ts ≡ values_at [] (kinds_of schema) all → nothing_left (tt {0}) ts ≡ Ok (tt {0}) → cells_at schema all ≡ Ok cells
unfolding cells_at
row_read schema cells i all ts over eight le rest so_far h =
    let one : values_at [] (kinds_of schema) all ≡ Ok (take i cells) = last schema (take i cells) i all ts over so_far ∙ other_ends (tt {0}) (take i cells) (tt {0}) ts h in
    rw one (ap (λ (zs : List ℤ). Ok zs) (padded_take cells i eight le rest))
