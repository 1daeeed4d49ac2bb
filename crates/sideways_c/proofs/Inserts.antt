-- Rows that are inserted one after another.
use Rattle.std.proofs.Common.{◌≡◌, ◌∙◌, ◌<◌, ◌+◌, ◌-◌, ◌++◌, ℕ, zero, suc, ℤ, List, [], ◌∷◌, length, set, drop, length-append, refl, sym, ap, subst, arith, inl, inr}
use Rattle.std.specs.Prelude.{◌==◌}
use Rattle.std.proofs.lemmas.List.{append_assoc, drop_more, set-append_right}
use Rattle.sw_query.specs.declared.query.Call.TheVariants as call
use Rattle.sw_query.specs.declared.reply.Reply.{Reply}
use Rattle.sw_arrays.specs.Columns.{insert_at}
use Rattle.sw_arrays.specs.declared.columns.Cells.{Cells}
use Rattle.sw_spine.specs.Table.{inserts}
use Rattle.sw_spine.specs.History.{updates_of}
use Rattle.sw_solo.specs.Called.{SoloState, reply_in, with_call}
use Rattle.sideways_c.specs.Asks.{IsInsert, IsKeyTold}
use Rattle.sideways_c.specs.Inserts.{key_of, key_told, keys_of, with_inserts}
use Rattle.sideways_c.proofs.Replying.{inserts_by}

-- the reply of an insert, and its key
pub is_insert : (s : SoloState) (cells : List ℤ) (r : Reply) → r ≡ reply_in s (call.Insert cells) → IsInsert r
is_insert s cells r h = subst IsInsert (sym h) (inserts_by (inserts (updates_of s.history) == s.history.limit) (inserts (updates_of s.history) + 1))

-- the key that is told
pub key_is : (key : ℕ) (r : Reply) → IsKeyTold key r → key ≡ key_told r
key_is key r (inl h) = ap key_told (sym h)
key_is key r (inr h) = h.1 ∙ ap key_told (sym h.0)

-- one row more
pub row_more : (session row : ℕ) (columns : List Cells) (first s t : SoloState) → s ≡ with_inserts session columns row first → t ≡ with_call session (insert_at columns row) s
    → t ≡ with_inserts session columns (row + 1) first
row_more session row columns first s t so made =
    let on : row + 1 ≡ suc row = omega arith in
    made ∙ (ap (with_call session (insert_at columns row)) so ∙ ap (λ n. with_inserts session columns n first) (sym on))

-- one insert more leaves the number of sessions
pub sessions_more : (session row : ℕ) (columns : List Cells) (first s t : SoloState) → t ≡ with_call session (insert_at columns row) s → s.sessions ≡ first.sessions → t.sessions ≡ first.sessions
sessions_more session row columns first s t made so = ap (λ (x : SoloState). x.sessions) made ∙ so

keys_many : (session row : ℕ) (columns : List Cells) (s : SoloState) → length (keys_of session columns row s) ≡ row
keys_many session zero columns s = refl
keys_many session (suc row) columns s =
    let one = length-append (keys_of session columns row s) (key_of session columns row s ∷ []) in
    let before = keys_many session row columns s in
    omega (arith, one, before)

set_front : {A : Type 0} (xs ys : List A) (n : ℕ) (y : A) → length xs ≡ n → n < length ys → set (xs ++ drop n ys) n y ≡ (xs ++ y ∷ []) ++ drop (n + 1) ys
set_front xs ys n y many lt =
    let none : n - n ≡ 0 = omega arith in
    set-append_right xs (drop n ys) n n y many (omega arith)
    ∙ (ap (λ k. xs ++ set (drop n ys) k y) none
    ∙ (ap (λ zs. xs ++ set zs 0 y) (drop_more ys n y lt)
    ∙ sym (append_assoc xs (y ∷ []) (drop (n + 1) ys))))

-- one key more
pub key_more : (session row key : ℕ) (columns : List Cells) (first s : SoloState) (keys was : List ℕ) → row < length was → s ≡ with_inserts session columns row first
    → key ≡ key_told (reply_in s (insert_at columns row)) → keys ≡ keys_of session columns row first ++ drop row was
    → set keys row key ≡ keys_of session columns (row + 1) first ++ drop (row + 1) was
key_more session row key columns first s keys was lt so told is =
    let on : row + 1 ≡ suc row = omega arith in
    let mine : key ≡ key_of session columns row first = told ∙ ap (λ x. key_told (reply_in x (insert_at columns row))) so in
    ap (λ ks. set ks row key) is
    ∙ (ap (λ k. set (keys_of session columns row first ++ drop row was) row k) mine
    ∙ (set_front (keys_of session columns row first) was row (key_of session columns row first) (keys_many session row columns first) lt
    ∙ ap (λ n. keys_of session columns n first ++ drop (row + 1) was) (sym on)))
