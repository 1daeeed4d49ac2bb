-- Lines: the reading finds the call that the grammar relates to a line, and no other.
use Rattle.std.proofs.Common.{◌≡◌, ◌∙◌, ap, sym, refl, subst, ℕ, ◌≤◌, ◌⊎◌, inl, inr, Bool, true, false, cond, List, [], ◌∷◌, ◌++◌, length, Option, Some, None, Result, Ok, Err, arith, nat_lt, if◌then◌else◌}
use Rattle.std.specs.Prelude.{bytes_eq, codes}
use Rattle.std.proofs.lemmas.Bool.{le-ltb, ltb-false}
use Rattle.sw_rows.specs.Header.{Column, IsSchema, kinds_of}
use Rattle.sw_rows.specs.Tables.{padded}
use Rattle.sw_query.specs.declared.query.Cond.{Cond}
use Rattle.sw_query.specs.declared.query.Call.{Call}
use Rattle.sw_query.specs.declared.query.Call.TheVariants.{Select, Insert, Delete, DeleteWhere}
use Rattle.sw_query.specs.declared.query.Want.{Want}
use Rattle.sw_query.specs.declared.query.Want.TheVariants.{Rows, Count, Sum, Min, Max}
use Rattle.sw_query.specs.declared.refusal.Why.TheVariants as why
use Rattle.sw_lang.specs.declared.fault.Fault.{Fault}
use Rattle.sw_lang.specs.declared.fault.Fault.TheVariants.{Bad}
use Rattle.sw_lang.specs.declared.reading.parse.TheConstants.{MOST_LINE}
use Rattle.sw_lang.specs.Tokens.{Tok, word, tokens}
use Rattle.sw_lang.specs.Reading.{aggregate_at, asked, call_at, call_of, cells_at, delete_at, delete_key, delete_where, first_by, insert_at, is_comment, is_word, key_of, key_value, line_at, names_at, nothing_left, number_name, select_at, terms_at, values_at, where_at}
use Rattle.sw_lang.specs.Grammar.{HasTerms, IsCall, IsKey, IsLine, IsNames, IsNumbersName, IsWant, IsWhere}
use Rattle.sw_lang.proofs.Parsing.Names.{key_found, key_read, number_found, number_read, same_bytes, word_is}
use Rattle.sw_lang.proofs.Parsing.Relates.{bind_ok, first_is, first_read, given_found, given_read, names_found, names_read, same_ok, values_found, values_read, where-NoComma, where_found, where_read}

abbrev selected : List Cond → Want → Call
selected conds want = Select (record { conds = conds; want = want })

-- ---- what the grammar relates is read

asked_read : (schema : List Column) (want : Want) (ts : List Tok) (conds : List Cond) → IsSchema schema → IsWhere schema ts conds → asked schema want ts ≡ Ok (selected conds want)
asked_read schema want ts conds ok h = rw (where_read schema ts conds ok h) refl

aggregate_read : (schema : List Column) (want : ℕ → Want) (t : Tok) (a : ℕ) (rest : List Tok) (conds : List Cond) → IsSchema schema → IsNumbersName schema t a → IsWhere schema rest conds
    → aggregate_at schema want (t ∷ rest) ≡ Ok (selected conds (want a))
unfolding aggregate_at
aggregate_read schema want t a rest conds ok is h = rw (first_read (number_name schema) t a rest (number_read schema t a ok is)) (asked_read schema (want a) rest conds ok h)

select_read : (schema : List Column) (front rest : List Tok) (names : List ℕ) (conds : List Cond) → IsSchema schema → IsNames schema front names → length names ≤ 8 → IsWhere schema rest conds
    → select_at schema (front ++ rest) ≡ Ok (selected conds (Rows names))
unfolding select_at
select_read schema front rest names conds ok is few h =
    rw (names_read schema [] front rest names ok is (where-NoComma schema rest conds h) (omega arith)) (asked_read schema (Rows names) rest conds ok h)

abbrev ReadsCall : List Column → List Tok → Call → Type 0
ReadsCall schema ts c = call_at schema ts ≡ Ok (Some c)

want_read : (schema : List Column) (want : Want) (conds : List Cond) (ts front rest : List Tok) → IsSchema schema → ts ≡ front ++ rest → IsWant schema front want → IsWhere schema rest conds → ReadsCall schema ts (selected conds want)
unfolding call_at call_of
want_read schema (Rows names) conds ts front rest ok parts (more, e, is, few) h = rw (parts, e, select_read schema more rest names conds ok is few h) refl
want_read schema Count conds ts front rest ok parts e h = rw (parts, e, asked_read schema Count rest conds ok h) refl
want_read schema (Sum a) conds ts front rest ok parts (t, e, is) h = rw (parts, e, aggregate_read schema Sum t a rest conds ok is h) refl
want_read schema (Min a) conds ts front rest ok parts (t, e, is) h = rw (parts, e, aggregate_read schema Min t a rest conds ok is h) refl
want_read schema (Max a) conds ts front rest ok parts (t, e, is) h = rw (parts, e, aggregate_read schema Max t a rest conds ok is h) refl

-- a key is not the word "where"
no_where : (t : Tok) (key : ℕ) → IsKey t key → is_word (codes "where") t ≡ false
no_where t key (w, is, value) = rw is (by_test (bytes_eq w (codes "where")) refl)
  where
    by_test : (b : Bool) → bytes_eq w (codes "where") ≡ b → bytes_eq w (codes "where") ≡ false
    by_test false h = h
    by_test true h =
        let same : w ≡ codes "where" = same_bytes w (codes "where") h in
        let none : None ≡ Some key = subst (λ (v : List ℕ). key_value v ≡ Some key) same value in
        absurd cc

-- a related call is read
pub call_read : (schema : List Column) (ts : List Tok) (c : Call) → IsSchema schema → IsCall schema ts c → ReadsCall schema ts c
unfolding call_at call_of cells_at delete_at delete_key delete_where
call_read schema ts (Select q) ok (front, rest, parts, is, h) = want_read schema q.want q.conds ts front rest ok parts is h
call_read schema ts (Insert cells) ok (zs, rest, e, is, pad) = rw (e, values_read (kinds_of schema) rest zs is, pad) refl
call_read schema ts (Delete key) ok (t, e, is) = rw (e, no_where t key is, first_read key_of t key [] (key_read t key is)) refl
call_read schema ts (DeleteWhere conds) ok (more, e, (terms, rest, f, is, made)) = rw (e, f, given_read schema rest terms ok is, made) refl

no_call : (schema : List Column) (v : Bool) → ◌≡◌ {A = Result (Option Call) Fault} (cond v (Ok None) (call_at schema [])) (Ok None)
unfolding call_at
no_call schema true = refl
no_call schema false = refl

-- what is related to a line is read from it
pub line_read : (schema : List Column) (text : List ℕ) (call : Option Call) → IsSchema schema → IsLine schema text call → line_at schema text ≡ Ok call
unfolding line_at
line_read schema text None ok (short, inl comment) =
    let fits : nat_lt MOST_LINE (length text) ≡ false = le-ltb _ _ short in
    rw (fits, comment) refl
line_read schema text None ok (short, inr none) =
    let fits : nat_lt MOST_LINE (length text) ≡ false = le-ltb _ _ short in
    rw (fits, none) (no_call schema (is_comment text))
line_read schema text (Some c) ok (short, not_comment, is) =
    let fits : nat_lt MOST_LINE (length text) ≡ false = le-ltb _ _ short in
    rw (fits, not_comment) (call_read schema (tokens text) c ok is)

-- ---- what is read is related by the grammar

asked_found : (schema : List Column) (want : Want) (ts : List Tok) (c : Call) → asked schema want ts ≡ Ok c → (conds : List Cond) × IsWhere schema ts conds × (selected conds want ≡ c)
asked_found schema want ts c e =
    let b = bind_ok (where_at schema ts) (λ conds. Ok (selected conds want)) c e in
    (b.0, where_found schema ts b.0 b.1, same_ok (selected b.0 want) c b.2)

-- a call whose question is of these tokens
question : (schema : List Column) (want : Want) (conds : List Cond) (ts front rest : List Tok) (c : Call) → ts ≡ front ++ rest → IsWant schema front want → IsWhere schema rest conds → selected conds want ≡ c → IsCall schema ts c
question schema want conds ts front rest c parts is h same = subst (λ (w : Call). IsCall schema ts w) same (front, rest, parts, is, h)

from_select : (schema : List Column) (t : Tok) (ts : List Tok) (c : Call) → is_word (codes "select") t ≡ true → select_at schema ts ≡ Ok c → IsCall schema (t ∷ ts) c
unfolding select_at
from_select schema t ts c h e =
    let b = bind_ok (names_at schema [] ts) (λ names. asked schema (Rows names.0) names.1) c e in
    let f = names_found (length ts) schema b.0.0 b.0.1 [] ts (omega arith) (omega arith) b.1 in
    let a = asked_found schema (Rows b.0.0) b.0.1 c b.2 in
    let is : IsNames schema f.0 b.0.0 = subst (λ (w : List ℕ). IsNames schema f.0 w) (sym f.5) f.4 in
    let first : t ≡ word (codes "select") = word_is (codes "select") t h in
    question schema (Rows b.0.0) a.0 (t ∷ ts) (t ∷ f.0) b.0.1 c (ap (λ (w : List Tok). t ∷ w) f.3) (f.0, ap (λ (w : Tok). w ∷ f.0) first, is, f.6) a.1 a.2

from_count : (schema : List Column) (t : Tok) (ts : List Tok) (c : Call) → is_word (codes "count") t ≡ true → asked schema Count ts ≡ Ok c → IsCall schema (t ∷ ts) c
from_count schema t ts c h e =
    let a = asked_found schema Count ts c e in
    question schema Count a.0 (t ∷ ts) (t ∷ []) ts c refl (ap (λ (w : Tok). w ∷ []) (word_is (codes "count") t h)) a.1 a.2

abbrev Aggregated : List Column → (ℕ → Want) → List Tok → Call → Type 0
Aggregated schema want ts c = (n : Tok) × (a : ℕ) × (rest : List Tok) × (conds : List Cond) × (ts ≡ n ∷ rest) × IsNumbersName schema n a × IsWhere schema rest conds × (selected conds (want a) ≡ c)

aggregate_found : (schema : List Column) (want : ℕ → Want) (ts : List Tok) (c : Call) → aggregate_at schema want ts ≡ Ok c → Aggregated schema want ts c
unfolding aggregate_at
aggregate_found schema want ts c e =
    let b = bind_ok (first_by (number_name schema) ts) (λ name. asked schema (want name.0) name.1) c e in
    let f = first_is (number_name schema) ts b.0.0 b.0.1 b.1 in
    let a = asked_found schema (want b.0.0) b.0.1 c b.2 in
    (f.0, b.0.0, b.0.1, a.0, f.1, number_found schema f.0 b.0.0 f.2, a.1, a.2)

from_sum : (schema : List Column) (t : Tok) (ts : List Tok) (c : Call) → is_word (codes "sum") t ≡ true → aggregate_at schema Sum ts ≡ Ok c → IsCall schema (t ∷ ts) c
from_sum schema t ts c h e =
    let f = aggregate_found schema Sum ts c e in
    question schema (Sum f.1) f.3 (t ∷ ts) (t ∷ f.0 ∷ []) f.2 c (ap (λ (w : List Tok). t ∷ w) f.4) (f.0, ap (λ (w : Tok). w ∷ f.0 ∷ []) (word_is (codes "sum") t h), f.5) f.6 f.7

from_min : (schema : List Column) (t : Tok) (ts : List Tok) (c : Call) → is_word (codes "min") t ≡ true → aggregate_at schema Min ts ≡ Ok c → IsCall schema (t ∷ ts) c
from_min schema t ts c h e =
    let f = aggregate_found schema Min ts c e in
    question schema (Min f.1) f.3 (t ∷ ts) (t ∷ f.0 ∷ []) f.2 c (ap (λ (w : List Tok). t ∷ w) f.4) (f.0, ap (λ (w : Tok). w ∷ f.0 ∷ []) (word_is (codes "min") t h), f.5) f.6 f.7

from_max : (schema : List Column) (t : Tok) (ts : List Tok) (c : Call) → is_word (codes "max") t ≡ true → aggregate_at schema Max ts ≡ Ok c → IsCall schema (t ∷ ts) c
from_max schema t ts c h e =
    let f = aggregate_found schema Max ts c e in
    question schema (Max f.1) f.3 (t ∷ ts) (t ∷ f.0 ∷ []) f.2 c (ap (λ (w : List Tok). t ∷ w) f.4) (f.0, ap (λ (w : Tok). w ∷ f.0 ∷ []) (word_is (codes "max") t h), f.5) f.6 f.7

from_insert : (schema : List Column) (t : Tok) (ts : List Tok) (c : Call) → is_word (codes "insert") t ≡ true → insert_at schema ts ≡ Ok c → IsCall schema (t ∷ ts) c
unfolding cells_at
from_insert schema t ts c h e =
    let b = bind_ok (cells_at schema ts) (λ cells. Ok (Insert cells)) c e in
    let v = bind_ok (values_at [] (kinds_of schema) ts) (λ values. Ok (padded values)) b.0 b.1 in
    let same : Insert b.0 ≡ c = same_ok (Insert b.0) c b.2 in
    let pad : padded v.0 ≡ b.0 = same_ok (padded v.0) b.0 v.2 in
    subst (λ (w : Call). IsCall schema (t ∷ ts) w) same (v.0, ts, ap (λ (w : Tok). w ∷ ts) (word_is (codes "insert") t h), values_found (kinds_of schema) ts v.0 v.1, sym pad)

left_none : {A : Type 0} (x y : A) (ts : List Tok) → nothing_left x ts ≡ Ok y → (ts ≡ []) × (x ≡ y)
left_none x y [] e = (refl, cc)
left_none x y (t ∷ ts) e = absurd cc

from_key : (schema : List Column) (t : Tok) (ts : List Tok) (c : Call) → is_word (codes "delete") t ≡ true → delete_key ts ≡ Ok c → IsCall schema (t ∷ ts) c
unfolding delete_key
from_key schema t ts c h e =
    let b = bind_ok (first_by key_of ts) (λ key. nothing_left (Delete key.0) key.1) c e in
    let f = first_is key_of ts b.0.0 b.0.1 b.1 in
    let l = left_none (Delete b.0.0) c b.0.1 b.2 in
    let parts : t ∷ ts ≡ word (codes "delete") ∷ f.0 ∷ [] = ap (λ (w : Tok). w ∷ ts) (word_is (codes "delete") t h) ∙ ap (λ (w : List Tok). word (codes "delete") ∷ w) (f.1 ∙ ap (λ (w : List Tok). f.0 ∷ w) l.0) in
    subst (λ (w : Call). IsCall schema (t ∷ ts) w) l.1 (f.0, parts, key_found f.0 b.0.0 f.2)

from_where : (schema : List Column) (t w : Tok) (ts : List Tok) (c : Call) → is_word (codes "delete") t ≡ true → is_word (codes "where") w ≡ true → delete_where schema ts ≡ Ok c → IsCall schema (t ∷ w ∷ ts) c
unfolding delete_where
from_where schema t w ts c h k e =
    let b = bind_ok (terms_at schema [] ts) (λ conds. Ok (DeleteWhere conds)) c e in
    let given : HasTerms schema (w ∷ ts) b.0 = given_found schema w ts b.0 k b.1 in
    subst (λ (x : Call). IsCall schema (t ∷ w ∷ ts) x) (same_ok (DeleteWhere b.0) c b.2) (w ∷ ts, ap (λ (x : Tok). x ∷ w ∷ ts) (word_is (codes "delete") t h), given)

from_delete : (schema : List Column) (t : Tok) (ts : List Tok) (c : Call) → is_word (codes "delete") t ≡ true → delete_at schema ts ≡ Ok c → IsCall schema (t ∷ ts) c
unfolding delete_at
from_delete schema t [] c h e = absurd cc
from_delete schema t (w ∷ ts) c h e = by_test (is_word (codes "where") w) refl e
  where
    by_test : (b : Bool) → is_word (codes "where") w ≡ b → cond b (delete_where schema ts) (delete_key (w ∷ ts)) ≡ Ok c → IsCall schema (t ∷ w ∷ ts) c
    by_test true k x = from_where schema t w ts c h k x
    by_test false k x = from_key schema t (w ∷ ts) c h x

-- ---- the first word decides

pick : (v : Bool) (x y : Result Call Fault) (c : Call) → cond v x y ≡ Ok c → ((v ≡ true) × (x ≡ Ok c)) ⊎ (y ≡ Ok c)
pick true x y c e = inl (refl, e)
pick false x y c e = inr e

abbrev Reads : List Column → Tok → List Tok → Call → Type 0
Reads schema t ts c = IsCall schema (t ∷ ts) c

abbrev rest7 : List Column → Tok → List Tok → Result Call Fault
rest7 schema t ts = if is_word (codes "delete") t then delete_at schema ts else Err (Bad why.Word)

abbrev rest6 : List Column → Tok → List Tok → Result Call Fault
rest6 schema t ts = if is_word (codes "insert") t then insert_at schema ts else rest7 schema t ts

abbrev rest5 : List Column → Tok → List Tok → Result Call Fault
rest5 schema t ts = if is_word (codes "max") t then aggregate_at schema Max ts else rest6 schema t ts

abbrev rest4 : List Column → Tok → List Tok → Result Call Fault
rest4 schema t ts = if is_word (codes "min") t then aggregate_at schema Min ts else rest5 schema t ts

abbrev rest3 : List Column → Tok → List Tok → Result Call Fault
rest3 schema t ts = if is_word (codes "sum") t then aggregate_at schema Sum ts else rest4 schema t ts

abbrev rest2 : List Column → Tok → List Tok → Result Call Fault
rest2 schema t ts = if is_word (codes "count") t then asked schema Count ts else rest3 schema t ts

either_of : {A B C : Type 0} → (A → C) → (B → C) → A ⊎ B → C
either_of f g (inl a) = f a
either_of f g (inr b) = g b

-- a call that is read is related to its tokens
pub call_found : (schema : List Column) (t : Tok) (ts : List Tok) (c : Call) → call_of schema t ts ≡ Ok c → IsCall schema (t ∷ ts) c
unfolding call_of
call_found schema t ts c e =
    either_of (λ (h, x). from_select schema t ts c h x) (λ e2.
    either_of (λ (h, x). from_count schema t ts c h x) (λ e3.
    either_of (λ (h, x). from_sum schema t ts c h x) (λ e4.
    either_of (λ (h, x). from_min schema t ts c h x) (λ e5.
    either_of (λ (h, x). from_max schema t ts c h x) (λ e6.
    either_of (λ (h, x). from_insert schema t ts c h x) (λ e7.
    either_of (λ (h, x). from_delete schema t ts c h x) (λ e8. absurd (none c e8))
    (pick (is_word (codes "delete") t) (delete_at schema ts) (Err (Bad why.Word)) c e7))
    (pick (is_word (codes "insert") t) (insert_at schema ts) (rest7 schema t ts) c e6))
    (pick (is_word (codes "max") t) (aggregate_at schema Max ts) (rest6 schema t ts) c e5))
    (pick (is_word (codes "min") t) (aggregate_at schema Min ts) (rest5 schema t ts) c e4))
    (pick (is_word (codes "sum") t) (aggregate_at schema Sum ts) (rest4 schema t ts) c e3))
    (pick (is_word (codes "count") t) (asked schema Count ts) (rest3 schema t ts) c e2))
    (pick (is_word (codes "select") t) (select_at schema ts) (rest2 schema t ts) c e)
  where
    none : (c : Call) → ◌≡◌ {A = Result Call Fault} (Err (Bad why.Word)) (Ok c) → ⊥
    none c e = absurd cc

tokens_found : (schema : List Column) (text : List ℕ) (ts : List Tok) (call : Option Call) → length text ≤ MOST_LINE → is_comment text ≡ false → tokens text ≡ ts → call_at schema ts ≡ Ok call → IsLine schema text call
unfolding call_at
tokens_found schema text [] call short not_comment is e =
    subst (λ (w : Option Call). IsLine schema text w) (same_ok None call e) (short, inr is)
tokens_found schema text (t ∷ ts) call short not_comment is e =
    let b = bind_ok (call_of schema t ts) (λ c. Ok (Some c)) call e in
    let found : IsCall schema (tokens text) b.0 = subst (λ (w : List Tok). IsCall schema w b.0) (sym is) (call_found schema t ts b.0 b.1) in
    subst (λ (w : Option Call). IsLine schema text w) (same_ok (Some b.0) call b.2) (short, not_comment, found)

line-by : (long comment : Bool) (schema : List Column) (text : List ℕ) (call : Option Call) → nat_lt MOST_LINE (length text) ≡ long → is_comment text ≡ comment
    → ◌≡◌ {A = Result (Option Call) Fault} (cond long (Err (Bad why.Length)) (cond comment (Ok None) (call_at schema (tokens text)))) (Ok call) → IsLine schema text call
line-by true comment schema text call l k e = absurd cc
line-by false true schema text call l k e = subst (λ (w : Option Call). IsLine schema text w) (same_ok None call e) (ltb-false _ _ l, inl k)
line-by false false schema text call l k e = tokens_found schema text (tokens text) call (ltb-false _ _ l) k refl e

-- what is read from a line is related to it
pub line_found : (schema : List Column) (text : List ℕ) (call : Option Call) → line_at schema text ≡ Ok call → IsLine schema text call
unfolding line_at
line_found schema text call e = line-by (nat_lt MOST_LINE (length text)) (is_comment text) schema text call refl refl e
