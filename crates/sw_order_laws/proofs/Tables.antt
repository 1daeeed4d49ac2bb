-- What a call asks of the rows that live and of how many were given, and what it does to them.
use Rattle.std.proofs.Common.{◌≡◌, ◌∙◌, ◌+◌, ◌++◌, ◌<◌, ◌==◌, ◌&&◌, sym, ap, refl, subst, fold, map, cond, filter, not, ℕ, Bool, true, false, List, [], ◌∷◌, length, arith}
use Rattle.std.specs.List.{AllByRecursion}
use Rattle.std.proofs.lemmas.Bool.Decides.{nat_tests}
use Rattle.std.proofs.lemmas.List.{append-nil}
use Rattle.std.proofs.lemmas.List.Elements.{filter-append, recursion_from_All}
use Rattle.sw_query.specs.Scan.{answer_over, matching, meets_all}
use Rattle.sw_query.specs.declared.query.Call.{Call}
use Rattle.sw_query.specs.declared.query.Call.TheVariants as call
use Rattle.sw_query.specs.declared.reply.Reply.{Reply}
use Rattle.sw_query.specs.declared.reply.Reply.TheVariants as reply
use Rattle.sw_spine.specs.Table.{inserts, removals, reply_to, row, update_by, updates_then}
use Rattle.sw_spine.proofs.Rising.{AreRising, rising_then}
use Rattle.sw_spine.proofs.StoreLemmas.{inserts_insert, inserts_remove, inserts_removals, removals_keys, rows_of_more, rows_push}
use Rattle.sw_table.specs.Live.{Rises, key_of}
use Rattle.sw_table.specs.Updates.{has_key, rows_of, rows_then, without}
use Rattle.sw_table.specs.declared.row.Row.{Row}
use Rattle.sw_table.specs.declared.row.Update.{Update}
use Rattle.sw_table.specs.declared.row.Update.TheVariants as update
use Rattle.sw_order_laws.specs.Apart.{AreApart, AsksForNone, asks, is_insert, rows_changed}
use Rattle.sw_order_laws.specs.Beginnings.{AreAlike}

-- ---- what a call does

-- the rows that a call takes out, if they live
abbrev pub takes : Call → Row → Bool
takes (call.Select q) r = false
takes (call.Insert cells) r = false
takes (call.Delete key) r = r.key == key
takes (call.DeleteWhere conds) r = meets_all conds r

-- those that it brings where so many were given
abbrev pub brings : ℕ → ℕ → Call → List Row
brings limit n (call.Select q) = []
brings limit n (call.Insert cells) = cond (n == limit) [] (row (n + 1) cells ∷ [])
brings limit n (call.Delete key) = []
brings limit n (call.DeleteWhere conds) = []

-- what a call makes of rows that live
abbrev pub rows_on : ℕ → ℕ → Call → List Row → List Row
rows_on limit n c rs = filter (λ r. not (takes c r)) rs ++ brings limit n c

-- how many were given after it
abbrev pub given_on : ℕ → ℕ → Call → ℕ
given_on limit n c = n + length (brings limit n c)

none_taken : (rs : List Row) → filter (λ (r : Row). true) rs ≡ rs
none_taken [] = refl
none_taken (r ∷ rs) = ap (λ (l : List Row). r ∷ l) (none_taken rs)

-- nothing passes a test that nothing passes
pub all_left : (rs : List Row) → filter (λ (r : Row). false) rs ≡ []
all_left [] = refl
all_left (r ∷ rs) = all_left rs

-- ---- several removals

-- a row whose key none of these has stays in front
front_stays : (r : Row) (gone live : List Row) → AllByRecursion (λ (g : Row). key_of r < key_of g) gone → fold rows_then (r ∷ live) (removals gone) ≡ r ∷ fold rows_then live (removals gone)
front_stays r [] live above = refl
front_stays r (g ∷ gone) live above =
    let other : (r.key == g.key) ≡ false = let lt = above.0 in grind (arith, nat_tests, lt) in
    ap (λ (b : Bool). fold rows_then (cond (not b) (r ∷ without g.key live) (without g.key live)) (removals gone)) other ∙ front_stays r gone (without g.key live) above.1

above_filtered : (p : Row → Bool) (n : ℕ) (rs : List Row) → AllByRecursion (λ (r : Row). n < key_of r) rs → AllByRecursion (λ (r : Row). n < key_of r) (filter p rs)
above_filtered p n [] a = tt
above_filtered p n (r ∷ rs) a = by_test (p r) (above_filtered p n rs a.1)
  where
    by_test : (b : Bool) → AllByRecursion (λ (x : Row). n < key_of x) (filter p rs) → AllByRecursion (λ (x : Row). n < key_of x) (cond b (r ∷ filter p rs) (filter p rs))
    by_test true later = (a.0, later)
    by_test false later = later

above_stay : (k : ℕ) (rs : List Row) → AllByRecursion (λ (r : Row). k < key_of r) rs → without k rs ≡ rs
above_stay k [] a = refl
above_stay k (r ∷ rs) a =
    let other : (r.key == k) ≡ false = let lt = a.0 in grind (arith, nat_tests, lt) in
    rw other (ap (λ (l : List Row). r ∷ l) (above_stay k rs a.1))

first_goes : (r : Row) (rs : List Row) → AllByRecursion (λ (x : Row). key_of r < key_of x) rs → without r.key (r ∷ rs) ≡ rs
first_goes r rs a =
    let same : (r.key == r.key) ≡ true = grind (arith, nat_tests) in
    rw same (above_stay r.key rs a)

-- where keys rise, the removals of the rows that pass a test leave those that do not
drop_passing : (p : Row → Bool) (rs : List Row) → Rises key_of rs → fold rows_then rs (removals (filter p rs)) ≡ filter (λ r. not (p r)) rs
drop_passing p [] up = refl
drop_passing p (r ∷ rs) up = by_test (p r) (drop_passing p rs up.1)
  where
    by_test : (b : Bool) → fold rows_then rs (removals (filter p rs)) ≡ filter (λ x. not (p x)) rs
        → fold rows_then (r ∷ rs) (removals (cond b (r ∷ filter p rs) (filter p rs))) ≡ cond (not b) (r ∷ filter (λ x. not (p x)) rs) (filter (λ x. not (p x)) rs)
    by_test true rest = ap (λ (l : List Row). fold rows_then l (removals (filter p rs))) (first_goes r rs up.0) ∙ rest
    by_test false rest = front_stays r (filter p rs) rs (above_filtered p r.key rs up.0) ∙ ap (λ (l : List Row). r ∷ l) rest

-- ---- the table after a call

lacking_stay : (key : ℕ) (rs : List Row) → has_key key rs ≡ false → filter (λ r. not (r.key == key)) rs ≡ rs
lacking_stay key [] h = refl
lacking_stay key (r ∷ rs) h = grind (arith, nat_tests, h, lacking_stay key rs)

-- the rows that live after a call depend on those before alone
pub rows_after : (limit : ℕ) (us : List Update) (c : Call) → AreRising us → rows_of (updates_then limit us c) ≡ rows_on limit (inserts us) c (rows_of us)
rows_after limit us (call.Select q) up = ap rows_of (append-nil us) ∙ sym (append-nil (filter (λ r. true) (rows_of us)) ∙ none_taken (rows_of us))
rows_after limit us (call.Insert cells) up = by_room (inserts us == limit)
  where
    whole : (bs : List Row) → filter (λ (r : Row). true) (rows_of us) ++ bs ≡ rows_of us ++ bs
    whole bs = ap (λ (l : List Row). l ++ bs) (none_taken (rows_of us))

    by_room : (b : Bool) → rows_of (us ++ cond b [] (update.Insert (row (inserts us + 1) cells) ∷ [])) ≡ filter (λ (r : Row). true) (rows_of us) ++ cond b [] (row (inserts us + 1) cells ∷ [])
    by_room true = ap rows_of (append-nil us) ∙ sym (whole [] ∙ append-nil (rows_of us))
    by_room false = rows_push us (update.Insert (row (inserts us + 1) cells)) ∙ sym (whole (row (inserts us + 1) cells ∷ []))
rows_after limit us (call.Delete key) up = by_key (has_key key (rows_of us)) refl ∙ sym (append-nil (filter (λ r. not (r.key == key)) (rows_of us)))
  where
    by_key : (b : Bool) → has_key key (rows_of us) ≡ b → rows_of (us ++ cond b (update.Remove key ∷ []) []) ≡ filter (λ r. not (r.key == key)) (rows_of us)
    by_key true is = rows_push us (update.Remove key)
    by_key false is = ap rows_of (append-nil us) ∙ sym (lacking_stay key (rows_of us) is)
rows_after limit us (call.DeleteWhere conds) up =
    sym (rows_of_more us (removals (matching conds (rows_of us)))) ∙ (drop_passing (meets_all conds) (rows_of us) up.rise ∙ sym (append-nil (filter (λ r. not (meets_all conds r)) (rows_of us))))

-- so does how many were given
pub given_after : (limit : ℕ) (us : List Update) (c : Call) → inserts (updates_then limit us c) ≡ given_on limit (inserts us) c
given_after limit us (call.Select q) = ap inserts (append-nil us) ∙ omega arith
given_after limit us (call.Insert cells) = by_room (inserts us == limit)
  where
    by_room : (b : Bool) → inserts (us ++ cond b [] (update.Insert (row (inserts us + 1) cells) ∷ [])) ≡ inserts us + length (cond b [] (row (inserts us + 1) cells ∷ []))
    by_room true = ap inserts (append-nil us) ∙ omega arith
    by_room false = inserts_insert us (row (inserts us + 1) cells)
given_after limit us (call.Delete key) = by_key (has_key key (rows_of us))
  where
    by_key : (b : Bool) → inserts (us ++ cond b (update.Remove key ∷ []) []) ≡ inserts us + 0
    by_key true = inserts_remove us key ∙ omega arith
    by_key false = ap inserts (append-nil us) ∙ omega arith
given_after limit us (call.DeleteWhere conds) = ap (λ (vs : List Update). inserts (us ++ vs)) (removals_keys (matching conds (rows_of us))) ∙ (inserts_removals us (map key_of (matching conds (rows_of us))) ∙ omega arith)

-- ---- what a call is replied

-- the reply by the rows that the call asks for
abbrev pub reply_on : ℕ → ℕ → Call → List Row → Reply
reply_on limit n (call.Select q) seen = answer_over seen q.want
reply_on limit n (call.Insert cells) seen = cond (n == limit) reply.Full (reply.Inserted (n + 1))
reply_on limit n (call.Delete key) seen = cond (has_key key seen) reply.Removed reply.NoSuchKey
reply_on limit n (call.DeleteWhere conds) seen = reply.RemovedMany (length seen)

key_seen : (key : ℕ) (rs : List Row) → has_key key rs ≡ has_key key (filter (λ r. r.key == key) rs)
key_seen key [] = refl
key_seen key (r ∷ rs) = by_test (r.key == key) refl (key_seen key rs)
  where
    by_test : (b : Bool) → (r.key == key) ≡ b → has_key key rs ≡ has_key key (filter (λ x. x.key == key) rs) → has_key key (r ∷ rs) ≡ has_key key (cond b (r ∷ filter (λ x. x.key == key) rs) (filter (λ x. x.key == key) rs))
    by_test true is rest = let same : (key == r.key) ≡ true = grind (arith, nat_tests, is) in rw same refl
    by_test false is rest = let other : (key == r.key) ≡ false = grind (arith, nat_tests, is) in rw other rest

-- and a reply depends on the rows that the call asks for
pub reply_is : (limit : ℕ) (us : List Update) (c : Call) → reply_to limit us c ≡ reply_on limit (inserts us) c (filter (asks c) (rows_of us))
reply_is limit us (call.Select q) = refl
reply_is limit us (call.Insert cells) = refl
reply_is limit us (call.Delete key) = ap (λ (b : Bool). cond b reply.Removed reply.NoSuchKey) (key_seen key (rows_of us))
reply_is limit us (call.DeleteWhere conds) = refl

-- ---- what stays of what a call asks for

all_split : (P : Row → Type 0) (xs ys : List Row) → AllByRecursion P (xs ++ ys) → AllByRecursion P xs × AllByRecursion P ys
all_split P [] ys a = (tt, a)
all_split P (x ∷ xs) ys a = let rest = all_split P xs ys a.1 in ((a.0, rest.0), rest.1)

changed_is : (limit : ℕ) (us : List Update) (c : Call) → rows_changed limit us c ≡ filter (takes c) (rows_of us) ++ brings limit (inserts us) c
changed_is limit us (call.Select q) = sym (append-nil (filter (λ r. false) (rows_of us)) ∙ all_left (rows_of us))
changed_is limit us (call.Insert cells) = ap (λ (l : List Row). l ++ cond (inserts us == limit) [] (row (inserts us + 1) cells ∷ [])) (sym (all_left (rows_of us)))
changed_is limit us (call.Delete key) = sym (append-nil (filter (λ r. r.key == key) (rows_of us)))
changed_is limit us (call.DeleteWhere conds) = sym (append-nil (matching conds (rows_of us)))

-- a call asks for no row that another takes out, nor for one that it brings
abbrev pub Overlooks : ℕ → List Update → Call → Call → Type 0
Overlooks limit us c d = AllByRecursion (λ r. asks d r ≡ false) (filter (takes c) (rows_of us)) × AllByRecursion (λ r. asks d r ≡ false) (brings limit (inserts us) c)

-- a call whose changes another does not ask for
pub overlooks : (limit : ℕ) (us : List Update) (c d : Call) → AsksForNone d (rows_changed limit us c) → Overlooks limit us c d
overlooks limit us c d none =
    let all = recursion_from_All (λ r. asks d r ≡ false) (rows_changed limit us c) none in
    all_split (λ r. asks d r ≡ false) (filter (takes c) (rows_of us)) (brings limit (inserts us) c) (subst (AllByRecursion (λ r. asks d r ≡ false)) (changed_is limit us c) all)

seen_past_taken : (p q : Row → Bool) (rs : List Row) → AllByRecursion (λ r. p r ≡ false) (filter q rs) → filter p (filter (λ r. not (q r)) rs) ≡ filter p rs
seen_past_taken p q [] a = refl
seen_past_taken p q (r ∷ rs) a = by_test (seen_past_taken p q rs) (q r) a
  where
    by_test : (AllByRecursion (λ x. p x ≡ false) (filter q rs) → filter p (filter (λ x. not (q x)) rs) ≡ filter p rs) → (b : Bool) → AllByRecursion (λ x. p x ≡ false) (cond b (r ∷ filter q rs) (filter q rs)) → filter p (cond (not b) (r ∷ filter (λ x. not (q x)) rs) (filter (λ x. not (q x)) rs)) ≡ cond (p r) (r ∷ filter p rs) (filter p rs)
    by_test rest true all = rest all.1 ∙ ap (λ (t : Bool). cond t (r ∷ filter p rs) (filter p rs)) (sym all.0)
    by_test rest false all = ap (λ (l : List Row). cond (p r) (r ∷ l) l) (rest all)

-- a filter that passes none leaves none
pub none_seen : (p : Row → Bool) (rs : List Row) → AllByRecursion (λ r. p r ≡ false) rs → filter p rs ≡ []
none_seen p [] a = refl
none_seen p (r ∷ rs) a = ap (λ (t : Bool). cond t (r ∷ filter p rs) (filter p rs)) a.0 ∙ none_seen p rs a.1

-- rows that a call asks for stay where it overlooks another
pub seen_stay : (limit : ℕ) (us : List Update) (c d : Call) → AreRising us → Overlooks limit us c d → filter (asks d) (rows_of (updates_then limit us c)) ≡ filter (asks d) (rows_of us)
seen_stay limit us c d up o =
    ap (filter (asks d)) (rows_after limit us c up) ∙ (filter-append (asks d) (filter (λ r. not (takes c r)) (rows_of us)) (brings limit (inserts us) c)
    ∙ (ap (λ (l : List Row). filter (asks d) (filter (λ r. not (takes c r)) (rows_of us)) ++ l) (none_seen (asks d) (brings limit (inserts us) c) o.1)
    ∙ (append-nil (filter (asks d) (filter (λ r. not (takes c r)) (rows_of us))) ∙ seen_past_taken (asks d) (takes c) (rows_of us) o.0)))

brings_none : (limit n : ℕ) (c : Call) → is_insert c ≡ false → brings limit n c ≡ []
brings_none limit n (call.Select q) h = refl
brings_none limit n (call.Insert cells) h = absurd (cc)
brings_none limit n (call.Delete key) h = refl
brings_none limit n (call.DeleteWhere conds) h = refl

-- what is no insert gives no row
pub given_stay : (limit : ℕ) (us : List Update) (c : Call) → is_insert c ≡ false → inserts (updates_then limit us c) ≡ inserts us
given_stay limit us c h = given_after limit us c ∙ (ap (λ (bs : List Row). inserts us + length bs) (brings_none limit (inserts us) c h) ∙ omega arith)

-- of two that are not both true
pub first_false : (a b : Bool) → (a && b) ≡ false → b ≡ true → a ≡ false
first_false true true h is = absurd (cc)
first_false true false h is = absurd (cc)
first_false false b h is = refl

reply_same : (limit m n : ℕ) (d : Call) (xs ys : List Row) → xs ≡ ys → (is_insert d ≡ true → m ≡ n) → reply_on limit m d xs ≡ reply_on limit n d ys
reply_same limit m n (call.Select q) xs ys same given = ap (λ (l : List Row). answer_over l q.want) same
reply_same limit m n (call.Insert cells) xs ys same given = ap (λ (k : ℕ). cond (k == limit) reply.Full (reply.Inserted (k + 1))) (given refl)
reply_same limit m n (call.Delete key) xs ys same given = ap (λ (l : List Row). cond (has_key key l) reply.Removed reply.NoSuchKey) same
reply_same limit m n (call.DeleteWhere conds) xs ys same given = ap (λ (l : List Row). reply.RemovedMany (length l)) same

-- a call is replied the same over lists of which it asks for the same rows
pub replies_by_seen : (limit : ℕ) (us vs : List Update) (c : Call) → filter (asks c) (rows_of us) ≡ filter (asks c) (rows_of vs) → (is_insert c ≡ true → inserts us ≡ inserts vs) → reply_to limit us c ≡ reply_to limit vs c
replies_by_seen limit us vs c seen given = reply_is limit us c ∙ (reply_same limit (inserts us) (inserts vs) c (filter (asks c) (rows_of us)) (filter (asks c) (rows_of vs)) seen given ∙ sym (reply_is limit vs c))

-- a call is replied the same before and after one that does not bear on it
pub reply_stays : (limit : ℕ) (us : List Update) (c d : Call) → AreRising us → AsksForNone d (rows_changed limit us c) → (is_insert c && is_insert d) ≡ false → reply_to limit (updates_then limit us c) d ≡ reply_to limit us d
reply_stays limit us c d up none one =
    let seen = seen_stay limit us c d up (overlooks limit us c d none) in
    reply_is limit (updates_then limit us c) d ∙ (reply_same limit (inserts (updates_then limit us c)) (inserts us) d (filter (asks d) (rows_of (updates_then limit us c))) (filter (asks d) (rows_of us)) seen (λ is. given_stay limit us c (first_false (is_insert c) (is_insert d) one is)) ∙ sym (reply_is limit us d))

-- ---- two calls in either order

takes_asks : (d : Call) (r : Row) → asks d r ≡ false → takes d r ≡ false
takes_asks (call.Select q) r h = refl
takes_asks (call.Insert cells) r h = refl
takes_asks (call.Delete key) r h = h
takes_asks (call.DeleteWhere conds) r h = h

-- a delete that asks for none takes none out
pub all_kept : (d : Call) (rs : List Row) → AllByRecursion (λ r. asks d r ≡ false) rs → filter (λ r. not (takes d r)) rs ≡ rs
all_kept d [] a = refl
all_kept d (r ∷ rs) a = ap (λ (t : Bool). cond (not t) (r ∷ filter (λ x. not (takes d x)) rs) (filter (λ x. not (takes d x)) rs)) (takes_asks d r a.0) ∙ ap (λ (l : List Row). r ∷ l) (all_kept d rs a.1)

-- two filters in either order
pub filters_swap : (p q : Row → Bool) (rs : List Row) → filter p (filter q rs) ≡ filter q (filter p rs)
filters_swap p q [] = refl
filters_swap p q (r ∷ rs) = by_tests (p r) (q r) refl refl (filters_swap p q rs)
  where
    by_tests : (a b : Bool) → p r ≡ a → q r ≡ b → filter p (filter q rs) ≡ filter q (filter p rs) → filter p (cond b (r ∷ filter q rs) (filter q rs)) ≡ filter q (cond a (r ∷ filter p rs) (filter p rs))
    by_tests true true is it rest = rw (is, it) (ap (λ (l : List Row). r ∷ l) rest)
    by_tests true false is it rest = rw it rest
    by_tests false true is it rest = rw is rest
    by_tests false false is it rest = rest

-- the rows after two calls, of which the second is no insert
second_takes : (limit : ℕ) (us : List Update) (c d : Call) → AreRising us → is_insert d ≡ false → Overlooks limit us c d → rows_of (updates_then limit (updates_then limit us c) d) ≡ filter (λ r. not (takes d r)) (filter (λ r. not (takes c r)) (rows_of us)) ++ brings limit (inserts us) c
second_takes limit us c d up still o =
    let left : List Row = filter (λ r. not (takes c r)) (rows_of us) in
    let more : List Row = brings limit (inserts us) c in
    rows_after limit (updates_then limit us c) d (rising_then limit us c up) ∙ (ap (λ (l : List Row). filter (λ r. not (takes d r)) (rows_of (updates_then limit us c)) ++ l) (brings_none limit (inserts (updates_then limit us c)) d still)
    ∙ (append-nil (filter (λ r. not (takes d r)) (rows_of (updates_then limit us c))) ∙ (ap (filter (λ r. not (takes d r))) (rows_after limit us c up)
    ∙ (filter-append (λ r. not (takes d r)) left more ∙ ap (λ (l : List Row). filter (λ r. not (takes d r)) left ++ l) (all_kept d more o.1)))))

-- the rows after the same calls in the other order
first_takes : (limit : ℕ) (us : List Update) (c d : Call) → AreRising us → is_insert d ≡ false → rows_of (updates_then limit (updates_then limit us d) c) ≡ filter (λ r. not (takes c r)) (filter (λ r. not (takes d r)) (rows_of us)) ++ brings limit (inserts us) c
first_takes limit us c d up still =
    rows_after limit (updates_then limit us d) c (rising_then limit us d up)
    ∙ (ap (λ (n : ℕ). filter (λ r. not (takes c r)) (rows_of (updates_then limit us d)) ++ brings limit n c) (given_stay limit us d still)
    ∙ ap (λ (l : List Row). filter (λ r. not (takes c r)) l ++ brings limit (inserts us) c) (rows_after limit us d up ∙ (ap (λ (l : List Row). filter (λ r. not (takes d r)) (rows_of us) ++ l) (brings_none limit (inserts us) d still) ∙ append-nil (filter (λ r. not (takes d r)) (rows_of us)))))

alike_by_second : (limit : ℕ) (us : List Update) (c d : Call) → AreRising us → is_insert d ≡ false → Overlooks limit us c d → AreAlike (updates_then limit (updates_then limit us c) d) (updates_then limit (updates_then limit us d) c)
alike_by_second limit us c d up still o = record {
  rows = second_takes limit us c d up still o ∙ (ap (λ (l : List Row). l ++ brings limit (inserts us) c) (filters_swap (λ r. not (takes d r)) (λ r. not (takes c r)) (rows_of us)) ∙ sym (first_takes limit us c d up still));
  given = given_stay limit (updates_then limit us c) d still ∙ (given_after limit us c ∙ (ap (λ (n : ℕ). given_on limit n c) (sym (given_stay limit us d still)) ∙ sym (given_after limit (updates_then limit us d) c)));
}

-- what is alike is so the other way
pub alike_other : (us vs : List Update) → AreAlike us vs → AreAlike vs us
alike_other us vs a = record { rows = sym a.rows; given = sym a.given }

-- calls that are apart leave what is alike in either order
pub alike_swapped : (limit : ℕ) (us : List Update) (c d : Call) → AreRising us → AreApart limit us c d → AreAlike (updates_then limit (updates_then limit us c) d) (updates_then limit (updates_then limit us d) c)
alike_swapped limit us c d up apart = by_test (is_insert d) refl
  where
    by_test : (b : Bool) → is_insert d ≡ b → AreAlike (updates_then limit (updates_then limit us c) d) (updates_then limit (updates_then limit us d) c)
    by_test false is = alike_by_second limit us c d up is (overlooks limit us c d apart.first)
    by_test true is = alike_other (updates_then limit (updates_then limit us d) c) (updates_then limit (updates_then limit us c) d) (alike_by_second limit us d c up (first_false (is_insert c) (is_insert d) apart.one_inserts is) (overlooks limit us d c apart.second))

-- ---- lists that are alike

-- what is alike has one reply
pub alike_replies : (limit : ℕ) (us vs : List Update) (c : Call) → AreAlike us vs → reply_to limit us c ≡ reply_to limit vs c
alike_replies limit us vs c a = reply_is limit us c ∙ (reply_same limit (inserts us) (inserts vs) c (filter (asks c) (rows_of us)) (filter (asks c) (rows_of vs)) (ap (filter (asks c)) a.rows) (λ is. a.given) ∙ sym (reply_is limit vs c))

-- what a call appends, by the rows and how many were given
abbrev update_on : ℕ → ℕ → Call → List Row → List Update
update_on limit n (call.Select q) rs = []
update_on limit n (call.Insert cells) rs = cond (n == limit) [] (update.Insert (row (n + 1) cells) ∷ [])
update_on limit n (call.Delete key) rs = cond (has_key key rs) (update.Remove key ∷ []) []
update_on limit n (call.DeleteWhere conds) rs = removals (matching conds rs)

update_is : (limit : ℕ) (us : List Update) (c : Call) → update_by limit us c ≡ update_on limit (inserts us) c (rows_of us)
update_is limit us (call.Select q) = refl
update_is limit us (call.Insert cells) = refl
update_is limit us (call.Delete key) = refl
update_is limit us (call.DeleteWhere conds) = refl

same_updates : (limit : ℕ) (us vs : List Update) (c : Call) → AreAlike us vs → update_by limit us c ≡ update_by limit vs c
same_updates limit us vs c a = update_is limit us c ∙ (ap (λ (n : ℕ). update_on limit n c (rows_of us)) a.given ∙ (ap (update_on limit (inserts vs) c) a.rows ∙ sym (update_is limit vs c)))

-- and stays alike
pub alike_then : (limit : ℕ) (us vs : List Update) (c : Call) → AreAlike us vs → AreAlike (updates_then limit us c) (updates_then limit vs c)
alike_then limit us vs c a = record {
  rows = sym (rows_of_more us (update_by limit us c)) ∙ (ap (λ (l : List Row). fold rows_then l (update_by limit us c)) a.rows ∙ (ap (fold rows_then (rows_of vs)) (same_updates limit us vs c a) ∙ rows_of_more vs (update_by limit vs c)));
  given = given_after limit us c ∙ (ap (λ (n : ℕ). given_on limit n c) a.given ∙ sym (given_after limit vs c));
}
