-- The rows of records that are cut in two are those of the two parts, joined.
use Rattle.std.proofs.Common.{◌≡◌, ◌∙◌, ap, sym, refl, ℕ, ℤ, ◌+◌, ◌^◌, ◌<◌, ◌≤◌, Bool, ◌&&◌, true, false, cond, List, [], ◌∷◌, ◌++◌, length, map, min, nat_eq, nat_lt, Option, Some, None, Result, Ok, Err, append_assoc, append-nil, length-append, arith, rules}
use Rattle.std.proofs.lemmas.List.{length-map, map-append}
use Rattle.std.proofs.lemmas.Grind.{common_steps}
use Rattle.std.specs.Prelude.{All, IfOk}
use Rattle.std.proofs.lemmas.Bool.Decides.{nat_tests}
use Rattle.sw_rows.specs.Cells.{cell_value}
use Rattle.sw_rows.specs.Header.{Fault, bad_table, too_many}
use Rattle.sw_rows.specs.Gives.{Gives}
use Rattle.sw_query.specs.declared.refusal.Refusal.{Refusal}
use Rattle.sw_rows.specs.declared.table.TheConstants.{MOST_ROWS}
use Rattle.sw_rows.specs.Parts.{IsPart, rows_behind, rows_joined}
use Rattle.sw_table.specs.Packed.{Packed, row_behind}
use Rattle.sw_rows.specs.Tables.{◌>>=◌, cells_after, cells_of, or_bad, padded, row_of, rows_after, then_padded}
use Rattle.sw_rows.specs.Domains.{Domain, is_of_texts}
use Rattle.sw_rows.specs.Texts.{is_text}
use Rattle.sw_rows.specs.declared.schema.texts.TheConstants.{MOST_TEXTS}
use Rattle.sw_table.specs.declared.row.Row.{Row}
use Rattle.sw_rows.proofs.Options.{by_bool}

lt_of : (a b : ℕ) → nat_lt a b ≡ true → a < b
lt_of a b h = grind (arith, nat_tests, h)

bind_assoc : {A B C : Type 0} (o : Result A Fault) (f : A → Result B Fault) (g : B → Result C Fault) → ((o >>= f) >>= g) ≡ (o >>= λ x. f x >>= g)
bind_assoc (Ok x) f g = refl
bind_assoc (Err e) f g = refl

bind_same : {A B : Type 0} (o : Result A Fault) (f g : A → Result B Fault) → ((x : A) → f x ≡ g x) → (o >>= f) ≡ (o >>= g)
bind_same (Ok x) f g h = h x
bind_same (Err e) f g h = refl

cond_bind : {A B : Type 0} (b : Bool) (x : Result A Fault) (e : Fault) (g : A → Result B Fault) → (cond b x (Err e) >>= g) ≡ cond b (x >>= g) (Err e)
cond_bind true x e g = refl
cond_bind false x e g = refl

-- the rows of records in two parts, of which the second goes on from the first
pub rows_append : (ks : List Domain) (xs ys : List (List (List ℕ))) (done : List Row) → rows_after ks done (xs ++ ys) ≡ (rows_after ks done xs >>= λ d. rows_after ks d ys)
rows_append ks [] ys done = refl
rows_append ks (x ∷ xs) ys done =
    let read = then_padded (cells_of (length done + 1) ks x) in
    let next = λ (cells : List ℤ). done ++ row_of (length done + 1) cells ∷ [] in
    ap (λ r. cond (nat_lt (length done) MOST_ROWS) r (Err (too_many MOST_ROWS)))
    (bind_same read (λ cells. rows_after ks (next cells) (xs ++ ys)) (λ cells. rows_after ks (next cells) xs >>= λ d. rows_after ks d ys) (λ cells. rows_append ks xs ys (next cells))
    ∙ sym (bind_assoc read (λ cells. rows_after ks (next cells) xs) (λ d. rows_after ks d ys)))
    ∙ sym (cond_bind (nat_lt (length done) MOST_ROWS) (read >>= λ cells. rows_after ks (next cells) xs) (too_many MOST_ROWS) (λ d. rows_after ks d ys))

-- the cells of a record, or the field at fault, whatever the record's number, or that there are texts enough already
abbrev at_record : Result (List ℤ) (Option ℕ) → ℕ → Result (List ℤ) Fault
at_record (Ok cells) rec = Ok cells
at_record (Err (Some field)) rec = Err (bad_table rec field)
at_record (Err None) rec = Err (too_many MOST_ROWS)

abbrev Shape : (ℕ → Result (List ℤ) Fault) → Type 0
Shape f = (x : Result (List ℤ) (Option ℕ)) × ((rec : ℕ) → f rec ≡ at_record x rec)

cells_shape : (ks : List Domain) (fields : List (List ℕ)) (done : List ℤ) → Shape (λ rec. cells_after rec done ks fields)
cells_shape [] fields done = (Ok done, λ rec. refl)
cells_shape (k ∷ ks) [] done = (Ok done, λ rec. refl)
cells_shape (k ∷ ks) (t ∷ ts) done = by_value (is_of_texts k && is_text t) (cell_value k t) (λ z. cells_shape ks ts (done ++ z ∷ []))
  where
    by_value : (b : Bool) (o : Option ℤ) → ((z : ℤ) → Shape (λ rec. cells_after rec (done ++ z ∷ []) ks ts)) → Shape (λ rec. or_bad (cond b (too_many MOST_TEXTS) (bad_table rec (length done + 1))) o (λ z. cells_after rec (done ++ z ∷ []) ks ts))
    by_value true None more = (Err None, λ rec. refl)
    by_value false None more = (Err (Some (length done + 1)), λ rec. refl)
    by_value b (Some z) more = more z

abbrev pad : Result (List ℤ) (Option ℕ) → Result (List ℤ) (Option ℕ)
pad (Ok cells) = Ok (padded cells)
pad (Err field) = Err field

padded_at : (x : Result (List ℤ) (Option ℕ)) (rec : ℕ) → then_padded (at_record x rec) ≡ at_record (pad x) rec
padded_at (Ok cells) rec = refl
padded_at (Err (Some field)) rec = refl
padded_at (Err None) rec = refl

-- the number of a record stands in its fault alone
pub record_shape : (ks : List Domain) (fields : List (List ℕ)) → Shape (λ rec. then_padded (cells_of rec ks fields))
record_shape ks fields = by_count (nat_eq (length fields) (length ks)) (cells_shape ks fields [])
  where
    by_count : (b : Bool) → Shape (λ rec. cells_after rec [] ks fields) → Shape (λ rec. then_padded (cond b (cells_after rec [] ks fields) (Err (bad_table rec (min (length fields) (length ks) + 1)))))
    by_count true s = (pad s.0, λ rec. ap then_padded (s.1 rec) ∙ padded_at s.0 rec)
    by_count false s = (Err (Some (min (length fields) (length ks) + 1)), λ rec. refl)

-- what is read of the rows after some lies behind those
abbrev Past : ℕ → Result (List Row) Fault → Type 0
Past n (Ok rows) = n < length rows
Past n (Err (bad_table rec field)) = n < rec
Past n (Err (too_many limit)) = Unit {0}

earlier : (n m : ℕ) (o : Result (List Row) Fault) → n < m → Past m o → Past n o
earlier n m (Ok rows) h p = omega (arith, h, p)
earlier n m (Err (bad_table rec field)) h p = omega (arith, h, p)
earlier n m (Err (too_many limit)) h p = tt

one_more : (rows : List Row) (r : Row) → length (rows ++ r ∷ []) ≡ length rows + 1
one_more rows r = length-append rows (r ∷ [])

past : (ks : List Domain) (y : List (List ℕ)) (ys : List (List (List ℕ))) (done : List Row) → Past (length done) (rows_after ks done (y ∷ ys))
past ks y [] done = by_room (nat_lt (length done) MOST_ROWS) (record_shape ks y)
  where
    by_read : (x : Result (List ℤ) (Option ℕ)) → Past (length done) (at_record x (length done + 1) >>= λ cells. rows_after ks (done ++ row_of (length done + 1) cells ∷ []) [])
    by_read (Ok cells) = let more = one_more done (row_of (length done + 1) cells) in omega (arith, more)
    by_read (Err (Some field)) = omega arith
    by_read (Err None) = tt

    by_room : (b : Bool) → Shape (λ rec. then_padded (cells_of rec ks y)) → Past (length done) (cond b (then_padded (cells_of (length done + 1) ks y) >>= λ cells. rows_after ks (done ++ row_of (length done + 1) cells ∷ []) []) (Err (too_many MOST_ROWS)))
    by_room true s = rw (s.1 (length done + 1)) (by_read s.0)
    by_room false s = tt
past ks y (z ∷ ys) done = by_room (nat_lt (length done) MOST_ROWS) (record_shape ks y) (past ks z ys)
  where
    by_read : (x : Result (List ℤ) (Option ℕ)) → ((e : List Row) → Past (length e) (rows_after ks e (z ∷ ys))) → Past (length done) (at_record x (length done + 1) >>= λ cells. rows_after ks (done ++ row_of (length done + 1) cells ∷ []) (z ∷ ys))
    by_read (Ok cells) more =
        let next = done ++ row_of (length done + 1) cells ∷ [] in
        let longer = one_more done (row_of (length done + 1) cells) in
        earlier (length done) (length next) (rows_after ks next (z ∷ ys)) (omega (arith, longer)) (more next)
    by_read (Err (Some field)) more = omega arith
    by_read (Err None) more = tt

    by_room : (b : Bool) → Shape (λ rec. then_padded (cells_of rec ks y)) → ((e : List Row) → Past (length e) (rows_after ks e (z ∷ ys)))
        → Past (length done) (cond b (then_padded (cells_of (length done + 1) ks y) >>= λ cells. rows_after ks (done ++ row_of (length done + 1) cells ∷ []) (z ∷ ys)) (Err (too_many MOST_ROWS)))
    by_room true s more = rw (s.1 (length done + 1)) (by_read s.0 more)
    by_room false s more = tt

-- what lies past the greatest number of rows is too much
too_far : (d : List Row) (n : ℕ) (o : Result (List Row) Fault) → MOST_ROWS ≤ length d + n → Past n o → rows_behind d o ≡ Err (too_many MOST_ROWS)
too_far d n (Ok rows) h p =
    let over : nat_lt MOST_ROWS (length d + length rows) ≡ true = grind (arith, nat_tests, h, p) in
    rw over refl
too_far d n (Err (bad_table rec field)) h p =
    let over : nat_lt MOST_ROWS (length d + rec) ≡ true = grind (arith, nat_tests, h, p) in
    rw over refl
too_far d n (Err (too_many limit)) h p = refl

-- the rows behind others are those of a part of its own
pub rows_shift : (ks : List Domain) (ys : List (List (List ℕ))) (d e : List Row) → length d + length e ≤ MOST_ROWS
    → rows_after ks (d ++ map (row_behind (length d)) e) ys ≡ rows_behind d (rows_after ks e ys)
rows_shift ks [] d e h =
    let room : nat_lt MOST_ROWS (length d + length e) ≡ false = grind (arith, nat_tests, h) in
    rw room refl
rows_shift ks (y ∷ ys) d e h =
    let front = d ++ map (row_behind (length d)) e in
    let long : length front ≡ length d + length e = length-append d (map (row_behind (length d)) e) ∙ ap (λ n. length d + n) (length-map e (row_behind (length d))) in
    by_bool (nat_lt (length d + length e) MOST_ROWS)
    (λ lt.
    let outer : nat_lt (length front) MOST_ROWS ≡ true = ap (λ n. nat_lt n MOST_ROWS) long ∙ lt in
    let inner : nat_lt (length e) MOST_ROWS ≡ true = grind (arith, nat_tests, lt) in
    let s = record_shape ks y in
    rw (outer, inner, s.1 (length front + 1), s.1 (length e + 1)) (by_read s.0 long (lt_of _ _ lt) (rows_shift ks ys d)))
    (λ no.
    let outer : nat_lt (length front) MOST_ROWS ≡ false = ap (λ n. nat_lt n MOST_ROWS) long ∙ no in
    let full : MOST_ROWS ≤ length d + length e = grind (arith, nat_tests, no) in
    rw outer (sym (too_far d (length e) (rows_after ks e (y ∷ ys)) full (past ks y ys e))))
  where
    by_read : (x : Result (List ℤ) (Option ℕ)) → length (d ++ map (row_behind (length d)) e) ≡ length d + length e → length d + length e < MOST_ROWS
        → ((more : List Row) → length d + length more ≤ MOST_ROWS → rows_after ks (d ++ map (row_behind (length d)) more) ys ≡ rows_behind d (rows_after ks more ys))
        → (at_record x (length (d ++ map (row_behind (length d)) e) + 1) >>= λ cells. rows_after ks ((d ++ map (row_behind (length d)) e) ++ row_of (length (d ++ map (row_behind (length d)) e) + 1) cells ∷ []) ys)
        ≡ rows_behind d (at_record x (length e + 1) >>= λ cells. rows_after ks (e ++ row_of (length e + 1) cells ∷ []) ys)
    by_read (Ok cells) long lt next =
        let row = row_of (length e + 1) cells in
        let key : length (d ++ map (row_behind (length d)) e) + 1 ≡ length d + (length e + 1) = omega (arith, long) in
        let longer = one_more e row in
        ap (λ rows. rows_after ks rows ys) (ap (λ k. (d ++ map (row_behind (length d)) e) ++ row_of k cells ∷ []) key ∙ append_assoc d (map (row_behind (length d)) e) (row_behind (length d) row ∷ []) ∙ ap (λ rows. d ++ rows) (sym (map-append (row_behind (length d)) e (row ∷ []))))
        ∙ next (e ++ row ∷ []) (omega (arith, longer, lt))
    by_read (Err None) long lt next = refl
    by_read (Err (Some field)) long lt next =
        let key : length (d ++ map (row_behind (length d)) e) + 1 ≡ length d + (length e + 1) = omega (arith, long) in
        let room : nat_lt MOST_ROWS (length d + (length e + 1)) ≡ false = grind (arith, nat_tests, lt) in
        rw (room, key) refl

-- few rows stay few
abbrev Few : Result (List Row) Fault → Type 0
Few (Ok rows) = length rows ≤ MOST_ROWS
Few (Err e) = Unit {0}

few : (ks : List Domain) (ys : List (List (List ℕ))) (done : List Row) → length done ≤ MOST_ROWS → Few (rows_after ks done ys)
few ks [] done h = h
few ks (y ∷ ys) done h = by_bool (nat_lt (length done) MOST_ROWS)
    (λ lt. rw lt (by_read (then_padded (cells_of (length done + 1) ks y)) (lt_of _ _ lt) (few ks ys)))
    (λ no. rw no tt)
  where
    by_read : (o : Result (List ℤ) Fault) → length done < MOST_ROWS → ((more : List Row) → length more ≤ MOST_ROWS → Few (rows_after ks more ys)) → Few (o >>= λ cells. rows_after ks (done ++ row_of (length done + 1) cells ∷ []) ys)
    by_read (Ok cells) lt next = let longer = one_more done (row_of (length done + 1) cells) in next (done ++ row_of (length done + 1) cells ∷ []) (omega (arith, longer, lt))
    by_read (Err e) lt next = tt

-- two parts, each with records of its own
pub rows_cut : (ks : List Domain) (xs ys : List (List (List ℕ))) → rows_after ks [] (xs ++ ys) ≡ rows_joined (rows_after ks [] xs) (rows_after ks [] ys)
rows_cut ks xs ys = rows_append ks xs ys [] ∙ by_first (rows_after ks [] xs) (few ks xs [] (omega arith))
  where
    by_first : (o : Result (List Row) Fault) → Few o → (o >>= λ d. rows_after ks d ys) ≡ rows_joined o (rows_after ks [] ys)
    by_first (Ok d) h = ap (λ rows. rows_after ks rows ys) (sym (append-nil d)) ∙ rows_shift ks ys d [] (omega (arith, h))
    by_first (Err e) h = refl

-- the keys of a part
abbrev Keyed : Result (List Row) Fault → Type 0
Keyed (Ok rows) = All (λ r. r.key < 2 ^ 63) rows
Keyed (Err e) = Unit {0}

all_more : (rows : List Row) (r : Row) → All (λ r. r.key < 2 ^ 63) rows → r.key < 2 ^ 63 → All (λ r. r.key < 2 ^ 63) (rows ++ r ∷ [])
all_more rows r h k = grind (arith, common_steps, h, k)

keyed : (ks : List Domain) (ys : List (List (List ℕ))) (done : List Row) → All (λ r. r.key < 2 ^ 63) done → Keyed (rows_after ks done ys)
keyed ks [] done h = h
keyed ks (y ∷ ys) done h = by_bool (nat_lt (length done) MOST_ROWS)
    (λ lt. rw lt (by_read (then_padded (cells_of (length done + 1) ks y)) (lt_of _ _ lt) (keyed ks ys)))
    (λ no. rw no tt)
  where
    by_read : (o : Result (List ℤ) Fault) → length done < MOST_ROWS → ((more : List Row) → All (λ r. r.key < 2 ^ 63) more → Keyed (rows_after ks more ys)) → Keyed (o >>= λ cells. rows_after ks (done ++ row_of (length done + 1) cells ∷ []) ys)
    by_read (Ok cells) lt next = next (done ++ row_of (length done + 1) cells ∷ []) (all_more done (row_of (length done + 1) cells) h (omega (arith, lt)))
    by_read (Err e) lt next = tt

-- what is read of records is a part
pub gives_part : (ks : List Domain) (ys : List (List (List ℕ))) (width : ℕ) (result : Result Packed Refusal) → Gives ⊥ (λ rows. rows.items) result (rows_after ks [] ys) → IfOk result (λ rows. rows.width ≡ width) → IfOk result (IsPart width)
gives_part ks ys width (Ok rows) h is = record { few = rw h at (few ks ys [] (omega arith)); keys = rw h at (keyed ks ys [] (search rules)); width = is }
gives_part ks ys width (Err e) h is = tt
