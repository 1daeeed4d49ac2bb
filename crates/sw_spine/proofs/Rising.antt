-- The rows of a history stand in the order of their keys, which rise.
use Rattle.std.proofs.Common.{◌≡◌, ◌<◌, ◌≤◌, ◌+◌, ◌++◌, ◌==◌, ℕ, Bool, true, false, not, cond, List, [], ◌∷◌, filter, length, refl, sym, subst, ◌∙◌, arith, append_assoc}
use Rattle.std.proofs.lemmas.Bool.Decides.{nat_tests}
use Rattle.std.proofs.lemmas.List.{append-nil}
use Rattle.std.specs.List.{AllByRecursion}
use Rattle.sw_query.specs.Scan.{matching, meets_all}
use Rattle.sw_query.specs.declared.query.Call.{Call}
use Rattle.sw_query.specs.declared.query.Cond.{Cond}
use Rattle.sw_query.specs.declared.query.Call.TheVariants as call
use Rattle.sw_table.specs.Live.{Rises, key_of}
use Rattle.sw_table.specs.Updates.{has_key, rows_of, without}
use Rattle.sw_table.specs.declared.row.Row.{Row}
use Rattle.sw_table.specs.declared.row.Update.{Update}
use Rattle.sw_table.specs.declared.row.Update.TheVariants as update
use Rattle.sw_spine.specs.History.{updates_after}
use Rattle.sw_spine.specs.Table.{inserts, is_numbered, opened, removals, row, updates_then}
use Rattle.sw_spine.specs.Visits.{RowsRise}
use Rattle.sw_spine.specs.declared.history.Entry.{Entry}
use Rattle.sw_spine.proofs.StoreLemmas.{has_key_without, inserts_insert, inserts_opened, inserts_remove, numbered_rises, rows_of_opened, rows_push}

-- ---- rows that rise

abbrev AllUpTo : ℕ → List Row → Type 0
AllUpTo n rs = AllByRecursion (λ (r : Row). r.key ≤ n) rs

up_to_more : (m n : ℕ) (rs : List Row) → m ≤ n → AllUpTo m rs → AllUpTo n rs
up_to_more m n [] le a = tt
up_to_more m n (r ∷ rs) le a = (omega (arith, a.0, le), up_to_more m n rs le a.1)

all_pushed : (P : Row → Type 0) (rs : List Row) (r : Row) → AllByRecursion P rs → P r → AllByRecursion P (rs ++ r ∷ [])
all_pushed P [] r a p = (p, tt)
all_pushed P (x ∷ rs) r a p = (a.0, all_pushed P rs r a.1 p)

rises_pushed : (n : ℕ) (rs : List Row) (r : Row) → Rises key_of rs → AllUpTo n rs → n < r.key → Rises key_of (rs ++ r ∷ [])
rises_pushed n [] r up below lt = (tt, tt)
rises_pushed n (x ∷ rs) r up below lt = (all_pushed (λ (y : Row). key_of x < key_of y) rs r up.0 (omega (arith, below.0, lt)), rises_pushed n rs r up.1 below.1 lt)

-- what holds of all rows holds of some of them
pub all_filtered : (P : Row → Type 0) (p : Row → Bool) (rs : List Row) → AllByRecursion P rs → AllByRecursion P (filter p rs)
all_filtered P p [] a = tt
all_filtered P p (r ∷ rs) a = by_test (p r) (all_filtered P p rs a.1)
  where
    by_test : (b : Bool) → AllByRecursion P (filter p rs) → AllByRecursion P (cond b (r ∷ filter p rs) (filter p rs))
    by_test true later = (a.0, later)
    by_test false later = later

-- some of the rows rise where all do
pub rises_filtered : (p : Row → Bool) (rs : List Row) → Rises key_of rs → Rises key_of (filter p rs)
rises_filtered p [] up = tt
rises_filtered p (r ∷ rs) up = by_test (p r) (rises_filtered p rs up.1)
  where
    by_test : (b : Bool) → Rises key_of (filter p rs) → Rises key_of (cond b (r ∷ filter p rs) (filter p rs))
    by_test true later = (all_filtered (λ (y : Row). key_of r < key_of y) p rs up.0, later)
    by_test false later = later

-- ---- keys of rows are there

has_more : (x : Row) (rs ys : List Row) → AllByRecursion (λ (r : Row). has_key r.key rs ≡ true) ys → AllByRecursion (λ (r : Row). has_key r.key (x ∷ rs) ≡ true) ys
has_more x rs [] a = tt
has_more x rs (y ∷ ys) a = (grind (arith, nat_tests, a.0), has_more x rs ys a.1)

-- each row has its key among the rows
pub has_own : (rs : List Row) → AllByRecursion (λ (r : Row). has_key r.key rs ≡ true) rs
has_own [] = tt
has_own (r ∷ rs) = (grind (arith, nat_tests), has_more r rs rs (has_own rs))

-- the rows that meet conditions are there
pub has_matching : (us : List Update) (cs : List Cond) → AllByRecursion (λ (r : Row). has_key r.key (rows_of us) ≡ true) (matching cs (rows_of us))
has_matching us cs = all_filtered (λ (r : Row). has_key r.key (rows_of us) ≡ true) (meets_all cs) (rows_of us) (has_own (rows_of us))

-- other keys stay where one goes
pub has_still : (k : ℕ) (live rs : List Row) → AllByRecursion (λ (r : Row). has_key r.key live ≡ true) rs → AllByRecursion (λ (r : Row). k < key_of r) rs → AllByRecursion (λ (r : Row). has_key r.key (without k live) ≡ true) rs
has_still k live [] a above = tt
has_still k live (r ∷ rs) a above = (has_key_without r.key k live ∙ grind (arith, nat_tests, a.0, above.0), has_still k live rs a.1 above.1)

-- ---- the rows of updates

pub record AreRising (us : List Update) : Type 0 where
  pub rise : Rises key_of (rows_of us)
  pub below : AllByRecursion (λ (r : Row). r.key ≤ inserts us) (rows_of us)

-- rows stay rising with the next key
pub rising_insert : (us : List Update) (r : Row) → AreRising us → r.key ≡ inserts us + 1 → AreRising (us ++ update.Insert r ∷ [])
rising_insert us r s is =
    let rows = sym (rows_push us (update.Insert r)) in
    let count : inserts us + 1 ≡ inserts (us ++ update.Insert r ∷ []) = sym (inserts_insert us r) in
    let high : r.key ≤ inserts us + 1 = omega (arith, is) in
    let all : AllUpTo (inserts us + 1) (rows_of us ++ r ∷ []) = all_pushed (λ (x : Row). x.key ≤ inserts us + 1) (rows_of us) r (up_to_more (inserts us) (inserts us + 1) (rows_of us) (omega arith) s.below) high in
    record {
      rise = subst (Rises key_of) rows (rises_pushed (inserts us) (rows_of us) r s.rise s.below (omega (arith, is)));
      below = subst (λ (n : ℕ). AllUpTo n (rows_of (us ++ update.Insert r ∷ []))) count (subst (AllUpTo (inserts us + 1)) rows all);
    }

-- and as one is removed
pub rising_remove : (us : List Update) (k : ℕ) → AreRising us → AreRising (us ++ update.Remove k ∷ [])
rising_remove us k s =
    let rows = sym (rows_push us (update.Remove k)) in
    let test : Row → Bool = λ r. not (r.key == k) in
    record {
      rise = subst (Rises key_of) rows (rises_filtered test (rows_of us) s.rise);
      below = subst (λ (n : ℕ). AllUpTo n (rows_of (us ++ update.Remove k ∷ []))) (sym (inserts_remove us k)) (subst (AllUpTo (inserts us)) rows (all_filtered (λ (r : Row). r.key ≤ inserts us) test (rows_of us) s.below));
    }

-- and as several are
pub rising_removals : (us : List Update) (rs : List Row) → AreRising us → AreRising (us ++ removals rs)
rising_removals us [] s = subst AreRising (sym (append-nil us)) s
rising_removals us (r ∷ rs) s = subst AreRising (append_assoc us (update.Remove r.key ∷ []) (removals rs)) (rising_removals (us ++ update.Remove r.key ∷ []) rs (rising_remove us r.key s))

numbered_within : (n : ℕ) (rs : List Row) → is_numbered (n + 1) rs ≡ true → AllUpTo (n + length rs) rs
numbered_within n [] h = tt
numbered_within n (r ∷ rs) h =
    let first : r.key ≡ n + 1 = grind (arith, nat_tests, h) in
    let rest : is_numbered (n + 1 + 1) rs ≡ true = grind (arith, nat_tests, h) in
    (omega (arith, first), up_to_more (n + 1 + length rs) (n + length (r ∷ rs)) rs (omega arith) (numbered_within (n + 1) rs rest))

-- opening rows that are numbered rise
pub rising_opened : (rows : List Row) → is_numbered 1 rows ≡ true → AreRising (opened rows)
rising_opened rows numbered =
    let same = sym (rows_of_opened rows) in
    let whole : 0 + length rows ≡ length rows = omega arith in
    let all : AllUpTo (length rows) rows = subst (λ (n : ℕ). AllUpTo n rows) whole (numbered_within 0 rows numbered) in
    record {
      rise = subst (Rises key_of) same (numbered_rises 1 rows numbered);
      below = subst (λ (n : ℕ). AllUpTo n (rows_of (opened rows))) (sym (inserts_opened rows)) (subst (AllUpTo (length rows)) same all);
    }

-- rows stay rising behind each call
pub rising_then : (limit : ℕ) (us : List Update) (c : Call) → AreRising us → AreRising (updates_then limit us c)
rising_then limit us (call.Select q) s = subst AreRising (sym (append-nil us)) s
rising_then limit us (call.Insert cells) s = by_room (inserts us == limit)
  where
    by_room : (b : Bool) → AreRising (us ++ cond b [] (update.Insert (row (inserts us + 1) cells) ∷ []))
    by_room true = subst AreRising (sym (append-nil us)) s
    by_room false = rising_insert us (row (inserts us + 1) cells) s refl
rising_then limit us (call.Delete key) s = by_key (has_key key (rows_of us))
  where
    by_key : (b : Bool) → AreRising (us ++ cond b (update.Remove key ∷ []) [])
    by_key true = rising_remove us key s
    by_key false = subst AreRising (sym (append-nil us)) s
rising_then limit us (call.DeleteWhere conds) s = rising_removals us (matching conds (rows_of us)) s

rising_after : (limit : ℕ) (us : List Update) (es : List Entry) → AreRising us → AreRising (updates_after limit us es)
rising_after limit us [] s = s
rising_after limit us (e ∷ es) s = rising_after limit (updates_then limit us e.call) es (rising_then limit us e.call s)

-- the rows of each history rise
pub rows_rise : RowsRise
rows_rise h numbered = (rising_after h.limit (opened h.rows) h.entries (rising_opened h.rows numbered)).rise
