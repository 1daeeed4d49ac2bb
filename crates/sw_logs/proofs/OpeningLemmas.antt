-- The rows of a table that was read, and what is answered of it.
use Rattle.std.proofs.Common.{◌≡◌, ◌<◌, ◌≤◌, ap, refl, ℕ, suc, ◌+◌, Bool, true, false, List, [], ◌∷◌, length, Option, Some, None, IfSome, Result, Ok, Err, arith, slice_get, eqb, nat_lt, ◌&&◌}
use Rattle.std.proofs.lemmas.Bool.Decides.{Decides-eqb}
use Rattle.std.proofs.lemmas.Grind.{common_steps}
use Rattle.sw_query.specs.declared.refusal.Refusal.{Refusal}
use Rattle.sw_query.specs.declared.refusal.Refusal.TheVariants as refusal
use Rattle.sw_rows.proofs.Scans.RowLaws.{keys-count}
use Rattle.sw_rows.specs.Gives.{Fails, Raised}
use Rattle.sw_rows.specs.Header.{Column, Fault, too_many}
use Rattle.sw_rows.specs.Tables.{◌>>=◌, IsLoaded, Table, shown_packed, table_of}
use Rattle.sw_table.specs.Packed.{Packed}
use Rattle.sw_table.specs.declared.row.Row.{Row}
use Rattle.sw_spine.specs.Table.{is_numbered}
use Rattle.sw_logs.specs.Openings.{OpensFrom, table_in, within}
use Rattle.sw_logs.specs.declared.opening.Opening.{Opening}

both-true : (a b : Bool) → a ≡ true → b ≡ true → (a && b) ≡ true
both-true a b h k = rw (h, k) refl

-- rows whose keys count on from n
numbered_from : (n : ℕ) (rows : List Row) → ((i : ℕ) (r : Row) → slice_get rows i ≡ Some r → r.key ≡ n + i) → is_numbered n rows ≡ true
numbered_from n [] h = refl
numbered_from n (r ∷ rs) h =
    let first : r.key ≡ n = let k = h 0 r refl in omega arith in
    both-true (eqb r.key n) (is_numbered (n + 1) rs) ((Decides-eqb r.key n).1 first) (numbered_from (n + 1) rs (λ i s e. let k = h (suc i) s e in omega arith))

-- the rows of a table have the keys 1, 2, 3 and so on
pub table_numbered : (bytes : List ℕ) (t : Table) → table_of bytes ≡ Ok t → is_numbered 1 t.rows ≡ true
table_numbered bytes t h = numbered_from 1 t.rows (λ i r e. let k = keys-count bytes t i r h e in omega arith)

-- ---- what is answered

-- a fault of the table is that of the table within the limit
fails_within : (I : Type 0) (limit : ℕ) (read : Result Table Fault) (e : Refusal) → Fails I e read → Fails I e (read >>= within limit)
fails_within I limit read refusal.NoMemory h = tt
fails_within I limit read (refusal.BadTable rec field) h = ap (λ r. r >>= within limit) h
fails_within I limit read (refusal.BadLine line why) h = absurd h
fails_within I limit read (refusal.UnknownAttribute name) h = absurd h
fails_within I limit read (refusal.TooMany n) h = ap (λ r. r >>= within limit) h
fails_within I limit read (refusal.NoBlank boxes needed) h = absurd h
fails_within I limit read (refusal.Short used want capacity) h = absurd h
fails_within I limit read (refusal.Contended seen found) h = absurd h
fails_within I limit read (refusal.SharesOut made given) h = absurd h
fails_within I limit read (refusal.HistoryFull entries) h = absurd h
fails_within I limit read (refusal.NotLegal index) h = absurd h
fails_within I limit read refusal.Input h = h
fails_within I limit read refusal.Output h = absurd h
fails_within I limit read (refusal.Ahead seen told) h = absurd h

many_over : (limit n : ℕ) → limit < n → nat_lt limit n ≡ true
many_over limit n h = grind (arith, common_steps)

many_within : (limit n : ℕ) → n ≤ limit → nat_lt limit n ≡ false
many_within limit n h = grind (arith, common_steps)

over : (limit : ℕ) (read : Result Table Fault) (t : Table) → read ≡ Ok t → limit < length t.rows → (read >>= within limit) ≡ Err (too_many limit)
over limit read t is more = rw (is, many_over limit (length t.rows) more) refl

inside : (limit : ℕ) (read : Result Table Fault) (t : Table) → read ≡ Ok t → length t.rows ≤ limit → (read >>= within limit) ≡ Ok t
inside limit read t is few = rw (is, many_within limit (length t.rows) few) refl

-- a load that is refused
pub load_refused : (o : Option (List ℕ)) (limit old new : ℕ) (e : Refusal) → IfSome o (IsLoaded old new (Err e)) → IfSome o (OpensFrom limit old new (Err e))
load_refused None limit old new e h = tt
load_refused (Some bytes) limit old new e h = fails_within (Raised old new) limit (table_of bytes) e h

-- a load of more rows than the limit
pub load_over : (o : Option (List ℕ)) (limit old new : ℕ) (t : List Column × Packed) → IfSome o (IsLoaded old new (Ok t)) → limit < length t.1.items → IfSome o (OpensFrom limit old new (Err (refusal.TooMany limit)))
load_over None limit old new t h more = tt
load_over (Some bytes) limit old new t h more = over limit (table_of bytes) (shown_packed t) h more

-- a load of no more
pub load_within : (o : Option (List ℕ)) (limit old new : ℕ) (t : List Column × Packed) (opening : Opening) → IfSome o (IsLoaded old new (Ok t)) → table_in opening ≡ shown_packed t → length t.1.items ≤ limit → IfSome o (OpensFrom limit old new (Ok opening))
load_within None limit old new t opening h same few = tt
load_within (Some bytes) limit old new t opening h same few = rw same (inside limit (table_of bytes) (shown_packed t) h few)
