-- Which replies come of which calls.
use Rattle.std.proofs.Common.{◌≡◌, ◌+◌, ℕ, ℤ, Bool, true, false, List, [], Option, None, Some, Result, Ok, Err, refl, sym, subst}
use Rattle.std.specs.Prelude.{MatchOption, if◌then◌else◌, ◌==◌}
use denote.Ref.{Bor}
use Rattle.sw_table.specs.Updates.{has_key, rows_of}
use Rattle.sw_table.specs.declared.row.Update.{Update}
use Rattle.sw_rows.specs.Header.{Column}
use Rattle.sw_query.specs.declared.query.Call.{Call}
use Rattle.sw_query.specs.declared.query.Call.TheVariants as call
use Rattle.sw_query.specs.declared.query.Cond.{Cond}
use Rattle.sw_query.specs.declared.query.Want.{Want}
use Rattle.sw_query.specs.declared.query.Want.TheVariants as want
use Rattle.sw_query.specs.declared.reply.Reply.{Reply}
use Rattle.sw_query.specs.declared.reply.Reply.TheVariants as reply
use Rattle.sw_spine.specs.Table.{inserts, reply_to}
use Rattle.sw_spine.specs.History.{updates_of}
use Rattle.sw_solo.specs.Called.{SoloState}
use Rattle.sw_arrays.specs.Asked.{◌>>=◌, call_asked, conds_after, delete_asked, number_in, row_in}
use Rattle.sw_arrays.specs.declared.asked.Asked.{Asked}
use Rattle.sw_arrays.specs.declared.asked.Asked.TheVariants as asked
use Rattle.sw_arrays.specs.declared.asked.Wanted.TheVariants as wanted
use Rattle.sw_arrays.specs.declared.range.Fault.{Fault}
use Rattle.sw_arrays.specs.declared.range.Range.{Range}
use Rattle.sideways_c.specs.Shown.{Shown, has_session}
use Rattle.sideways_c.specs.Asks.{AskedBy, AskedOver, IsCount, IsDelete, IsDeleteWhere, IsInsert, IsLeast, IsSum, IsTold, Told}
use Rattle.sideways_c.specs.declared.codes.TheConstants.{MISUSE, NO_SESSION, OK}

-- what is said of the reply to what is asked, of whatever engine
abbrev pub Holds : (Reply → Type 0) → Asked → Type 0
Holds P a = (columns : List Column) (limit : ℕ) (us : List Update) (c : Call) → call_asked columns a ≡ Ok c → P (reply_to limit us c)

no_code : (r : Reply) (n : ℕ) → ◌≡◌ {A = Result Reply ℕ} (Ok r) (Err n) → ⊥
no_code r n h = absurd cc

in_session : (P : Reply → Type 0) (a : Asked) (b : Bool) (session : ℕ) (s : SoloState) (old new : Shown) (r : Reply) → Holds P a → AskedBy b session a s old new (Ok r) → P r
in_session P a true session s old new r h m = subst P (sym m.3.0) (h s.history.columns s.history.limit (updates_of s.history) m.0 m.2)
in_session P a false session s old new r h m = absurd (no_code r NO_SESSION m.0)

-- what is said of each reply is said of the one that came
pub on_engine : (P : Reply → Type 0) (a : Asked) (o : Option SoloState) (session : ℕ) (old new : Shown) (r : Reply) → Holds P a
    → MatchOption o (IsTold MISUSE old new (Ok r)) (λ s. AskedBy (has_session session s) session a s old new (Ok r)) → P r
on_engine P a None session old new r h m = absurd (no_code r MISUSE m.0)
on_engine P a (Some s) session old new r h m = in_session P a (has_session session s) session s old new r h m

of_reply : (P : Reply → Type 0) (a : Asked) (session : ℕ) (old new : Option Shown) (r : Reply) → Holds P a → AskedOver session a old new (Ok r) → P r
of_reply P a session None new r h m = absurd (no_code r MISUSE m.0)
of_reply P a session (Some o) None r h m = absurd m
of_reply P a session (Some o) (Some n) r h m = on_engine P a o.engine session o n r h m

-- a select of this want
selects : (r : Result (List Cond) Fault) (w : Want) (c : Call) → ((r >>= λ conds. Ok (record { conds = conds; want = w })) >>= λ q. Ok (call.Select q)) ≡ Ok c
    → (conds : List Cond) × (call.Select (record { conds = conds; want = w }) ≡ c)
selects (Ok conds) w c h = (conds, cc)
selects (Err f) w c h = absurd cc

count_holds : (ranges : Bor (List Range)) → Holds IsCount (asked.Select wanted.Count ranges)
count_holds ranges columns limit us c h = let is = selects (conds_after columns [] ranges.now) want.Count c h in subst (λ (x : Call). IsCount (reply_to limit us x)) is.1 tt

-- a count is a number
pub replies_count : (session : ℕ) (ranges : Bor (List Range)) (old new : Option Shown) (r : Reply) → AskedOver session (asked.Select wanted.Count ranges) old new (Ok r) → IsCount r
replies_count session ranges old new r m = of_reply IsCount (asked.Select wanted.Count ranges) session old new r (count_holds ranges) m

-- a select of this want, which is read first
pub wants : (w : Result Want Fault) (r : Result (List Cond) Fault) (c : Call) → ((w >>= λ want. r >>= λ conds. Ok (record { conds = conds; want = want })) >>= λ q. Ok (call.Select q)) ≡ Ok c
    → (conds : List Cond) × (x : Want) × (w ≡ Ok x) × (call.Select (record { conds = conds; want = x }) ≡ c)
wants (Ok x) r c h = let is = selects r x c h in (is.0, x, refl, is.1)
wants (Err f) r c h = absurd cc

-- the attribute of a want
numbered : (r : Result ℕ Fault) (make : ℕ → Want) (x : Want) → (r >>= λ n. Ok (make n)) ≡ Ok x → (n : ℕ) × (make n ≡ x)
numbered (Ok n) make x h = (n, cc)
numbered (Err f) make x h = absurd cc

sum_holds : (a : ℕ) (ranges : Bor (List Range)) → Holds IsSum (asked.Select (wanted.Sum a) ranges)
sum_holds a ranges columns limit us c h =
    let is = wants (number_in columns a >>= λ n. Ok (want.Sum n)) (conds_after columns [] ranges.now) c h in
    let w = numbered (number_in columns a) want.Sum is.1 is.2 in
    subst (λ (x : Call). IsSum (reply_to limit us x)) is.3 (subst (λ (x : Want). IsSum (reply_to limit us (call.Select (record { conds = is.0; want = x })))) w.1 tt)

min_holds : (a : ℕ) (ranges : Bor (List Range)) → Holds IsLeast (asked.Select (wanted.Min a) ranges)
min_holds a ranges columns limit us c h =
    let is = wants (number_in columns a >>= λ n. Ok (want.Min n)) (conds_after columns [] ranges.now) c h in
    let w = numbered (number_in columns a) want.Min is.1 is.2 in
    subst (λ (x : Call). IsLeast (reply_to limit us x)) is.3 (subst (λ (x : Want). IsLeast (reply_to limit us (call.Select (record { conds = is.0; want = x })))) w.1 tt)

max_holds : (a : ℕ) (ranges : Bor (List Range)) → Holds IsLeast (asked.Select (wanted.Max a) ranges)
max_holds a ranges columns limit us c h =
    let is = wants (number_in columns a >>= λ n. Ok (want.Max n)) (conds_after columns [] ranges.now) c h in
    let w = numbered (number_in columns a) want.Max is.1 is.2 in
    subst (λ (x : Call). IsLeast (reply_to limit us x)) is.3 (subst (λ (x : Want). IsLeast (reply_to limit us (call.Select (record { conds = is.0; want = x })))) w.1 tt)

-- a sum is one
pub replies_sum : (session a : ℕ) (ranges : Bor (List Range)) (old new : Option Shown) (r : Reply) → AskedOver session (asked.Select (wanted.Sum a) ranges) old new (Ok r) → IsSum r
replies_sum session a ranges old new r m = of_reply IsSum (asked.Select (wanted.Sum a) ranges) session old new r (sum_holds a ranges) m

-- a least is one or none
pub replies_min : (session a : ℕ) (ranges : Bor (List Range)) (old new : Option Shown) (r : Reply) → AskedOver session (asked.Select (wanted.Min a) ranges) old new (Ok r) → IsLeast r
replies_min session a ranges old new r m = of_reply IsLeast (asked.Select (wanted.Min a) ranges) session old new r (min_holds a ranges) m

-- a greatest is one or none
pub replies_max : (session a : ℕ) (ranges : Bor (List Range)) (old new : Option Shown) (r : Reply) → AskedOver session (asked.Select (wanted.Max a) ranges) old new (Ok r) → IsLeast r
replies_max session a ranges old new r m = of_reply IsLeast (asked.Select (wanted.Max a) ranges) session old new r (max_holds a ranges) m

-- ---- changes

-- an insert tells a key or that there is no room
pub inserts_by : (full : Bool) (key : ℕ) → IsInsert (if full then reply.Full else reply.Inserted key)
inserts_by true key = tt
inserts_by false key = tt

made_insert : (r : Result (List ℤ) Fault) (c : Call) → (r >>= λ row. Ok (call.Insert row)) ≡ Ok c → (row : List ℤ) × (call.Insert row ≡ c)
made_insert (Ok row) c h = (row, cc)
made_insert (Err f) c h = absurd cc

insert_holds : (cells : Bor (List ℤ)) → Holds IsInsert (asked.Insert cells)
insert_holds cells columns limit us c h =
    let is = made_insert (row_in columns cells.now) c h in
    subst (λ (x : Call). IsInsert (reply_to limit us x)) is.1 (inserts_by (inserts us == limit) (inserts us + 1))

-- so it does through the handle
pub replies_insert : (session : ℕ) (cells : Bor (List ℤ)) (old new : Option Shown) (r : Reply) → AskedOver session (asked.Insert cells) old new (Ok r) → IsInsert r
replies_insert session cells old new r m = of_reply IsInsert (asked.Insert cells) session old new r (insert_holds cells) m

deletes_by : (there : Bool) → IsDelete (if there then reply.Removed else reply.NoSuchKey)
deletes_by true = tt
deletes_by false = tt

delete_holds : (key : ℕ) → Holds IsDelete (asked.Delete key)
delete_holds key columns limit us c h =
    let is : call.Delete key ≡ c = cc in
    subst (λ (x : Call). IsDelete (reply_to limit us x)) is (deletes_by (has_key key (rows_of us)))

-- a delete tells whether there was a row
pub replies_delete : (session key : ℕ) (old new : Option Shown) (r : Reply) → AskedOver session (asked.Delete key) old new (Ok r) → IsDelete r
replies_delete session key old new r m = of_reply IsDelete (asked.Delete key) session old new r (delete_holds key) m

made_delete : (r : Result (List Cond) Fault) (c : Call) → (r >>= λ conds. Ok (call.DeleteWhere conds)) ≡ Ok c → (conds : List Cond) × (call.DeleteWhere conds ≡ c)
made_delete (Ok conds) c h = (conds, cc)
made_delete (Err f) c h = absurd cc

delete_where_holds : (ranges : Bor (List Range)) → Holds IsDeleteWhere (asked.DeleteWhere ranges)
delete_where_holds ranges columns limit us c h =
    let is = made_delete (delete_asked columns ranges.now) c h in subst (λ (x : Call). IsDeleteWhere (reply_to limit us x)) is.1 tt

-- a delete under conditions tells how many rows
pub replies_delete_where : (session : ℕ) (ranges : Bor (List Range)) (old new : Option Shown) (r : Reply) → AskedOver session (asked.DeleteWhere ranges) old new (Ok r) → IsDeleteWhere r
replies_delete_where session ranges old new r m = of_reply IsDeleteWhere (asked.DeleteWhere ranges) session old new r (delete_where_holds ranges) m

-- ---- what is told

-- a call that was made, as the function tells it
pub is_told : (session : ℕ) (a : Asked) (old new : Option Shown) (r : Reply) (tells : Reply → Type 0) (kept : Type 0) → AskedOver session a old new (Ok r) → tells r → Told session a old new OK tells kept
is_told session a old new r tells kept made shows = (Ok r, made, (refl, shows))

-- a call that was not made, as the function tells it
pub is_kept : (session : ℕ) (a : Asked) (old new : Option Shown) (code : ℕ) (tells : Reply → Type 0) (kept : Type 0) → AskedOver session a old new (Err code) → kept → Told session a old new code tells kept
is_kept session a old new code tells kept made same = (Err code, made, (refl, same))
