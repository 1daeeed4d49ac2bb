-- Keys that a store gave, renamed to those of the plain list. A renaming is the list of the store's keys: that at place k,
-- from 0, becomes k + 1. It is one to one where no key stands at two places.
use Rattle.std.specs.Prelude.{◌≡◌, ◌<◌, ◌+◌, ◌⊎◌, ℕ, List, [], ◌∷◌, ◌++◌, codes, decimal, length, map, slice_get, slice_index, string_bytes, EachIndex, IfOk, IfSome, Option, Some, None, Result, String}
use Rattle.std.specs.List.{AllZip}
use Rattle.std.specs.declared.alloc.Global.{Global}
use Rattle.sw_query.specs.declared.query.Call.{Call}
use Rattle.sw_query.specs.declared.query.Call.TheVariants as call
use Rattle.sw_query.specs.declared.query.Want.{Want}
use Rattle.sw_query.specs.declared.query.Want.TheVariants as want
use Rattle.sw_logs.specs.Orders.{IsOrderFound, StandOnce}
use Rattle.sw_logs.specs.declared.logged.Logged.{Logged}
use Rattle.sw_logs.specs.declared.opening.Opening.{Opening}
use Rattle.sw_logs.specs.declared.order.By.{By}
use Rattle.sw_logs.specs.declared.order.Order.{Order}

-- a key becomes another
abbrev pub Renames : List ℕ → ℕ → ℕ → Type 0
Renames names old new = (k : ℕ) × (new ≡ k + 1) × (slice_get names k ≡ Some old)

-- the first n keep their numbers
abbrev pub KeepsFirst : ℕ → List ℕ → Type 0
KeepsFirst n names = (k : ℕ) → k < n → slice_get names k ≡ Some (k + 1)

-- ---- replies

-- what was made, where it could be and there was memory for it, is so
abbrev pub IfMade : {A E : Type 0} → Result (Option A) E → (A → Type 0) → Type 0
IfMade made is_so = IfOk made (λ o. IfSome o is_so)

-- the bytes of lines
abbrev pub lines_of : List (String Global) → List (List ℕ)
lines_of texts = map (λ t. string_bytes t) texts

-- a row: its key, a colon, and the rest
abbrev pub row_line : ℕ → List ℕ → List ℕ
row_line key rest = decimal key ++ (codes ":" ++ rest)

abbrev pub key_line : ℕ → List ℕ
key_line key = codes "key " ++ decimal key

-- the line of a row, under its new key
abbrev pub IsRenamedRow : List ℕ → List ℕ → List ℕ → Type 0
IsRenamedRow names line new =
    (old key : ℕ) × (rest : List ℕ) × (line ≡ row_line old rest) × (new ≡ row_line key rest) × Renames names old key

-- the row at a place, under its new key
abbrev pub IsRowAt : List ℕ → List (List ℕ) → ℕ → List ℕ → Type 0
IsRowAt names rows p new = (line : List ℕ) × (slice_get rows p ≡ Some line) × IsRenamedRow names line new

-- the rows at places, under their new keys
abbrev pub AreRowsAt : List ℕ → List (List ℕ) → List ℕ → List (List ℕ) → Type 0
AreRowsAt names rows order news = AllZip (IsRowAt names rows) order news

-- these are the places of n things, each once
pub record AreAllPlaces (n : ℕ) (order : List ℕ) : Type 0 where
  pub many : length order ≡ n
  pub within : EachIndex order (λ k. slice_index order k < n)
  pub once : StandOnce order

-- the rows of a reply, each once under its new key and no others, and the last line, which stays
pub record IsRenamedRows (names : List ℕ) (lines new : List (List ℕ)) : Type 0 where
  pub rows : List (List ℕ)
  pub news : List (List ℕ)
  pub last : List ℕ
  pub order : List ℕ
  pub lines_are : lines ≡ rows ++ last ∷ []
  pub new_are : new ≡ news ++ last ∷ []
  pub all : AreAllPlaces (length rows) order
  pub rows_are : AreRowsAt names rows order news

-- the line of the reply to an insert that was given a key, under the new one
abbrev pub IsNewKey : List ℕ → List ℕ → List ℕ → Type 0
IsNewKey names line new = (old key : ℕ) × (line ≡ key_line old) × (new ≡ key_line key) × Renames names old key

-- the line of the reply to an insert, under the new key where it tells one
abbrev pub IsRenamedKey : List ℕ → List ℕ → List ℕ → Type 0
IsRenamedKey names line new = ((line ≡ codes "full") × (new ≡ line)) ⊎ IsNewKey names line new

-- the lines of the reply to a query: rows under their new keys, anything else as it is
abbrev pub IsRenamedAnswer : List ℕ → Want → List (List ℕ) → List (List ℕ) → Type 0
IsRenamedAnswer names (want.Rows attrs) lines new = IsRenamedRows names lines new
IsRenamedAnswer names want.Count lines new = new ≡ lines
IsRenamedAnswer names (want.Sum a) lines new = new ≡ lines
IsRenamedAnswer names (want.Min a) lines new = new ≡ lines
IsRenamedAnswer names (want.Max a) lines new = new ≡ lines

-- the lines of the reply to a call
abbrev pub IsRenamedReply : List ℕ → Call → List (List ℕ) → List (List ℕ) → Type 0
IsRenamedReply names (call.Select q) lines new = IsRenamedAnswer names q.want lines new
IsRenamedReply names (call.Insert cells) lines new = AllZip (IsRenamedKey names) lines new
IsRenamedReply names (call.Delete key) lines new = new ≡ lines
IsRenamedReply names (call.DeleteWhere conds) lines new = new ≡ lines

-- an outcome that is unknown stays so
abbrev pub IsRenamedOutcome : List ℕ → Call → Option (List (List ℕ)) → Option (List (List ℕ)) → Type 0
IsRenamedOutcome names c None new = new ≡ None
IsRenamedOutcome names c (Some lines) new = (ls : List (List ℕ)) × (new ≡ Some ls) × IsRenamedReply names c lines ls

-- ---- calls

-- a delete by key is that of the new key, and any other call is as it was
abbrev pub IsRenamedCall : List ℕ → Call → Call → Type 0
IsRenamedCall names (call.Select q) new = new ≡ call.Select q
IsRenamedCall names (call.Insert cells) new = new ≡ call.Insert cells
IsRenamedCall names (call.Delete key) new = (k : ℕ) × (new ≡ call.Delete k) × Renames names key k
IsRenamedCall names (call.DeleteWhere conds) new = new ≡ call.DeleteWhere conds

-- a call of a log, its session and its times, with call and reply renamed
pub record IsRenamed (names : List ℕ) (old new : Logged) : Type 0 where
  pub session : new.session ≡ old.session
  pub start : new.start ≡ old.start
  pub end : new.end ≡ old.end
  pub call_is : IsRenamedCall names old.call new.call
  pub reply_is : IsRenamedOutcome names old.call old.reply new.reply

-- the calls under a renaming that is one to one and keeps the keys of n opening rows
pub record IsRenaming (names : List ℕ) (n : ℕ) (calls renamed : List Logged) : Type 0 where
  pub once : StandOnce names
  pub first : KeepsFirst n names
  pub calls_are : AllZip (IsRenamed names) calls renamed

-- a legal history in an order of the logs' calls under such a renaming
pub record IsRenamedOrder (keeping : By) (opening : Opening) (calls : List Logged) (o : Order) : Type 0 where
  pub names : List ℕ
  pub renamed : List Logged
  pub renaming : IsRenaming names (length opening.rows.items) calls renamed
  pub order : IsOrderFound keeping opening renamed o
