-- The headline, as a claim of the record that `close` answers.
--
-- Whatever selects, inserts and deletes, of a key or under conditions, any number of sessions make from their threads,
-- however maps are made, aligned, cracked, cleared and dropped meanwhile, the history that the engine keeps is the
-- history of one thread over a plain list of rows: every answered call stands in it once, in its session's order, with
-- the reply that was given and that the list gives there.
--
-- What it rests on is no hypothesis: that all sessions have ended, and that their tickets are this engine's, is so by the
-- types of what `close` takes; that maps keep the contract of `CrackerMap`, by its bound. The calls are those that
-- returned. A select that was refused after it had a place may stand in the record as void: it answers nothing, and is
-- in no ticket.
--
-- A ticket shows its session's number and the calls that were answered to it, each with the reply that was given, in
-- the order made: `select`, `insert`, `delete` and `delete_where`, where they answer, make that list longer by just the
-- call and the reply, and where they are refused leave it.
use Rattle.std.specs.Prelude.{ℕ, ◌≡◌, ◌<◌, ◌+◌, ◌⊎◌, List, length, true, All}
use Rattle.sw_rows.specs.Header.{Column}
use Rattle.sw_table.specs.declared.row.Row.{Row}
use Rattle.sw_query.specs.declared.query.Call.{Call}
use Rattle.sw_query.specs.declared.reply.Reply.{Reply}
use Rattle.sw_spine.specs.History.{History, IsLegal, all_given, is_absent, mine}
use Rattle.sw_spine.specs.Rest.{none_open}
use Rattle.sw_engine.specs.Desk.{IsNamed}

pub record IsHistoryOfOneThread (columns : List Column) (rows : List Row) (limit : ℕ)
    (tickets : List (ℕ × List (Call × Reply))) (h : History) : Type 0 where
  -- it begins from the attributes, the opening rows and the limit of `open`
  pub columns_are : h.columns ≡ columns
  pub rows_are : h.rows ≡ rows
  pub limit_is : h.limit ≡ limit
  -- each reply in it is that of one thread over a plain list of rows, after the calls before it
  pub legal : IsLegal h
  -- a reply stands in it as it was given
  pub given : all_given h.entries ≡ true
  -- the answered entries of each session, in the history's order, are the calls that were answered to it
  pub answered : All (λ (t : ℕ × List (Call × Reply)). mine t.0 h.entries ≡ t.1) tickets
  -- the tickets' numbers are 1 to as many as there are tickets: each of them is one's, and so none is two's
  pub numbered : (k : ℕ) → k < length tickets → IsNamed (k + 1) tickets
  -- no other session has entries
  pub others : (s : ℕ) → (is_absent s h.entries ≡ true) ⊎ IsNamed s tickets
  -- no entry is open
  pub closed : none_open h.entries ≡ true
