-- Two sessions of a spine, and a list of rows that takes updates as head 0.
use Rattle.std.specs.Prelude.{◌≡◌, List, length, None, IsSomeAnd}
use Rattle.sw_table.specs.declared.row.Row.{Row}
use Rattle.sw_query.specs.declared.reply.Reply.{Reply}
use Rattle.sw_table.specs.Updates.{rows_of}
use Rattle.sw_spine.specs.Table.{reply_to}
use Rattle.sw_spine.specs.Books.{Books, took, waits_for}

-- two sessions with no open entry, over three attributes, and the rows of what head 0 took
pub record IsAtRest (b : Books) (rows : List Row) : Type 0 where
  pub sessions : b.sessions ≡ 2
  pub columns : length b.columns ≡ 3
  pub first : waits_for 1 b ≡ None
  pub second : waits_for 2 b ≡ None
  pub kept : rows ≡ rows_of (took 0 b)

-- session 2 waits for this reply
pub record IsAsked (reply : Reply) (b : Books) (rows : List Row) : Type 0 where
  pub sessions : b.sessions ≡ 2
  pub columns : length b.columns ≡ 3
  pub first : waits_for 1 b ≡ None
  pub second : IsSomeAnd (waits_for 2 b) (λ w. reply ≡ reply_to b.limit w.1 w.0)
  pub kept : rows ≡ rows_of (took 0 b)
