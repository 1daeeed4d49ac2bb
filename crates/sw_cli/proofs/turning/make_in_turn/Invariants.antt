use Rattle.sw_cli.proofs.turning.make_in_turn.Given as goal

-- the books that were just made, and the table
abbrev pub ghosts-turn_by : goal.ghosts-turn_by
ghosts-turn_by g a = record { book = a.books.list.seen.book; sessions = a.books.sessions.name; heads = a.books.heads.name; columns = a.stage.columns; opening = a.stage.workload.1.rows; limit = a.stage.workload.0; most = a.books.most }
