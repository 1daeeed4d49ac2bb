use Rattle.sw_cli.proofs.running.share_at_once.Given as goal

-- the books that were just made, and the table
abbrev pub ghosts-make_sharing : goal.ghosts-make_sharing
ghosts-make_sharing g a = record { book = a.books.list.seen.book; sessions = a.books.sessions.name; heads = a.books.heads.name; columns = a.workload.1.columns; opening = a.workload.1.rows; limit = a.workload.0; most = a.books.most }
