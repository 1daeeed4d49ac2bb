use Rattle.test_sessions.proofs.boxes.tried.Given as goal

-- the books that were just made, and the table
abbrev pub ghosts-play : goal.ghosts-play
ghosts-play g a = record { book = a.books.list.seen.book; sessions = a.books.sessions.name; heads = a.books.heads.name; columns = a.table.schema; opening = a.table.rows.items; limit = 1000; most = a.books.most }
