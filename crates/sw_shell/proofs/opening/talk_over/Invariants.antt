use Rattle.sw_shell.proofs.opening.talk_over.Given as goal

-- the books that were just made, and the table
abbrev pub ghosts-talk_by : goal.ghosts-talk_by
ghosts-talk_by g a = record { book = a.books.list.seen.book; sessions = a.books.sessions.name; heads = a.books.heads.name; columns = a.loaded.columns; opening = a.loaded.rows.items; limit = a.loaded.room.limit; most = a.books.most }
