use Rattle.test_engine.proofs.playing.play.Given as goal

-- the books that were just made, and the table
abbrev pub ghosts-play_picked : goal.ghosts-play_picked
ghosts-play_picked g a = record { book = a.books.list.seen.book; sessions = a.books.sessions.name; heads = a.books.heads.name; columns = a.table.schema; opening = a.table.rows.items; limit = a.table.limit; most = a.books.most }
