use Rattle.test_engine.proofs.asking.ask.Given as goal

-- the books that were just made, and the table
abbrev pub ghosts-ask_picked : goal.ghosts-ask_picked
ghosts-ask_picked g a = record { book = a.books.list.seen.book; sessions = a.books.sessions.name; heads = a.books.heads.name; columns = a.table.schema; opening = a.table.rows.items; limit = a.table.limit; most = a.books.most }
