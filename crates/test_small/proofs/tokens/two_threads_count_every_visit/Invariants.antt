use Rattle.test_small.proofs.tokens.two_threads_count_every_visit.Given as goal

-- the two books that were just made
abbrev pub ghosts-count_both-J-Naming : goal.ghosts-count_both-J-Naming
ghosts-count_both-J-Naming g a = record { book = a.first.name }

abbrev pub ghosts-count_both-K-Naming : goal.ghosts-count_both-K-Naming
ghosts-count_both-K-Naming g a = record { book = a.second.name }
