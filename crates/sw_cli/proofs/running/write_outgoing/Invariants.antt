use Rattle.sw_cli.proofs.running.write_outgoing.Given as goal

abbrev pub ghosts-write_since : goal.ghosts-write_since
ghosts-write_since g a = record { base = g.W.Sink.taken a.sink }
