use Rattle.sw_cli.proofs.flowing.flow_from.Given as goal

abbrev pub ghosts-flow_since : goal.ghosts-flow_since
ghosts-flow_since g a = record { base = g.W.Sink.taken a.sink }
