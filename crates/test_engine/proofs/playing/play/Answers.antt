use Rattle.test_engine.proofs.playing.play.Goals as goal

-- the table's schema is that which it was made with
pub play_picked-requires-clause-below : goal.play_picked-requires-clause-below
play_picked-requires-clause-below g c κs within = rw c.in_ok-table.ensures c.requires.below
