use Rattle.std.proofs.Common.{take}
use Rattle.sw_chunks.specs.Figures.{HavePieces}
use Rattle.sw_chunks.proofs.figures.pieces_in.Given as goal

abbrev pub invariant-loop-area : goal.invariant-loop-area
invariant-loop-area g l = HavePieces (take l.area-index l.areas) l.pieces
