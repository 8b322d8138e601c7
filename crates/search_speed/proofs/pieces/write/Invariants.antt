use Rattle.search_speed.proofs.pieces.write.Given as goal

abbrev pub decreases-loop-piece : goal.decreases-loop-piece
decreases-loop-piece l = l.trimming.places
