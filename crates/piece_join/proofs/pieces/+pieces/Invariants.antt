use Rattle.piece_join.proofs.pieces.+pieces.Given as goal

abbrev pub decreases-pieces : goal.decreases-pieces
decreases-pieces l = l.count
