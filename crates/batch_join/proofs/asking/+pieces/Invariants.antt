use Rattle.batch_join.proofs.asking.+pieces.Given as goal

abbrev pub decreases-pieces : goal.decreases-pieces
decreases-pieces l = l.count
