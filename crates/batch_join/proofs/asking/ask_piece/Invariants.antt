use Rattle.batch_join.specs.Told.{AreTold}
use Rattle.batch_join.proofs.asking.ask_piece.Given as goal

abbrev pub invariant-loop-k : goal.invariant-loop-k
invariant-loop-k g l = AreTold (g.A.Ask.tells l.asked) l.first l.k l.texts.items
