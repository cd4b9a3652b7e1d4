use Rattle.post_star.proofs.Takes.{AreFresh}
use Rattle.post_star.proofs.take.fresh_nodes.Given as goal

abbrev pub invariant-loop-i : goal.invariant-loop-i
invariant-loop-i g l = AreFresh l.rules l.taken l.nodes.keys l.i
