use Rattle.link_narrow.specs.Bodies.{AreBodies}
use Rattle.link_narrow.proofs.narrowing.bodies_of.Given as goal

abbrev pub invariant-loop-method : goal.invariant-loop-method
invariant-loop-method l = AreBodies l.linked l.named l.method l.bodies.items
