use Rattle.link_program.proofs.Searched.{IsNotBefore}
use Rattle.link_program.proofs.places.first_name.Given as goal

abbrev pub invariant-loop-at : goal.invariant-loop-at
invariant-loop-at l = IsNotBefore l.names l.text l.at
