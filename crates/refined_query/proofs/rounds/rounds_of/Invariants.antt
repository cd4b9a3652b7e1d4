use Rattle.refine_rules.specs.Refined.{IsRefinedBy}
use Rattle.refined_query.specs.Rounds.{left_of}
use Rattle.refined_query.proofs.rounds.rounds_of.Given as goal

abbrev pub invariant-loop : goal.invariant-loop
invariant-loop g l = IsRefinedBy l.budget l.linked l.counter (left_of l.linked l.last)
