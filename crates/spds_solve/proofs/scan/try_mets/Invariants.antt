use Rattle.post_star.proofs.Loops.{EachBefore}
use Rattle.lists.specs.Lists.{Has}
use Rattle.spds_solve.specs.Looks.{IsCandidateAt, IsGrownAt}
use Rattle.spds_solve.specs.Mets.{numbers_of}
use Rattle.spds_solve.proofs.scan.try_mets.Given as goal

abbrev pub invariant-loop-met : goal.invariant-loop-met
invariant-loop-met l = record {
  all : EachBefore (λ m. IsCandidateAt l.view m → Has (numbers_of l.mets) m) l.found l.met-index;
  grown : IsGrownAt l.view l.initial.mets l.mets;
}
