use Rattle.post_star.proofs.Loops.{EachBefore}
use Rattle.spds_solve.specs.Known.{IsKnown, Keeps}
use Rattle.spds_solve.specs.Looks.{IsNotedOpening}
use Rattle.spds_solve.proofs.looks.note_site.Given as goal

abbrev pub invariant-loop-opening : goal.invariant-loop-opening
invariant-loop-opening l = record {
  known : IsKnown l.view.parts.now l.mets l.known;
  keeps : Keeps l.initial.known l.known;
  noted : EachBefore (IsNotedOpening l.view l.known l.site) l.opening-items l.opening-index;
}
