use Rattle.post_star.proofs.Loops.{EachBefore}
use Rattle.spds_solve.specs.Known.{IsKnown, Keeps}
use Rattle.spds_solve.specs.Looks.{IsNotedEnd}
use Rattle.spds_solve.proofs.looks.note_cell.Given as goal

abbrev pub invariant-loop-at : goal.invariant-loop-at
invariant-loop-at l = record {
  known : IsKnown l.view.parts.now l.mets l.known;
  keeps : Keeps l.initial.known l.known;
  noted : EachBefore (IsNotedEnd l.view l.known l.site l.head) l.at-items l.at-index;
}
