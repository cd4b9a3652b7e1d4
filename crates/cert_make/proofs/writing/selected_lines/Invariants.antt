use Rattle.cert_make.proofs.Taken.{AreAnewBelow}
use Rattle.cert_make.proofs.writing.selected_lines.Given as goal

abbrev pub invariant-loop-number : goal.invariant-loop-number
invariant-loop-number l = AreAnewBelow l.needed l.lines l.number-index l.found.items
