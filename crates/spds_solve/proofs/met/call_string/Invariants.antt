use Rattle.std.proofs.Common.{◌≡◌, take}
use Rattle.spds_solve.specs.Mets.{string_of}
use Rattle.spds_solve.proofs.met.call_string.Given as goal

abbrev pub invariant-loop-mark : goal.invariant-loop-mark
invariant-loop-mark l = l.string.items ≡ string_of l.calls (take l.mark-index l.word)
