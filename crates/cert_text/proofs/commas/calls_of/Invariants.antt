use Rattle.std.proofs.Common.{take}
use Rattle.cert_text.specs.Words.{AreCalls, texts}
use Rattle.cert_text.proofs.commas.calls_of.Given as goal

abbrev pub invariant-loop-word : goal.invariant-loop-word
invariant-loop-word l = AreCalls (take l.word-index (texts l.words)) l.calls.items
