use Rattle.std.proofs.Common.{take}
use Rattle.cert_text.specs.Words.{AreNumbers, texts}
use Rattle.cert_text.proofs.commas.numbers_of.Given as goal

abbrev pub invariant-loop-word : goal.invariant-loop-word
invariant-loop-word l = AreNumbers (take l.word-index (texts l.words)) l.numbers.items
