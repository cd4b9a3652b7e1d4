use Rattle.std.proofs.Common.{arith}
use Rattle.std.proofs.lemmas.Str.{IsCharBoundary-after_ascii}
use Rattle.jim_signs.proofs.sign.number_of_text.Goals as goal

pub range-requires-clause-start_boundary : goal.range-requires-clause-start_boundary
range-requires-clause-start_boundary c =
    let quotes = c.requires.quotes in
    let first = c.requires.first in
    λ _. IsCharBoundary-after_ascii c.args.text.now 0 c.utf8.text (omega arith) (omega arith)
