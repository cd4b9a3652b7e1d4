use Rattle.std.proofs.Common.{take}
use Rattle.jim_signs.proofs.SignLemmas.{SignsOf}
use Rattle.jim_signs.proofs.sign.signs.Given as goal

abbrev pub invariant-loop-token : goal.invariant-loop-token
invariant-loop-token l = SignsOf l.bytes (take l.token-index l.tokens) l.names l.signs.items
