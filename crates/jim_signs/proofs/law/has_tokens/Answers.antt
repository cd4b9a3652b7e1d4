use Rattle.jim_signs.proofs.PieceLemmas.{has_token}
use Rattle.jim_signs.proofs.law.has_tokens.Goals as goal

pub returns : goal.returns
returns c = has_token
