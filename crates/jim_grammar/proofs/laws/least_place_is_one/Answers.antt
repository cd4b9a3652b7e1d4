use Rattle.jim_grammar.proofs.Places.{least_is_one}
use Rattle.jim_grammar.proofs.laws.least_place_is_one.Goals as goal

pub returns : goal.returns
returns c = least_is_one
