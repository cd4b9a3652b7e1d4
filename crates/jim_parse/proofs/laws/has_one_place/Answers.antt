use Rattle.jim_parse.proofs.PlaceLemmas.{one_place}
use Rattle.jim_parse.proofs.laws.has_one_place.Goals as goal

pub returns : goal.returns
returns c = one_place
