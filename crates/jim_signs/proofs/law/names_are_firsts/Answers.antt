use Rattle.jim_signs.proofs.FirstLemmas.{AreFirsts-names_of}
use Rattle.jim_signs.proofs.law.names_are_firsts.Goals as goal

pub returns : goal.returns
returns c = AreFirsts-names_of
