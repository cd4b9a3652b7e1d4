use Rattle.protocol_words.proofs.Deciding.{outcome_some}
use Rattle.protocol_words.proofs.Outcomes.{outcome_one}
use Rattle.protocol_words.proofs.laws.words_are_determined.Goals as goal

pub returns-clause-one : goal.returns-clause-one
returns-clause-one c = outcome_one

pub returns-clause-some : goal.returns-clause-some
returns-clause-some c = outcome_some
