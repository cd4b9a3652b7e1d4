use Rattle.jim_text.proofs.AloneLemmas.{spells_alone, spells_within}
use Rattle.jim_text.proofs.laws.spells_alone.Goals as goal

pub returns-clause-alone : goal.returns-clause-alone
returns-clause-alone c = spells_alone

pub returns-clause-within : goal.returns-clause-within
returns-clause-within c = spells_within
