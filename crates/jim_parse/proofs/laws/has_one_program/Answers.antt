use Rattle.jim_parse.proofs.ProgramLemmas.{spells_one}
use Rattle.jim_parse.proofs.laws.has_one_program.Goals as goal

pub returns : goal.returns
returns c = spells_one
