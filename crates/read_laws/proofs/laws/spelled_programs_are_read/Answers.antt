use Rattle.read_laws.proofs.Programs.{derived_read}
use Rattle.read_laws.proofs.laws.spelled_programs_are_read.Goals as goal

pub returns : goal.returns
returns c = λ bytes program spells. derived_read bytes spells.tokens program spells.derived
