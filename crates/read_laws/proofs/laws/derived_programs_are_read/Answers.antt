use Rattle.read_laws.proofs.Programs.{derived_read}
use Rattle.read_laws.proofs.laws.derived_programs_are_read.Goals as goal

pub returns : goal.returns
returns c = derived_read
