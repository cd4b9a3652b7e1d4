use Rattle.spds_laws.proofs.Compose.{strings_within}
use Rattle.run_sound.proofs.laws.strings_included.Goals as goal

pub returns : goal.returns
returns c = λ q o base s n string meets calls. strings_within c.args.linked.now q o base s meets n string calls
