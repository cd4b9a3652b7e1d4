use Rattle.spds_laws.proofs.Compose.{meets_composed}
use Rattle.run_sound.proofs.laws.meets_compose.Goals as goal

pub returns : goal.returns
returns c = λ q o base further s later first second. meets_composed c.args.linked.now q o base further s later first second
