use Rattle.run_sound.proofs.Simulating.{links_sound}
use Rattle.run_sound.proofs.laws.links_are_simulated.Goals as goal

pub returns : goal.returns
returns c = links_sound
