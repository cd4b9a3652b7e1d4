use Rattle.track_sound.proofs.Sounding.{links_sound}
use Rattle.track_sound.proofs.laws.links_are_track_sound.Goals as goal

pub returns : goal.returns
returns c = links_sound
