use Rattle.link_laws.proofs.Whole.{links_well}
use Rattle.link_laws.proofs.laws.links_are_well.Goals as goal

pub returns : goal.returns
returns c = links_well
