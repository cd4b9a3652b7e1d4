use Rattle.track_sound.proofs.Sounding.{safe_where_nothing_found}
use Rattle.track_sound.proofs.laws.safe_without_findings.Goals as goal

pub returns : goal.returns
returns c = safe_where_nothing_found c.args.linked.now c.requires.well c.requires.covered
