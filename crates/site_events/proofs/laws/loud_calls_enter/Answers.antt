use Rattle.site_events.proofs.Entering.{loud_calls_enter}
use Rattle.site_events.proofs.laws.loud_calls_enter.Goals as goal

pub returns : goal.returns
returns c = loud_calls_enter
