use Rattle.std.proofs.Common.{sym, ◌∙◌}
use Rattle.track_tables.proofs.Taken.{same_rel}
use Rattle.track_tables.proofs.rules.leads_nowhere.Goals as goal

pub returns : goal.returns
returns c h = same_rel c.args.weight c.zero.result (sym c.eq.ensures ∙ h) ∙ c.zero.ensures
