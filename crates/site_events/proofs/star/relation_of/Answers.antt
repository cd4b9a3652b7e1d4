use Rattle.site_events.proofs.Closing.{one_pair}
use Rattle.site_events.proofs.star.relation_of.Goals as goal

pub returns : goal.returns
returns c = one_pair c.args.row.from c.args.row.to c.requires.from c.requires.to
