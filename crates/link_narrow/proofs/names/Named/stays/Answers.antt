use Rattle.link_narrow.proofs.Stays.{spot_stays}
use Rattle.link_narrow.proofs.names.Named.stays.Goals as goal

pub returns-in-Virtual : goal.returns-in-Virtual
returns-in-Virtual c = rw (← c.self.view_is)
    (spot_stays c.self.inside.kept.now c.self.inside.spots.keys c.args.spot c.args.mode c.find.result c.is_some.result c.self.invariant c.in-Virtual.is c.find.ensures c.is_some.ensures)
