use Rattle.track_tables.proofs.Taken.{one_weight}
use Rattle.track_tables.proofs.rules.edge_weight.Goals as goal

pub returns-in-Flow : goal.returns-in-Flow
returns-in-Flow c k q a events = rw c.in-Flow.is (c.flow_weight.ensures k q a events)

pub returns-in-Call : goal.returns-in-Call
returns-in-Call c k q a events = rw c.in-Call.is (c.own_weight.ensures k q a events)

pub returns-in-Return : goal.returns-in-Return
returns-in-Return c k q a events = rw (c.in-Return.is, c.one.ensures) one_weight
