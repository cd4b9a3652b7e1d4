use Rattle.lists.proofs.Keys.{Adds-insert_key}
use Rattle.lists.proofs.Joined.{Has-adds}
use Rattle.spds_solve.specs.contracts.arrivals.ArrivalPartialEq.TheImpl.{eq-value}
use Rattle.spds_solve.proofs.SameKey.{same_arrival, self_arrival}
use Rattle.spds_solve.proofs.arrivals.Arrivals.add.Goals as goal

pub returns : goal.returns
returns c a =
    rw (← c.self.view_is) (Has-adds c.self.inside.keys.keys c.insert.new.self.keys c.args.arrival
    (rw c.in_ok-insert.ensures.keys (Adds-insert_key (eq-value).it same_arrival self_arrival c.self.inside.keys.keys c.args.arrival)) a)
