use Rattle.lists.proofs.Keys.{Has-list_any}
use Rattle.spds_solve.specs.contracts.arrivals.ArrivalPartialEq.TheImpl.{eq-value}
use Rattle.spds_solve.proofs.SameKey.{same_arrival, self_arrival}
use Rattle.spds_solve.proofs.arrivals.Arrivals.contains.Goals as goal

pub returns : goal.returns
returns c = rw (← c.self.view_is) (Has-list_any (eq-value).it same_arrival self_arrival _ _ _ c.contains.ensures)
