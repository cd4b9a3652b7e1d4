use Rattle.std.proofs.lemmas.Result.{on_ok_weaker}
use Rattle.spds_nodes.proofs.Joined.{IsAdded-with, IsAdded-without}
use Rattle.spds_nodes.proofs.raised.push_thrown_in.Goals as goal

pub returns-in-Thrown : goal.returns-in-Thrown
returns-in-Thrown c = on_ok_weaker c.push_flight_at.result (IsAdded-with _ _ _ _ c.in-Thrown.is) c.push_flight_at.ensures

pub returns-in_default : goal.returns-in_default
returns-in_default c = IsAdded-without _ _ _ c.in_default.not-Thrown
