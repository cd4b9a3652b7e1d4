use Rattle.std.proofs.Common.{arith}
use Rattle.std.proofs.lemmas.Result.{on_ok_weaker}
use Rattle.spds_nodes.proofs.Froms.{IsFrom-same}
use Rattle.spds_nodes.proofs.Joined.{IsAdded-none}
use Rattle.spds_nodes.proofs.rows.push_handled_at.Goals as goal

pub returns-then-index-covered : goal.returns-then-index-covered
returns-then-index-covered c = IsAdded-none _ _ (λ e from. let within = c.requires c.args.index from.holds.0 in omega (arith, within.0))

pub returns-then-covered-index : goal.returns-then-covered-index
returns-then-covered-index c = IsAdded-none _ _ (λ e from. let within = c.requires c.args.index from.holds.0 in omega (arith, within.1))

pub returns : goal.returns
returns c =
    on_ok_weaker c.push_found.result (λ added. IsFrom-same _ _ _ _ _ _ _ c.handled_at-found.ensures (rw c.in_flight-place.ensures at added)) c.push_found.ensures
