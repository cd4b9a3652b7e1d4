use Rattle.std.proofs.Common.{arith}
use Rattle.std.proofs.lemmas.Result.{on_ok_weaker}
use Rattle.spds_nodes.proofs.Joined.{IsAdded-none}
use Rattle.spds_nodes.proofs.Parts.{Over-some, some_covered}
use Rattle.spds_nodes.proofs.edges.push_handled_in.Goals as goal

pub returns-then-covered : goal.returns-then-covered
returns-then-covered c =
    IsAdded-none _ _ (λ e handled.
    let some = some_covered c.args.linked.now c.args.node e handled in
    let within = c.covered_by-covered.ensures some.0 some.1 in
    omega (arith, within.0, within.1))

pub returns-in-Some : goal.returns-in-Some
returns-in-Some c = on_ok_weaker c.push_handled.result (Over-some _ _ c.in-Some.var _ _ c.in-Some.ensures) c.push_handled.ensures
