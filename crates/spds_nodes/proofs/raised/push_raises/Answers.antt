use Rattle.std.proofs.Common.{◌≡◌, ◌≤◌, subst, arith}
use Rattle.spds_rules.specs.declared.edge.EdgeKind.TheVariants.{Flow}
use Rattle.spds_nodes.specs.Added.{IsAdded}
use Rattle.spds_nodes.specs.Codes.{IsKindIn}
use Rattle.spds_nodes.specs.Into.{IsFrom}
use Rattle.spds_nodes.proofs.Brought.{IsKindIn-more, IsKindIn-not}
use Rattle.spds_nodes.proofs.Parts.{IsFrom-then}
use Rattle.spds_nodes.proofs.raised.push_raises.Goals as goal

pub loop-kind-preserved : goal.loop-kind-preserved
loop-kind-preserved c =
    let below : c.args.kinds.from ≤ c.loop-kind.kind = omega arith in
    IsFrom-then c.args.place Flow c.args.node _ _ _ _ _ _ (IsKindIn-not c.args.kinds.from c.loop-kind.kind) (IsKindIn-more c.args.kinds.from c.loop-kind.kind below)
    c.loop-kind.invariant c.in_ok-push_found.ensures

pub returns : goal.returns
returns c =
    let last : c.loop-kind.kind ≡ c.args.kinds.to = omega arith in
    subst (λ kind. IsAdded (IsFrom c.args.place Flow c.args.node (IsKindIn c.args.kinds.from kind)) c.args.edges.now.items c.loop-kind.edges.items) last c.loop-kind.invariant
