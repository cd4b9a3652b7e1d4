use Rattle.std.proofs.lemmas.Result.{on_ok_weaker}
use Rattle.spds_rules.specs.declared.edge.EdgeKind.TheVariants.{Flow}
use Rattle.spds_nodes.proofs.Brought.{IsKindIn-throws, thrown_by}
use Rattle.spds_nodes.proofs.Froms.{IsFrom-same}
use Rattle.spds_nodes.proofs.Parts.{IsFrom-then}
use Rattle.spds_nodes.proofs.raised.push_thrown.Goals as goal

pub returns : goal.returns
returns c =
    let kinds = c.kinds_of.result in
    on_ok_weaker c.push_found.result
    (λ added. IsFrom-then c.args.place Flow c.args.node _ _ _ _ _ _ (IsKindIn-throws c.args.code.now kinds.from kinds.to)
    (thrown_by c.args.code.now kinds.from kinds.to c.kinds_of.ensures.kinds) c.in_ok-push_raises.ensures
    (IsFrom-same c.args.place Flow c.args.node _ _ _ _ c.thrown.ensures added))
    c.push_found.ensures
