use Rattle.std.proofs.lemmas.Result.{on_ok_weaker}
use Rattle.spds_rules.specs.Formals.{HasFormal}
use Rattle.spds_nodes.specs.Backs.{IsBackFrom}
use Rattle.spds_nodes.proofs.Joined.{IsAdded-with}
use Rattle.spds_nodes.proofs.Parts.{Over-none, Over-some}
use Rattle.spds_nodes.proofs.backs.push_back_as.Goals as goal

pub returns-in-Some : goal.returns-in-Some
returns-in-Some c =
    let p = c.args.linked.now in
    on_ok_weaker c.push_back_from.result
    (λ added. IsAdded-with _ _ _ _ c.requires
    (Over-some (HasFormal p c.args.target c.args.position) (IsBackFrom p c.args.node c.args.call c.args.target) c.in-Some.var _ _ c.in-Some.ensures added))
    c.push_back_from.ensures

pub returns-in-None : goal.returns-in-None
returns-in-None c =
    let p = c.args.linked.now in
    IsAdded-with _ _ _ _ c.requires
    (Over-none (HasFormal p c.args.target c.args.position) (IsBackFrom p c.args.node c.args.call c.args.target) _ c.in-None.ensures)
