use Rattle.std.proofs.Common.{sym, ◌∙◌}
use Rattle.rule_cells.proofs.Numbering.{head_listed, head_not_listed}
use Rattle.rule_cells.proofs.numbers.list_head.Goals as goal

pub returns-in_ok-push : goal.returns-in_ok-push
returns-in_ok-push g c =
    head_listed g.W.Weight.domain c.args.cells.now c.args.heads.now.items _ c.args.node (sym c.head_of-head.ensures ∙ c.if-head-node.true) c.in_ok-push.ensures.items

pub returns-else-head-node : goal.returns-else-head-node
returns-else-head-node g c =
    head_not_listed g.W.Weight.domain c.args.cells.now c.args.heads.now.items c.args.node (λ own. c.if-head-node.false (c.head_of-head.ensures ∙ own))
