use Rattle.rule_cells.proofs.Entering.{first_once, flow_refused, refused}
use Rattle.rule_cells.proofs.entered.first.Goals as goal

pub returns-then-from-count : goal.returns-then-from-count
returns-then-from-count g c rules kept never =
    first_once c.args.count rules kept c.args.rule.now c.in-Flow.from _ c.in-Flow.weight c.in-Flow.is c.if-from-count.true never

pub returns-else-from-count : goal.returns-else-from-count
returns-else-from-count g c rules kept never =
    flow_refused c.args.count rules kept c.args.rule.now c.in-Flow.from _ c.in-Flow.weight c.in-Flow.is c.if-from-count.false

pub returns-in-Push : goal.returns-in-Push
returns-in-Push g c rules kept never = refused c.args.count rules kept c.args.rule.now (λ m w below other. let is = c.in-Push.is in cc)

pub returns-in-Pop : goal.returns-in-Pop
returns-in-Pop g c rules kept never = refused c.args.count rules kept c.args.rule.now (λ m w below other. let is = c.in-Pop.is in cc)
