use Rattle.spds_nodes.proofs.flows.brought.Goals as goal

pub returns-then-assigns : goal.returns-then-assigns
returns-then-assigns c = λ s. c.source_of.ensures c.args.x (c.assigns.ensures.to.0 c.if-assigns.true) s
