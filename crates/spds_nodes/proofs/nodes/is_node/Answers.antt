use Rattle.spds_nodes.proofs.nodes.is_node.Goals as goal

pub returns-in-None : goal.returns-in-None
returns-in-None c = (
  (λ holds. absurd (cc (holds))),
  (λ node. absurd (c.in-None.ensures.none node.code (record { method = node.method; there = node.there; here = node.here }))),
)
