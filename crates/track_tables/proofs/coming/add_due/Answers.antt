use Rattle.std.proofs.Common.{inl, inr, refl}
use Rattle.track_tables.proofs.coming.add_due.Goals as goal

pub returns-in_ok-add_edge-clause-each : goal.returns-in_ok-add_edge-clause-each
returns-in_ok-add_edge-clause-each c = λ k q a events r has. elim (c.in_ok-add_edge.ensures.each k q a events r has) [
  | inl was ↦ inl was
  | inr is ↦ inr (c.args.back.edge, refl, is)
]
