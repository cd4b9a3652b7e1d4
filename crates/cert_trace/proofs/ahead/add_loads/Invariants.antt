use Rattle.std.proofs.Common.{◌≡◌, ℕ, take}
use Rattle.lists.specs.Lists.{Has}
use Rattle.spds_rules.specs.declared.edge.Edge.{Edge}
use Rattle.spds_rules.specs.declared.edge.EdgeKind.TheVariants.{Load}
use Rattle.cert_trace.specs.Ahead.{IsFound}
use Rattle.cert_trace.proofs.ahead.add_loads.Given as goal

abbrev pub invariant-loop-edge : goal.invariant-loop-edge
invariant-loop-edge l = (e : Edge) → Has (take l.edge-index l.edges) e → (f : ℕ) → e.kind ≡ Load f → IsFound l.found.keys f e.from
