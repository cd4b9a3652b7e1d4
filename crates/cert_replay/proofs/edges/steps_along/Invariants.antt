use Rattle.std.proofs.Common.{◌↔◌, take}
use Rattle.lists.specs.Lists.{Has}
use Rattle.cert_replay.specs.Joins.{AnyStep, HasStep}
use Rattle.cert_replay.proofs.edges.steps_along.Given as goal

abbrev pub invariant-loop-edge : goal.invariant-loop-edge
invariant-loop-edge l = (s : AnyStep) → Has l.steps.keys s ↔ HasStep (take l.edge-index l.edges) s
