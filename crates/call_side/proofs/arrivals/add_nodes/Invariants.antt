use Rattle.std.proofs.Common.{◌↔◌, ◌⊎◌, ℕ, take}
use Rattle.lists.specs.Lists.{Has}
use Rattle.call_side.proofs.Arriving.{AmongRow}
use Rattle.call_side.proofs.arrivals.add_nodes.Given as goal

abbrev pub invariant-loop-reached : goal.invariant-loop-reached
invariant-loop-reached l = (n : ℕ) → Has l.nodes.keys n ↔ (Has l.initial.nodes.keys n ⊎ AmongRow (take l.reached-index l.row) n)
