use Rattle.std.proofs.Common.{◌≡◌, ℕ, Some, slice_get, take}
use Rattle.lists.specs.Lists.{Has}
use Rattle.spds_rules.specs.declared.node.Node.{Node}
use Rattle.track_tables.proofs.opening.bases_of.Given as goal

abbrev pub invariant-loop-number : goal.invariant-loop-number
invariant-loop-number l = (number : ℕ) → Has (take l.number-index l.numbers) number → (n : Node) → slice_get l.nodes number ≡ Some n → Has l.bases.keys n.place.method
