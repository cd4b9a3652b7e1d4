use Rattle.std.proofs.Common.{◌≡◌, ◌↔◌, ◌⊎◌, take}
use Rattle.lists.specs.Lists.{Has}
use Rattle.spds_rules.specs.declared.node.Node.{Node}
use Rattle.path_query.specs.Paths.{IsEndOf}
use Rattle.path_query.proofs.Collecting.{From}
use Rattle.path_query.proofs.targets.path_targets.Given as goal

-- those of the first fields
abbrev pub invariant-loop-field : goal.invariant-loop-field
invariant-loop-field l = (m : Node) → Has l.targets.items m ↔ ((m ≡ l.fn.node) ⊎ From (λ f x. IsEndOf l.linked f x) (take l.field-index l.fields) m)
