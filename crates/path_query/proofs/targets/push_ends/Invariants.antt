use Rattle.std.proofs.Common.{◌≡◌, ◌↔◌, ◌⊎◌, take}
use Rattle.lists.specs.Lists.{Has}
use Rattle.spds_rules.specs.declared.node.Node.{Node}
use Rattle.spds_rules.specs.declared.store.StoreAt.{StoreAt}
use Rattle.path_query.proofs.Collecting.{From}
use Rattle.path_query.proofs.targets.push_ends.Given as goal

-- those of the first stores
abbrev pub invariant-loop-store : goal.invariant-loop-store
invariant-loop-store l = (m : Node) → Has l.targets.items m ↔ (Has l.initial.targets.items m ⊎ From (λ (s : StoreAt) (x : Node). (x ≡ s.base) ⊎ (x ≡ s.arg)) (take l.store-index l.store-items) m)
