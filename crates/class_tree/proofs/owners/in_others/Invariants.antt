use Rattle.std.proofs.Common.{◌↔◌, Contains, take}
use Rattle.class_tree.specs.declared.first_rows.Member.{Member}
use Rattle.class_tree.specs.Holders.{few_of}
use Rattle.class_tree.proofs.owners.in_others.Given as goal

abbrev pub invariant-loop-member : goal.invariant-loop-member
invariant-loop-member l = (m : Member) → Contains l.found.items m ↔ Contains (take l.member-index l.members) m × (Contains (few_of l.interfaces m.key) m.class → ⊥)
