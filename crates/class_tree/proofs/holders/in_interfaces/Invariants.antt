use Rattle.std.proofs.Common.{◌↔◌, Contains, take}
use Rattle.class_tree.specs.declared.first_rows.Member.{Member}
use Rattle.class_tree.specs.Holders.{IsInterface}
use Rattle.class_tree.proofs.holders.in_interfaces.Given as goal

abbrev pub invariant-loop-member : goal.invariant-loop-member
invariant-loop-member l = (m : Member) → Contains l.found.items m ↔ Contains (take l.member-index l.members) m × IsInterface l.classes m.class
