use Rattle.std.proofs.Common.{◌≡◌, map, take}
use Rattle.link_program.specs.Parts.{linked_key}
use Rattle.link_rules.specs.Classes.{methods_of}
use Rattle.link_rules.specs.Linked.{key_of}
use Rattle.jim_link.proofs.members.keys.Given as goal

abbrev pub invariant-loop-row : goal.invariant-loop-row
invariant-loop-row l = map linked_key l.keys.items ≡ take l.row (map key_of (methods_of l.classes.world.classes))
