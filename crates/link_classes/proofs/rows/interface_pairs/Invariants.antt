use Rattle.std.proofs.Common.{take}
use Rattle.link_rules.specs.Classes.{named_interfaces}
use Rattle.lists.specs.Lists.{Each}
use Rattle.link_rules.specs.World.{IsInterfacePair}
use Rattle.link_classes.specs.Seen.{seen_classes}
use Rattle.link_classes.proofs.rows.interface_pairs.Given as goal

abbrev pub invariant-loop-number : goal.invariant-loop-number
invariant-loop-number l = Each (IsInterfacePair (seen_classes l.order.classes.items)) (named_interfaces (seen_classes (take l.number l.classes))) l.pairs.items
