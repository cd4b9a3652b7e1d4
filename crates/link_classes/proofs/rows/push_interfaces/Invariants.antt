use Rattle.std.proofs.Common.{◌++◌, List, map, take}
use Rattle.link_rules.specs.Classes.{NamedInterface}
use Rattle.lists.specs.Lists.{Each}
use Rattle.link_rules.specs.Names.{text_of}
use Rattle.link_rules.specs.World.{IsInterfacePair}
use Rattle.link_classes.specs.Seen.{seen_classes}
use Rattle.link_classes.proofs.rows.push_interfaces.Given as goal

abbrev pub invariant-loop-interface : goal.invariant-loop-interface
invariant-loop-interface l = (before : List NamedInterface) → Each (IsInterfacePair (seen_classes l.order.classes.items)) before l.fn.pairs.items
    → Each (IsInterfacePair (seen_classes l.order.classes.items))
    (before ++ map (λ i. record { class = l.number; name = text_of l.class.names.now i }) (take l.interface-index l.interfaces)) l.pairs.items
