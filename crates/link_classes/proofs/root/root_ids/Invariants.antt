use Rattle.std.proofs.Common.{◌++◌, List, ℕ, map, take}
use Rattle.link_rules.specs.Classes.{class_name}
use Rattle.link_classes.specs.Numbered.{AreNumbers, fixed_names}
use Rattle.link_classes.specs.Seen.{seen_classes}
use Rattle.link_classes.proofs.root.root_ids.Given as goal

abbrev pub invariant-loop-class : goal.invariant-loop-class
invariant-loop-class l = (entry : List ℕ) → AreNumbers l.order.all.now.texts (fixed_names entry) l.order.all.now.root.items
    → AreNumbers l.order.all.now.texts (fixed_names entry ++ map class_name (seen_classes (take l.class-index l.classes))) l.ids.items
