use Rattle.std.proofs.Common.{take, ℕ, List, ◌++◌}
use Rattle.lists.specs.Lists.{FirstSeen}
use Rattle.link_classes.specs.Numbered.{AreNumbers, Keeps}
use Rattle.link_classes.proofs.names.add_names.Given as goal

abbrev pub invariant-loop-at : goal.invariant-loop-at
invariant-loop-at l = record {
  numbers : AreNumbers l.texts (take l.at l.names) l.ids.items;
  kept : Keeps l.fn.texts l.texts;
  seen : (seen : List (List ℕ)) → FirstSeen seen l.fn.texts → FirstSeen (seen ++ take l.at l.names) l.texts;
}
