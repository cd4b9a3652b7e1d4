use Rattle.std.proofs.Common.{◌≡◌, ◌<◌, ◌^◌, All, length, take}
use Rattle.link_rules.specs.Classes.{methods_of}
use Rattle.link_classes.specs.Classes.{IsKnown}
use Rattle.link_classes.specs.Seen.{seen_classes, seen_methods}
use Rattle.link_classes.proofs.members.methods_in_order.Given as goal

abbrev pub invariant-loop-number : goal.invariant-loop-number
invariant-loop-number l = record {
  so_far : seen_methods l.methods.items ≡ methods_of (seen_classes (take l.number l.classes));
  few : length l.methods.items < 2 ^ 32;
  known : All (IsKnown l.all) l.methods.items;
}
