use Rattle.std.proofs.Common.{◌≡◌, ◌<◌, ◌^◌, All, length, take}
use Rattle.link_rules.specs.Classes.{fields_of}
use Rattle.link_classes.specs.Seen.{IsFieldSeen, seen_classes, seen_fields}
use Rattle.link_classes.proofs.members.fields_in_order.Given as goal

abbrev pub invariant-loop-number : goal.invariant-loop-number
invariant-loop-number l = record {
  so_far : seen_fields l.fields.items ≡ fields_of (seen_classes (take l.number l.classes));
  few : length l.fields.items < 2 ^ 32;
  known : All (IsFieldSeen l.all) l.fields.items;
}
