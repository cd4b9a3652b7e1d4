use Rattle.std.proofs.Common.{◌≡◌, ◌≤◌, take}
use Rattle.link_rules.specs.Classes.{fields_of}
use Rattle.jim_link.specs.Members.{static_fields}
use Rattle.jim_link.proofs.members.static_count.Given as goal

abbrev pub invariant-loop-row : goal.invariant-loop-row
invariant-loop-row l = record {
  counted : l.count ≡ static_fields (take l.row (fields_of l.classes.world.classes));
  few : l.count ≤ l.row;
}
