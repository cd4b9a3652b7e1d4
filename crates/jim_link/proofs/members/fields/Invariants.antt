use Rattle.std.proofs.Common.{◌≡◌, ◌≤◌, length, map, take}
use Rattle.link_program.specs.Parts.{linked_field}
use Rattle.link_rules.specs.Classes.{fields_of}
use Rattle.link_rules.specs.Linked.{instance_fields}
use Rattle.jim_link.proofs.members.fields.Given as goal

abbrev pub invariant-loop-row : goal.invariant-loop-row
invariant-loop-row l = record {
  fields : map linked_field l.found.items ≡ instance_fields (take l.row (fields_of l.classes.world.classes));
  few : length l.found.items ≤ l.row;
}
