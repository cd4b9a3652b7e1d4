use Rattle.std.proofs.Common.{ℕ, ◌≤◌, map}
use Rattle.link_rules.specs.Accessed.{IsEntryNamed}
use Rattle.link_program.specs.Parts.{linked_field}
use Rattle.link_program.proofs.fields.find_field.Given as goal

abbrev pub invariant-loop-at : goal.invariant-loop-at
invariant-loop-at l = (field : ℕ) → field ≤ l.at → IsEntryNamed (map linked_field l.fields) l.class l.name field → ⊥
