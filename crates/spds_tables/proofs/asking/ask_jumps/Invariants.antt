use Rattle.std.proofs.Common.{◌↔◌, ◌⊎◌, take}
use Rattle.lists.specs.Lists.{Has}
use Rattle.spds_tables.specs.declared.numbered.StartAt.{StartAt}
use Rattle.spds_tables.specs.Tables.{IsJumpedTo}
use Rattle.spds_tables.proofs.asking.ask_jumps.Given as goal

abbrev pub invariant-loop-jump : goal.invariant-loop-jump
invariant-loop-jump l =
    (s : StartAt) → Has l.asked.items s
    ↔ (Has l.initial.asked.items s ⊎ (IsJumpedTo l.cells (take l.jump-index l.jumps) l.tables.calls s × (Has l.tables.begun s → ⊥)))
