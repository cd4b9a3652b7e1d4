use Rattle.std.proofs.Common.{take}
use Rattle.track_tables.specs.Making.{HasBegun}
use Rattle.track_tables.proofs.starts.begin_all.Given as goal

abbrev pub invariant-loop-number : goal.invariant-loop-number
invariant-loop-number l = HasBegun l.linked l.nodes (take l.number-index l.numbers) l.weight l.initial.growth l.growth
