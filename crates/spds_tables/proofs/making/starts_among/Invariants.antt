use Rattle.std.proofs.Common.{take}
use Rattle.call_side.specs.Gathered.{AreGathered}
use Rattle.spds_tables.specs.Making.{IsStartAt}
use Rattle.spds_tables.proofs.making.starts_among.Given as goal

abbrev pub invariant-loop-number : goal.invariant-loop-number
invariant-loop-number l = AreGathered (IsStartAt l.linked l.nodes) (take l.number-index l.numbers) l.starts.items
