use Rattle.std.proofs.Common.{take}
use Rattle.track_tables.specs.Returns.{AreReturnsFiled}
use Rattle.track_tables.proofs.returns.file.Given as goal

abbrev pub invariant-loop-back : goal.invariant-loop-back
invariant-loop-back l = AreReturnsFiled (take l.back-index l.returns) l.by_source l.by_mark l.by_both
