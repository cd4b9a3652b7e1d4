use Rattle.link_faults.specs.Sites.{IsNativeRow}
use Rattle.link_faults.proofs.Scans.{NoneBefore}
use Rattle.link_faults.proofs.callees.has_native.Given as goal

abbrev pub invariant-loop-row : goal.invariant-loop-row
invariant-loop-row l = NoneBefore (IsNativeRow l.classes.world) l.rows l.row-index
