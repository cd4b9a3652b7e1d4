use Rattle.std.proofs.Common.{◌≡◌}
use Rattle.link_classes.specs.Seen.{seen_method}
use Rattle.link_faults.specs.Progress.{IsExaminedTo}
use Rattle.link_faults.proofs.examining.examine_stmts.Given as goal

abbrev pub invariant-loop-index : goal.invariant-loop-index
invariant-loop-index l = record {
  same : l.targets ≡ l.fn.targets;
  so_far : IsExaminedTo l.fn.targets.world (seen_method l.method) l.body l.index l.examined;
}
