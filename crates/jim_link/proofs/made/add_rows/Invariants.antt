use Rattle.std.proofs.Common.{◌≡◌, take}
use Rattle.jim_link.specs.Made.{AreMade}
use Rattle.jim_link.proofs.made.add_rows.Given as goal

abbrev pub invariant-loop-row : goal.invariant-loop-row
invariant-loop-row l = record {
  same : l.targets ≡ l.fn.targets;
  made : AreMade l.fn.targets.world l.numbering (take l.row-index l.row-items) l.made;
}
