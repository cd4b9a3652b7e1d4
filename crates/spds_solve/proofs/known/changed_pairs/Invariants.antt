use Rattle.std.proofs.Common.{◌⊎◌, take}
use Rattle.lists.specs.Lists.{Has}
use Rattle.spds_solve.specs.Known.{AreStillAt}
use Rattle.spds_solve.proofs.known.changed_pairs.Given as goal
use Rattle.spds_tables.specs.declared.numbered.Met.{Met as Numbers}

abbrev pub invariant-loop-pair : goal.invariant-loop-pair
invariant-loop-pair l = record {
  each : (m : Numbers) → Has l.found.items m → Has (take l.pair-index l.pairs) m;
  all : (m : Numbers) → Has (take l.pair-index l.pairs) m → Has l.found.items m ⊎ AreStillAt l.changed m;
}
