use Rattle.std.proofs.Common.{◌≡◌, length, take}
use Rattle.link_indexes.specs.Tables.{ArePredecessorsBy, codes_of}
use Rattle.link_indexes.proofs.before.predecessors_by_method.Given as goal

abbrev pub invariant-loop-method : goal.invariant-loop-method
invariant-loop-method l = record {
  long : length l.tables.items ≡ l.method-index;
  exact : ArePredecessorsBy (take l.method-index (codes_of l.methods)) l.tables.items;
}
