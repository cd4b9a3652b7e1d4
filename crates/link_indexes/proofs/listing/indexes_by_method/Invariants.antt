use Rattle.std.proofs.Common.{◌≡◌, length, map, take}
use Rattle.link_indexes.specs.Facts.{IsOfKind}
use Rattle.link_indexes.specs.Tables.{AreIndexesBy, codes_of}
use Rattle.link_indexes.proofs.listing.indexes_by_method.Given as goal

abbrev pub invariant-loop-method : goal.invariant-loop-method
invariant-loop-method l = record {
  long : length l.lists.items ≡ l.method-index;
  exact : AreIndexesBy (IsOfKind l.kind) (take l.method-index (codes_of l.methods)) (map (λ v. v.items) l.lists.items);
}
