use Rattle.std.proofs.Common.{take, []}
use Rattle.lists.specs.Lists.{Has}
use Rattle.link_indexes.specs.declared.method.Place.{Place}
use Rattle.link_sites.specs.Places.{before}
use Rattle.std.specs.List.{AllPairs}
use Rattle.spds_nodes.specs.Added.{IsAdded, Over}
use Rattle.spds_nodes.specs.Stored.{IsStoreAt, StorePrecedes}
use Rattle.spds_nodes.proofs.stores.stores_of.Given as goal

abbrev pub invariant-loop-indexed : goal.invariant-loop-indexed
invariant-loop-indexed l = record {
  added : IsAdded (Over (Has (take l.indexed-index l.places)) (λ (q : Place). IsStoreAt l.linked l.field (before q.method q.index))) [] l.stores.items;
  ordered : AllPairs StorePrecedes l.stores.items;
}
