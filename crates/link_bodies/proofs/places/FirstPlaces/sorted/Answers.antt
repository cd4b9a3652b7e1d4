use Rattle.std.proofs.Common.{rules}
use Rattle.std.proofs.lemmas.List.Sorted.{IsNonDecreasingBy-from_sort_by_key}
use Rattle.link_bodies.specs.Places.{key_of}
use Rattle.link_bodies.proofs.Sorted.{named_moved}
use Rattle.link_bodies.proofs.places.FirstPlaces.sorted.Goals as goal

pub returns : goal.returns
returns c names named = record {
  named = named_moved names _ c.args.places.items c.sort_unstable_by_key.new.self.items c.sort_unstable_by_key.ensures.permutation named;
  ordered = IsNonDecreasingBy-from_sort_by_key key_of _ c.sort_unstable_by_key.ensures.sorted (λ a r q k. search rules);
}
