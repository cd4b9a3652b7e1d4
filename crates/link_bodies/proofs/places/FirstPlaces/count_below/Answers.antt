use Rattle.std.proofs.Common.{◌*◌, ◌^◌, rules, of_calls, ltb}
use Rattle.std.proofs.lemmas.Fn.{always_returns_same}
use Rattle.std.proofs.lemmas.List.Sorted.{IsPartitionedBy-ltb}
use Rattle.link_bodies.specs.declared.places.NamedPlace.{NamedPlace}
use Rattle.link_bodies.specs.Places.{key_of}
use Rattle.link_bodies.proofs.places.FirstPlaces.count_below.Goals as goal

pub returns : goal.returns
returns c ordered =
    rw (← c.deref.ensures.value) (c.partition_point.ensures.partitioned (λ (e : NamedPlace). ltb (key_of e) (c.args.name.0 * 2 ^ 32)) (always_returns_same _ _ _ (λ a r f k. search (rules, of_calls)))
    (rw c.deref.ensures.value (IsPartitionedBy-ltb key_of c.args.self.now.places.items (c.args.name.0 * 2 ^ 32) ordered)))
