use Rattle.type_track.specs.Searches.{AreBlank}
use Rattle.type_track.proofs.search.blank.Given as goal

abbrev pub invariant-loop : goal.invariant-loop
invariant-loop l = AreBlank l.counter l.lists.items
