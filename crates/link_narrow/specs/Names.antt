-- What is kept, as it is looked up.
use Rattle.std.specs.Prelude.{ℕ, ◌+◌, ◌*◌, ◌↔◌, List}
use Rattle.lists.specs.Lists.{Has}
use Rattle.link_narrow.specs.declared.names.Spot.{Spot}
use Rattle.narrow_rules.specs.declared.kept.Kept.{Kept}
use Rattle.narrow_rules.specs.Narrowed.{IsKept}

-- the number by which spots are spread
abbrev pub spot_spread : Spot → ℕ
spot_spread s = s.method * 1048576 + s.index * 1024 + s.target

abbrev pub spot_of : Kept → Spot
spot_of k = record { method = k.place.method; index = k.place.index; target = k.target }

-- the spots are those that are named
abbrev pub AreSpots : List Kept → List Spot → Type 0
AreSpots kept spots = (s : Spot) → Has spots s ↔ IsKept kept s.method s.index s.target
