-- Lists that are gathered from others.
use Rattle.std.specs.Prelude.{◌↔◌, List}
use Rattle.lists.specs.Lists.{Has}

-- what the elements of a list give, one by one
abbrev pub AreGathered : {X Y : Type 0} → (X → Y → Type 0) → List X → List Y → Type 0
AreGathered {X} {Y} R xs ys = (y : Y) → Has ys y ↔ ((x : X) × Has xs x × R x y)
