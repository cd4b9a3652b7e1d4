-- Elements by what they are looked for by.
use Rattle.std.specs.Prelude.{List}
use Rattle.lists.specs.Groups.{Grouped}
use Rattle.lists.specs.Groups.{found_at as found_by, IsAdded as IsAddedBy}
use Rattle.post_star.specs.declared.key.Key.{Key}
use Rattle.post_star.specs.contracts.key.KeyPartialEq.TheImpl as keys

-- keys by number, and a group of elements for each
abbrev pub Groups : Type 0 → Type 0
Groups X = Grouped Key X

-- the elements that are kept under a key
abbrev pub found_at : {X : Type 0} → Groups X → Key → List X
found_at g key = found_by keys.eq-value.it g key

-- the element came last under the key, and all other keys have what they had
abbrev pub IsAdded : {X : Type 0} → Groups X → Groups X → Key → X → Type 0
IsAdded old new key x = IsAddedBy keys.eq-value.it old new key x
