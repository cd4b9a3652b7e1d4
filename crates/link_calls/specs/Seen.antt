-- The rows that have been seen.
use Rattle.std.specs.Prelude.{ℕ, ◌↔◌, List, IsTrue}
use Rattle.std.specs.BTreeSet.{BTreeSet, contains}
use Rattle.std.specs.Ordering.{nat_cmp}
use Rattle.lists.specs.Lists.{Has}

-- the set has the rows of the list, and no others
abbrev pub AreSeen : BTreeSet ℕ → List ℕ → Type 0
AreSeen seen rows = (row : ℕ) → IsTrue (contains nat_cmp seen row) ↔ Has rows row
