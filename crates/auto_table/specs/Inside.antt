-- What holds of the fields of a table.
use Rattle.std.specs.Prelude.{◌≡◌, ◌≢◌, ℕ, List, Some, length, slice_get}
use Rattle.auto_table.specs.declared.entry.Entry.{Entry}
use Rattle.auto_table.specs.declared.spot.Spot.{Spot}
use Rattle.auto_table.specs.declared.spot.Joint.{Joint}
use Rattle.auto_table.specs.Cells.{AreMeant, Cells, IsListed, linked_weight, node_of, parent_of, reached_weight}
use Rattle.auto_table.specs.Grids.{IsFiled, row_at}
use Rattle.lists.specs.Lists.{IsApart}
use Rattle.weight_laws.specs.Law.{Domain}

abbrev pub spot_row : Spot → ℕ
spot_row s = s.row

abbrev pub spot_node : Spot → ℕ
spot_node s = s.node

abbrev pub joint_row : Joint → ℕ
joint_row j = j.row

abbrev pub joint_parent : Joint → Entry
joint_parent j = j.parent

-- no cell of the rows weighs nothing
abbrev pub AreNonzero : {X W : Type 0} → (X → W) → W → List (List X) → Type 0
AreNonzero {X} weight zero rows = (i j : ℕ) (x : X) → slice_get (row_at rows i) j ≡ Some x → weight x ≢ zero

-- entries are numbered once, each number has rows, all weights are meant, and the cells are found and weigh something
pub record IsLaid {W : Type 0} (d : Domain W) (t : Cells W) (spots : List Spot) (places : List ℕ) (joints : List Joint) (seats : List ℕ) : Type 0 where
  pub apart : IsApart t.names
  pub meant : AreMeant d t
  pub rows : length t.reached ≡ length t.names
  pub parent_rows : length t.parents ≡ length t.names
  pub by_spot : IsFiled spot_row spot_node node_of t.reached spots places
  pub by_joint : IsFiled joint_row joint_parent parent_of t.parents joints seats
  pub weights_some : AreNonzero reached_weight d.zero t.reached
  pub links_some : AreNonzero linked_weight d.zero t.parents

-- and the entries that have a number are the used ones
pub record IsTable {W : Type 0} (d : Domain W) (t : Cells W) (spots : List Spot) (places : List ℕ) (joints : List Joint) (seats : List ℕ) : Type 0 where
  pub listed : IsListed d t t.names
  pub laid : IsLaid d t spots places joints seats
