-- The readings of a node with any word, gathered from the node's entries up to the bases.
use Rattle.std.specs.Prelude.{◌≡◌, ◌≢◌, ◌⊎◌, ℕ, List, [], ◌∷◌, ◌++◌}
use Rattle.auto_table.specs.declared.entry.Entry.{Entry}
use Rattle.auto_table.specs.declared.entry.Entry.TheVariants.{Base, Pushed}
use Rattle.lists.specs.Lists.{Has}
use Rattle.auto_table.specs.Cells.{Cells, weight_at, link_at, IsUsed, AreMeant}
use Rattle.post_star.specs.declared.rise.Item.{Item}
use Rattle.post_star.specs.declared.rise.Item.TheVariants.{At}
use Rattle.post_star.specs.Derivations.{Combines, IsSumOf}
use Rattle.post_star.specs.Measures.{Scope, IsWithin, parents_in}
use Rattle.weight_laws.specs.Law.{Domain, Leq}

-- each entry that has a weight at the node is among these, and each of these has some weight
pub record AreEntriesAt {W : Type 0} (d : Domain W) (t : Cells W) (node : ℕ) (entries : List Entry) : Type 0 where
  pub all : (entry : Entry) → weight_at d t entry node ≢ d.zero → Has entries entry
  pub used : (entry : Entry) → Has entries entry → IsUsed d t entry

-- the first entries of a reading of the node, up to the entry; with the product so far
pub data Climbs {W : Type 0} (d : Domain W) (t : Cells W) (node : ℕ) : Entry → W → Type 0 where
  from_node : {e : Entry} → Climbs d t node e (weight_at d t e node)
  to_parent : {n mark : ℕ} {parent : Entry} {x : W} → Climbs d t node (Pushed n mark) x → Climbs d t node parent (d.extend (link_at d t (Pushed n mark) parent) x)

-- the entries that have a number or are parents, and the node
abbrev pub used_scope : {W : Type 0} → Cells W → ℕ → Scope
used_scope t node = record {
  entries = t.names ++ parents_in t.parents;
  nodes = node ∷ [];
}

-- each sum comes from readings, and items are entries at the node
pub record IsSwept {W : Type 0} (d : Domain W) (t : Cells W) (node : ℕ) (sums : Cells W) (items : List Item) : Type 0 where
  pub sound : (e : Entry) → Combines d (Climbs d t node e) (weight_at d sums e node)
  pub within : IsWithin d (used_scope t node) sums items
  pub only : (item : Item) → Has items item → (e : Entry) × (item ≡ At e node)
  pub meant : AreMeant d sums

-- the sum of a pushed entry went on to the parent, or an item waits for it
abbrev pub WentOn : {W : Type 0} → Domain W → Cells W → ℕ → Cells W → List Item → ℕ → ℕ → Entry → Type 0
WentOn d t node sums items n mark p =
    Has items (At (Pushed n mark) node) ⊎ Leq d (d.extend (link_at d t (Pushed n mark) p) (weight_at d sums (Pushed n mark) node)) (weight_at d sums p node)

-- and each sum went on to each parent but where an item waits
pub record IsSweeping {W : Type 0} (d : Domain W) (t : Cells W) (node : ℕ) (sums : Cells W) (items : List Item) : Type 0 where
  pub swept : IsSwept d t node sums items
  pub open_to : (n mark : ℕ) (p : Entry) → WentOn d t node sums items n mark p

-- each weight of the node lies below the sum of its entry
abbrev pub AreBegun : {W : Type 0} → Domain W → Cells W → ℕ → Cells W → Type 0
AreBegun d t node sums = (e : Entry) → Leq d (weight_at d t e node) (weight_at d sums e node)

-- the combination of the sums of finitely many bases, which lies above that of each base
pub data AtBase {W : Type 0} (d : Domain W) (sums : Cells W) (node : ℕ) : W → Type 0 where
  at_base_of : (b : ℕ) → AtBase d sums node (weight_at d sums (Base b) node)

abbrev pub IsSumAtBases : {W : Type 0} → Domain W → Cells W → ℕ → W → Type 0
IsSumAtBases d sums node = IsSumOf d (AtBase d sums node)
