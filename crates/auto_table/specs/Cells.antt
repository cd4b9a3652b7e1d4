-- What a table of weights is: a weight for each entry and node, and one for each link from an entry to an entry.
use Rattle.std.specs.Prelude.{◌≡◌, ◌≢◌, ℕ, suc, Bool, eqb, List, [], ◌∷◌, Some, cond, slice_get}
use Rattle.auto_table.specs.declared.entry.Entry.{Entry}
use Rattle.auto_table.specs.declared.row.Reached.{Reached}
use Rattle.auto_table.specs.declared.row.Linked.{Linked}
use Rattle.auto_table.specs.contracts.entry.EntryPartialEq.TheImpl as entry
use Rattle.auto_table.specs.Grids.{row_at}
use Rattle.lists.specs.Lists.{Has, IsApart}
use Rattle.weight_laws.specs.Law.{Domain}

-- what a table means: entries by number, and of each number the weights at nodes, and the links to parents
pub record Cells (W : Type 0) : Type 0 where
  pub names : List Entry
  pub reached : List (List (Reached W))
  pub parents : List (List (Linked W))

-- what there is at the number of the entry, and something else where it has none
abbrev pub at_entry : {X : Type 0} → List Entry → (ℕ → X) → X → Entry → X
at_entry [] at none e = none
at_entry (k ∷ ks) at none e = cond (entry.eq-value.it k e) (at 0) (at_entry ks (λ i. at (suc i)) none e)

-- the weight of the first cell of this key, and something else where there is none
abbrev pub weight_of : {K X W : Type 0} → (K → K → Bool) → (X → K) → (X → W) → W → K → List X → W
weight_of eq is_of weight none k [] = none
weight_of eq is_of weight none k (x ∷ xs) = cond (eq (is_of x) k) (weight x) (weight_of eq is_of weight none k xs)

abbrev pub node_of : {W : Type 0} → Reached W → ℕ
node_of x = x.node

abbrev pub parent_of : {W : Type 0} → Linked W → Entry
parent_of x = x.parent

abbrev pub reached_weight : {W : Type 0} → Reached W → W
reached_weight x = x.weight

abbrev pub linked_weight : {W : Type 0} → Linked W → W
linked_weight x = x.weight

-- the weight of the entry at the node
unfoldable pub weight_at : {W : Type 0} → Domain W → Cells W → Entry → ℕ → W
weight_at d t entry node = at_entry t.names (λ i. weight_of eqb node_of reached_weight d.zero node (row_at t.reached i)) d.zero entry

-- the weight of the link from the child to the parent
unfoldable pub link_at : {W : Type 0} → Domain W → Cells W → Entry → Entry → W
link_at d t child parent = at_entry t.names (λ i. weight_of entry.eq-value.it parent_of linked_weight d.zero parent (row_at t.parents i)) d.zero child

-- a weight at the entry, or at a link from or to it, isn't zero
pub data IsUsed {W : Type 0} (d : Domain W) (t : Cells W) (entry : Entry) : Type 0 where
  by_weight : (node : ℕ) → weight_at d t entry node ≢ d.zero → IsUsed d t entry
  by_child : (parent : Entry) → link_at d t entry parent ≢ d.zero → IsUsed d t entry
  by_parent : (child : Entry) → link_at d t child entry ≢ d.zero → IsUsed d t entry

-- the list has each used entry once, and no other
pub record IsListed {W : Type 0} (d : Domain W) (t : Cells W) (entries : List Entry) : Type 0 where
  pub used : (entry : Entry) → Has entries entry → IsUsed d t entry
  pub all : (entry : Entry) → IsUsed d t entry → Has entries entry
  pub apart : IsApart entries

-- all weights are meant
pub record AreMeant {W : Type 0} (d : Domain W) (t : Cells W) : Type 0 where
  pub weights : (entry : Entry) (node : ℕ) → d.IsMeant (weight_at d t entry node)
  pub links : (child parent : Entry) → d.IsMeant (link_at d t child parent)

-- the row has each node at which the entry has a weight, once, with that weight
pub record IsRow {W : Type 0} (d : Domain W) (t : Cells W) (entry : Entry) (row : List (Reached W)) : Type 0 where
  pub weight : (x : Reached W) → Has row x → x.weight ≡ weight_at d t entry x.node
  pub some : (x : Reached W) → Has row x → x.weight ≢ d.zero
  pub all : (node : ℕ) → weight_at d t entry node ≢ d.zero → Has row (record { node = node; weight = weight_at d t entry node })
  pub apart : (i j : ℕ) (x y : Reached W) → slice_get row i ≡ Some x → slice_get row j ≡ Some y → x.node ≡ y.node → i ≡ j

-- the row has each parent to which the child has a link, once, with the weight of the link
pub record AreParents {W : Type 0} (d : Domain W) (t : Cells W) (child : Entry) (row : List (Linked W)) : Type 0 where
  pub weight : (x : Linked W) → Has row x → x.weight ≡ link_at d t child x.parent
  pub some : (x : Linked W) → Has row x → x.weight ≢ d.zero
  pub all : (parent : Entry) → link_at d t child parent ≢ d.zero → Has row (record { parent = parent; weight = link_at d t child parent })
  pub apart : (i j : ℕ) (x y : Linked W) → slice_get row i ≡ Some x → slice_get row j ≡ Some y → x.parent ≡ y.parent → i ≡ j

-- all weights are zero
pub record IsBlank {W : Type 0} (d : Domain W) (t : Cells W) : Type 0 where
  pub weights : (entry : Entry) (node : ℕ) → weight_at d t entry node ≡ d.zero
  pub links : (child parent : Entry) → link_at d t child parent ≡ d.zero

-- the weight was combined into that of the entry at the node, and all others stay
pub record IsRaised {W : Type 0} (d : Domain W) (old new : Cells W) (entry : Entry) (node : ℕ) (weight : W) : Type 0 where
  pub here : weight_at d new entry node ≡ d.combine (weight_at d old entry node) weight
  pub others : (e : Entry) (n : ℕ) → (e ≡ entry → n ≡ node → ⊥) → weight_at d new e n ≡ weight_at d old e n
  pub links : (child parent : Entry) → link_at d new child parent ≡ link_at d old child parent

-- the weight was combined into that of the link, and all others stay
pub record IsRaisedLink {W : Type 0} (d : Domain W) (old new : Cells W) (child parent : Entry) (weight : W) : Type 0 where
  pub here : link_at d new child parent ≡ d.combine (link_at d old child parent) weight
  pub others : (c p : Entry) → (c ≡ child → p ≡ parent → ⊥) → link_at d new c p ≡ link_at d old c p
  pub weights : (entry : Entry) (node : ℕ) → weight_at d new entry node ≡ weight_at d old entry node
