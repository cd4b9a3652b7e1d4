-- What a table of weights reads.
use Rattle.std.specs.Prelude.{◌↔◌, ℕ, List, ◌∷◌}
use Rattle.auto_table.specs.declared.entry.Entry.{Entry}
use Rattle.auto_table.specs.declared.entry.Entry.TheVariants.{Base, Pushed}
use Rattle.auto_table.specs.declared.rule.Rule.{Rule}
use Rattle.auto_table.specs.Cells.{Cells, weight_at, link_at, IsUsed}
use Rattle.post_star.specs.declared.bases.Start.{Start}
use Rattle.post_star.specs.declared.bases.BaseStep.{BaseStep}
use Rattle.post_star.specs.Derivations.{Leads, IsNamed, IsSumOf, IsValue, IsAnyValue}
use Rattle.weight_laws.specs.Law.{Domain}

-- a list of entries that begins with the entry reads the word; with the product of its links
pub data Reads {W : Type 0} (d : Domain W) (steps : List BaseStep) (last : ℕ) (t : Cells W) : Entry → List ℕ → W → Type 0 where
  at_base : {b : ℕ} {word : List ℕ} → Leads steps b word last → Reads d steps last t (Base b) word d.one
  at_link : {node mark : ℕ} {parent : Entry} {word : List ℕ} {x : W} → Reads d steps last t parent word x
      → Reads d steps last t (Pushed node mark) (mark ∷ word) (d.extend x (link_at d t (Pushed node mark) parent))

-- a reading of a node and a word, with its weight
pub data ReadsAt {W : Type 0} (d : Domain W) (steps : List BaseStep) (last : ℕ) (t : Cells W) (node : ℕ) (word : List ℕ) : W → Type 0 where
  from_entry : {entry : Entry} {x : W} → Reads d steps last t entry word x → ReadsAt d steps last t node word (d.extend x (weight_at d t entry node))

abbrev pub IsTableValue : {W : Type 0} → Domain W → List BaseStep → ℕ → Cells W → ℕ → List ℕ → W → Type 0
IsTableValue d steps last t node word = IsSumOf d (ReadsAt d steps last t node word)

-- a list of entries that begins with the entry and ends with a base; with the product of its links
pub data ReadsAny {W : Type 0} (d : Domain W) (t : Cells W) : Entry → W → Type 0 where
  any_base : {b : ℕ} → ReadsAny d t (Base b) d.one
  any_link : {node mark : ℕ} {parent : Entry} {x : W} → ReadsAny d t parent x → ReadsAny d t (Pushed node mark) (d.extend x (link_at d t (Pushed node mark) parent))

-- a reading of a node alone, with its weight
pub data ReadsAnyAt {W : Type 0} (d : Domain W) (t : Cells W) (node : ℕ) : W → Type 0 where
  any_entry : {entry : Entry} {x : W} → ReadsAny d t entry x → ReadsAnyAt d t node (d.extend x (weight_at d t entry node))

abbrev pub IsTableAny : {W : Type 0} → Domain W → Cells W → ℕ → W → Type 0
IsTableAny d t node = IsSumOf d (ReadsAnyAt d t node)

-- the table has the values of the system, and its bases are named
pub record IsSaturated {W : Type 0} (d : Domain W) (rules : List (Rule W)) (starts : List (Start W)) (steps : List BaseStep) (last : ℕ) (t : Cells W) : Type 0 where
  pub value : (node : ℕ) (word : List ℕ) (v : W) → IsTableValue d steps last t node word v ↔ IsValue d rules starts steps last node word v
  pub any_value : (node : ℕ) (v : W) → IsTableAny d t node v ↔ IsAnyValue d rules starts steps last node v
  pub named : (b : ℕ) → IsUsed d t (Base b) → IsNamed starts steps b
