-- The words that a table over truth holds, read mark by mark.
use Rattle.std.specs.Prelude.{◌≡◌, ◌≢◌, ℕ, List, [], ◌∷◌}
use Rattle.auto_table.specs.declared.entry.Entry.{Entry}
use Rattle.auto_table.specs.declared.entry.Entry.TheVariants.{Base, Pushed}
use Rattle.auto_table.specs.Cells.{Cells, link_at, weight_at}
use Rattle.lists.specs.Lists.{Has}
use Rattle.post_star.specs.declared.bases.BaseStep.{BaseStep}
use Rattle.post_star.specs.Derivations.{step_of}
use Rattle.post_star.specs.Readings.{IsTableValue}
use Rattle.weight_laws.specs.declared.reach.Reach.{Reach}
use Rattle.weight_laws.specs.Reach.{reach_domain}

-- the value of the node and the word in the table isn't zero
pub record Holds (steps : List BaseStep) (last : ℕ) (t : Cells Reach) (node : ℕ) (word : List ℕ) : Type 0 where
  pub value : Reach
  pub is_value : IsTableValue reach_domain steps last t node word value
  pub some : value ≢ reach_domain.zero

-- the mark leads from the entry to the next: a base by a base step, a pushed entry by its own mark and a link
abbrev pub Moves : List BaseStep → Cells Reach → Entry → ℕ → Entry → Type 0
Moves steps t (Base base) mark (Base below) = Has steps (step_of base mark below)
Moves steps t (Base base) mark (Pushed node pushed) = ⊥
Moves steps t (Pushed node pushed) mark next = (mark ≡ pushed) × (link_at reach_domain t (Pushed node pushed) next ≢ reach_domain.zero)

-- the word leads from the entry to another
abbrev pub Walks : List BaseStep → Cells Reach → Entry → List ℕ → Entry → Type 0
Walks steps t entry [] end = entry ≡ end
Walks steps t entry (mark ∷ word) end = (next : Entry) × Moves steps t entry mark next × Walks steps t next word end

-- the entry reads the word: it leads to the last base
abbrev pub Spells : List BaseStep → ℕ → Cells Reach → Entry → List ℕ → Type 0
Spells steps last t entry word = Walks steps t entry word (Base last)

-- one of the entries reads the word
pub record SpellsFrom (steps : List BaseStep) (last : ℕ) (t : Cells Reach) (entries : List Entry) (word : List ℕ) : Type 0 where
  pub entry : Entry
  pub among : Has entries entry
  pub spells : Spells steps last t entry word

-- exactly the entries that have the node
abbrev pub AreAt : Cells Reach → ℕ → List Entry → Type 0
AreAt t node entries = (entry : Entry) → (Has entries entry → weight_at reach_domain t entry node ≢ reach_domain.zero)
    × (weight_at reach_domain t entry node ≢ reach_domain.zero → Has entries entry)
