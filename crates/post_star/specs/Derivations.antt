-- The derivations of a weighted pushdown system, and the values that they have together.
use Rattle.std.specs.Prelude.{◌≡◌, ℕ, List, [], ◌∷◌}
use Rattle.auto_table.specs.declared.rule.Rule.{Rule}
use Rattle.auto_table.specs.declared.rule.Rule.TheVariants.{Flow, Push, Pop}
use Rattle.lists.specs.Lists.{Has}
use Rattle.post_star.specs.declared.bases.Start.{Start}
use Rattle.post_star.specs.declared.bases.BaseStep.{BaseStep}
use Rattle.weight_laws.specs.Law.{Domain, Leq}

abbrev pub step_of : ℕ → ℕ → ℕ → BaseStep
step_of base mark below = record { base = base; mark = mark; below = below }

-- base steps lead from the first base to the second by the word
abbrev pub Leads : List BaseStep → ℕ → List ℕ → ℕ → Type 0
Leads steps b [] c = b ≡ c
Leads steps b (mark ∷ word) c = (below : ℕ) × Has steps (step_of b mark below) × Leads steps below word c

-- a start or a base step names the base
pub data IsNamed {W : Type 0} (starts : List (Start W)) (steps : List BaseStep) (b : ℕ) : Type 0 where
  by_start : (s : Start W) → Has starts s → s.base ≡ b → IsNamed starts steps b
  by_base : (s : BaseStep) → Has steps s → s.base ≡ b → IsNamed starts steps b
  by_below : (s : BaseStep) → Has steps s → s.below ≡ b → IsNamed starts steps b

-- each named base leads to the last one by some word
abbrev pub IsLed : {W : Type 0} → List (Start W) → List BaseStep → ℕ → Type 0
IsLed starts steps last = (b : ℕ) → IsNamed starts steps b → (word : List ℕ) × Leads steps b word last

-- a derivation of a node and a word: a start, a word from its base to the last, and rules that lead from there; with its weight
pub data Derives {W : Type 0} (d : Domain W) (rules : List (Rule W)) (starts : List (Start W)) (steps : List BaseStep) (last : ℕ) : ℕ → List ℕ → W → Type 0 where
  starts_at : {s : Start W} {word : List ℕ} → Has starts s → Leads steps s.base word last → Derives d rules starts steps last s.node word s.weight
  flows : {from to : ℕ} {word : List ℕ} {x weight : W} → Has rules (Flow from to weight) → Derives d rules starts steps last from word x
      → Derives d rules starts steps last to word (d.extend x weight)
  pushes : {from to mark : ℕ} {word : List ℕ} {x weight : W} → Has rules (Push from to mark weight) → Derives d rules starts steps last from word x
      → Derives d rules starts steps last to (mark ∷ word) (d.extend x weight)
  pops : {from mark to : ℕ} {word : List ℕ} {x weight : W} → Has rules (Pop from mark to weight) → Derives d rules starts steps last from (mark ∷ word) x
      → Derives d rules starts steps last to word (d.extend x weight)

-- the combination of some finite list of weights of the kind
pub data Combines {W : Type 0} (d : Domain W) (kind : W → Type 0) : W → Type 0 where
  none : Combines d kind d.zero
  one : {x : W} → kind x → Combines d kind x
  both : {x y : W} → Combines d kind x → Combines d kind y → Combines d kind (d.combine x y)

-- the combination of a finite list of weights of the kind that lies above each weight of the kind
pub record IsSumOf {W : Type 0} (d : Domain W) (kind : W → Type 0) (value : W) : Type 0 where
  pub finite : Combines d kind value
  pub above : (x : W) → kind x → Leq d x value

-- the value of a node and a word, over the derivations
abbrev pub IsValue : {W : Type 0} → Domain W → List (Rule W) → List (Start W) → List BaseStep → ℕ → ℕ → List ℕ → W → Type 0
IsValue d rules starts steps last node word = IsSumOf d (Derives d rules starts steps last node word)

-- a derivation that ends at the node with any word
pub data DerivesAny {W : Type 0} (d : Domain W) (rules : List (Rule W)) (starts : List (Start W)) (steps : List BaseStep) (last : ℕ) (node : ℕ) : W → Type 0 where
  any_word : {word : List ℕ} {x : W} → Derives d rules starts steps last node word x → DerivesAny d rules starts steps last node x

abbrev pub IsAnyValue : {W : Type 0} → Domain W → List (Rule W) → List (Start W) → List BaseStep → ℕ → ℕ → W → Type 0
IsAnyValue d rules starts steps last node = IsSumOf d (DerivesAny d rules starts steps last node)
