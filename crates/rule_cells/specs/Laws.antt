-- What a system derives, its contraction derives at the heads.
use Rattle.std.specs.Prelude.{◌≡◌, ◌↔◌, ℕ, List, ◌++◌}
use Rattle.auto_table.specs.declared.rule.Rule.{Rule}
use Rattle.lists.specs.Lists.{Has}
use Rattle.post_star.specs.declared.bases.Start.{Start}
use Rattle.post_star.specs.declared.bases.BaseStep.{BaseStep}
use Rattle.post_star.specs.Derivations.{Derives, DerivesAny, IsAnyValue, IsValue}
use Rattle.post_star.specs.Measures.{to_of}
use Rattle.post_star.specs.Works.{IsTold, weight_of}
use Rattle.weight_laws.specs.Law.{Domain}
use Rattle.rule_cells.specs.Cells.{AreCells, AreContracted}

-- the rules of a system, and what they are contracted to
pub record Contraction (W : Type 0) : Type 0 where
  pub rules : List (Rule W)
  pub few : List (Rule W)
  pub own : List (Rule W)
  pub own_few : List (Rule W)
  pub head : ℕ → ℕ
  pub offset : ℕ → W

-- The cells are those of the rules in common, so that they serve for many systems. Rules of a system's own, which may come later, and starts lead to
-- nodes that are kept.
pub record IsContraction {W : Type 0} (d : Domain W) (kept : List ℕ) (starts : List (Start W)) (c : Contraction W) : Type 0 where
  pub told : IsTold d (c.rules ++ c.own) starts
  pub cells : AreCells d c.rules kept c.head c.offset
  pub few_are : AreContracted d c.head c.offset c.rules c.few
  pub own_few_are : AreContracted d c.head c.offset c.own c.own_few
  pub own_kept : (r : Rule W) → Has c.own r → Has kept (to_of r)
  pub starts_kept : (s : Start W) → Has starts s → Has kept s.node

-- the derivations of a node are those of its head in the contracted system, extended by its offset
abbrev pub DerivationsAreExtended : {W : Type 0} → Domain W → Type 0
DerivationsAreExtended {W} d = (kept : List ℕ) (starts : List (Start W)) (c : Contraction W) → IsContraction d kept starts c
    → (steps : List BaseStep) (last n : ℕ) (word : List ℕ) (x : W)
    → Derives d (c.rules ++ c.own) starts steps last n word x
    ↔ ((y : W) × Derives d (c.few ++ c.own_few) starts steps last (c.head n) word y × (x ≡ d.extend y (c.offset n)))

-- so are those with any word
abbrev pub AnyDerivationsAreExtended : {W : Type 0} → Domain W → Type 0
AnyDerivationsAreExtended {W} d = (kept : List ℕ) (starts : List (Start W)) (c : Contraction W) → IsContraction d kept starts c
    → (steps : List BaseStep) (last n : ℕ) (x : W)
    → DerivesAny d (c.rules ++ c.own) starts steps last n x
    ↔ ((y : W) × DerivesAny d (c.few ++ c.own_few) starts steps last (c.head n) y × (x ≡ d.extend y (c.offset n)))

-- the value of a node is that of its head in the contracted system, extended by its offset
abbrev pub ValuesAreExtended : {W : Type 0} → Domain W → Type 0
ValuesAreExtended {W} d = (kept : List ℕ) (starts : List (Start W)) (c : Contraction W) → IsContraction d kept starts c
    → (steps : List BaseStep) (last n : ℕ) (word : List ℕ) (v : W) → IsValue d (c.few ++ c.own_few) starts steps last (c.head n) word v
    → (x : W) → IsValue d (c.rules ++ c.own) starts steps last n word x ↔ (x ≡ d.extend v (c.offset n))

-- so is that over any word
abbrev pub AnyValuesAreExtended : {W : Type 0} → Domain W → Type 0
AnyValuesAreExtended {W} d = (kept : List ℕ) (starts : List (Start W)) (c : Contraction W) → IsContraction d kept starts c
    → (steps : List BaseStep) (last n : ℕ) (v : W) → IsAnyValue d (c.few ++ c.own_few) starts steps last (c.head n) v
    → (x : W) → IsAnyValue d (c.rules ++ c.own) starts steps last n x ↔ (x ≡ d.extend v (c.offset n))

-- where each rule weighs one, so does each offset: cells need no offsets
abbrev pub OnesHaveNoOffset : {W : Type 0} → Domain W → Type 0
OnesHaveNoOffset {W} d = (rules : List (Rule W)) (kept : List ℕ) (head : ℕ → ℕ) (offset : ℕ → W) → AreCells d rules kept head offset
    → ((r : Rule W) → Has rules r → weight_of r ≡ d.one) → (n : ℕ) → offset n ≡ d.one
