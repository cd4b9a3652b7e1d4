-- Flows that follow from others. Where flows that weigh one lead from a node to another, one more such flow between the two gives nothing that those don't:
-- it may be left out.
use Rattle.std.specs.Prelude.{◌≡◌, ◌↔◌, ◌⊎◌, ℕ, List, ◌++◌}
use Rattle.auto_table.specs.declared.rule.Rule.{Rule}
use Rattle.auto_table.specs.declared.rule.Rule.TheVariants.{Flow, Push, Pop}
use Rattle.lists.specs.Lists.{Has}
use Rattle.post_star.specs.declared.bases.Start.{Start}
use Rattle.post_star.specs.declared.bases.BaseStep.{BaseStep}
use Rattle.post_star.specs.Derivations.{Derives, DerivesAny}
use Rattle.post_star.specs.Works.{IsTold, weight_of}
use Rattle.weight_laws.specs.Law.{Domain}
use Rattle.rule_cells.specs.declared.distinct.Shape.{Shape}
use Rattle.rule_cells.specs.Cells.{AreCells}
use Rattle.rule_cells.specs.Distinct.{rule_of}

-- flows that weigh one lead from the node to another, over any number of nodes between
pub data LeadsOn {W : Type 0} (d : Domain W) (rules : List (Rule W)) (from : ℕ) : ℕ → Type 0 where
  here : LeadsOn d rules from from
  further : {m n : ℕ} → LeadsOn d rules from m → Has rules (Flow m n d.one) → LeadsOn d rules from n

-- the rule is a flow that weighs one, between nodes of which the rules lead from one to the other
abbrev pub Follows : {W : Type 0} → Domain W → List (Rule W) → Rule W → Type 0
Follows d rules (Flow from to weight) = (weight ≡ d.one) × LeadsOn d rules from to
Follows d rules (Push from to mark weight) = ⊥
Follows d rules (Pop from mark to weight) = ⊥

-- the rules without some of those that follow from the rest
pub record AreThinned {W : Type 0} (d : Domain W) (rules few : List (Rule W)) : Type 0 where
  pub among : (r : Rule W) → Has few r → Has rules r
  pub rest : (r : Rule W) → Has rules r → Has few r ⊎ Follows d few r

-- so each node has the derivations that it has by all rules, whatever a system has of its own
abbrev pub DerivationsAreKept : {W : Type 0} → Domain W → Type 0
DerivationsAreKept {W} d = (rules few own : List (Rule W)) (starts : List (Start W)) → AreThinned d rules few → IsTold d (rules ++ own) starts
    → (steps : List BaseStep) (last n : ℕ) (word : List ℕ) (x : W)
    → Derives d (rules ++ own) starts steps last n word x ↔ Derives d (few ++ own) starts steps last n word x

-- with any word too
abbrev pub AnyDerivationsAreKept : {W : Type 0} → Domain W → Type 0
AnyDerivationsAreKept {W} d = (rules few own : List (Rule W)) (starts : List (Start W)) → AreThinned d rules few → IsTold d (rules ++ own) starts
    → (steps : List BaseStep) (last n : ℕ) (x : W)
    → DerivesAny d (rules ++ own) starts steps last n x ↔ DerivesAny d (few ++ own) starts steps last n x

-- By what flows are seen to follow from rules that weigh one: by flows among these, and by the cells that they have.
pub record AreSights {W : Type 0} (d : Domain W) (rules : List (Rule W)) (kept : List ℕ) (shapes : List Shape) (head : ℕ → ℕ) (offset : ℕ → W) : Type 0 where
  pub ones : (r : Rule W) → Has rules r → weight_of r ≡ d.one
  pub among : (s : Shape) → Has shapes s → Has rules (rule_of d s)
  pub cells : AreCells d rules kept head offset

-- more rules have come in, but for some that follow from those that were seen
pub record AreAdded {W : Type 0} (d : Domain W) (seen old new more : List (Rule W)) : Type 0 where
  pub stay : (r : Rule W) → Has old r → Has new r
  pub among : (r : Rule W) → Has new r → Has old r ⊎ Has more r
  pub rest : (r : Rule W) → Has more r → Has new r ⊎ Follows d seen r
