-- How rules lead to nodes.
use Rattle.std.specs.Prelude.{◌≡◌, ◌≢◌, ◌<◌, ℕ, List, Some, length, slice_get}
use Rattle.auto_table.specs.declared.rule.Rule.{Rule}
use Rattle.auto_table.specs.declared.rule.Rule.TheVariants.{Flow}
use Rattle.lists.specs.Lists.{Has}
use Rattle.post_star.specs.Measures.{to_of}
use Rattle.rule_cells.specs.declared.entered.Entered.{Entered}
use Rattle.rule_cells.specs.declared.entered.Entered.TheVariants.{Never, Once, Otherwise}
use Rattle.rule_cells.specs.Cells.{IsCarried}

-- The rules lead to the node so: none does; one flow alone does, from a node below the count; or they do otherwise, and do so still when more rules lead
-- there.
abbrev pub IsEntered : {W : Type 0} → ℕ → List (Rule W) → List ℕ → ℕ → Entered W → Type 0
IsEntered {W} count rules kept n Never = (Has kept n → ⊥) × ((r : Rule W) → Has rules r → to_of r ≢ n)
IsEntered {W} count rules kept n (Once from weight) = IsCarried rules kept from n weight × (from < count)
IsEntered {W} count rules kept n Otherwise =
    (m : ℕ) (w : W) → m < count → ((r : Rule W) → Has rules r → to_of r ≡ n → r ≡ Flow m n w) → (Has kept n → ⊥) → ⊥

-- the rules lead to each of so many nodes so
pub record AreEntered {W : Type 0} (count : ℕ) (rules : List (Rule W)) (kept : List ℕ) (entries : List (Entered W)) : Type 0 where
  pub many : length entries ≡ count
  pub each : (n : ℕ) (e : Entered W) → slice_get entries n ≡ Some e → IsEntered count rules kept n e

-- the node before each of so many, from which all comes to it, and the weight between: the entries have these, and no others
pub record HaveNodesBefore {W : Type 0} (count : ℕ) (rules : List (Rule W)) (kept : List ℕ) (entries : List (Entered W)) : Type 0 where
  pub is_carried : (m n : ℕ) (w : W) → slice_get entries n ≡ Some (Once m w) → IsCarried rules kept m n w
  pub all : (m n : ℕ) (w : W) → n < count → m < count → IsCarried rules kept m n w → slice_get entries n ≡ Some (Once m w)
