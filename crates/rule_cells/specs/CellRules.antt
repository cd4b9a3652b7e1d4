-- Rules over nodes, and rules over the cells of these, where the rules that systems have in common weigh one.
use Rattle.std.specs.Prelude.{◌↔◌, ℕ, List, ◌++◌, map}
use Rattle.auto_table.specs.declared.rule.Rule.{Rule}
use Rattle.lists.specs.Lists.{Has}
use Rattle.post_star.specs.declared.bases.BaseStep.{BaseStep}
use Rattle.post_star.specs.declared.bases.Start.{Start}
use Rattle.post_star.specs.Derivations.{Derives}
use Rattle.post_star.specs.Measures.{to_of}
use Rattle.post_star.specs.Works.{IsTold}
use Rattle.weight_laws.specs.Law.{Domain}
use Rattle.rule_cells.specs.Renamed.{number_in, renamed, renamed_start}

-- the rules and starts that a system has of its own lead to nodes that are kept
pub record LeadToKept {W : Type 0} (d : Domain W) (kept : List ℕ) (own : List (Rule W)) (starts : List (Start W)) : Type 0 where
  pub told : IsTold d own starts
  pub rules : (r : Rule W) → Has own r → Has kept (to_of r)
  pub nodes : (s : Start W) → Has starts s → Has kept s.node

-- Whatever a system has of its own, it derives at a node what it derives by cells at the cell of the node: with the rules between cells in place of those in
-- common, and with cells in place of nodes in its own.
abbrev pub HaveCells : {W : Type 0} → Domain W → List (Rule W) → List ℕ → List ℕ → List (Rule W) → Type 0
HaveCells {W} d rules kept cells between = (own : List (Rule W)) (starts : List (Start W)) → LeadToKept d kept own starts
    → (steps : List BaseStep) (last n : ℕ) (word : List ℕ) (x : W)
    → Derives d (rules ++ own) starts steps last n word x
    ↔ Derives d (between ++ map (renamed (number_in cells)) own) (map (renamed_start (number_in cells)) starts) steps last (number_in cells n) word x
