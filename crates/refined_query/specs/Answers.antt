-- What a query answers over the program that rounds of refined calls leave, and what that says of runs of the first one. This is this project's own, over
-- the answers of Späth, Ali and Bodden 2019.
use Rattle.std.specs.Prelude.{ℕ, List}
use Rattle.link_rules.specs.Linked.{LinkedProgram}
use Rattle.link_sites.specs.declared.site.Site.{Site}
use Rattle.demand_set.specs.Walks.{HasAtMost}
use Rattle.narrow_rules.specs.Narrowed.{LacksPairs}
use Rattle.refine_rules.specs.Refined.{IsRefinedBy}
use Rattle.spds_rules.specs.declared.node.Node.{Node}
use Rattle.spds_rules.specs.Answers.{AreAnswered}
use Rattle.spds_rules.specs.Demand.{Demand, about}
use Rattle.lists.specs.Lists.{Counts, HasMore}
use Rattle.spds_rules.specs.Nodes.{IsNode}

-- the query of the node demands the other one: where the node's method has lost its statements, it is no node any more, and nothing is demanded
abbrev pub IsDemandedBy : LinkedProgram → Node → Node → Type 0
IsDemandedBy q n other = IsNode q n × Demand q (about n) other

-- the node's answer over a program that is left: the sites, in the order in which they are printed, and how many nodes its query demands there
pub record IsAnswerOver (q : LinkedProgram) (n : Node) (sites : List Site) (demanded : ℕ) : Type 0 where
  pub answer : AreAnswered q (about n) n sites
  pub size : Counts (IsDemandedBy q n) demanded

-- The node's answer over the program that so many rounds leave, and how many pairs of a call and a target of the first program are gone from it.
pub record IsRefinedAnswer (p : LinkedProgram) (rounds budget : ℕ) (n : Node) (narrowed : ℕ) (sites : List Site) (demanded : ℕ) : Type 0 where
  pub left : LinkedProgram
  pub refined : IsRefinedBy budget p rounds left
  pub lacks : LacksPairs p left narrowed
  pub answer : IsAnswerOver left n sites demanded

-- the query demands more nodes there than the budget allows
abbrev pub IsRefinedOver : LinkedProgram → ℕ → ℕ → Node → Type 0
IsRefinedOver p rounds budget n = (left : LinkedProgram) × IsRefinedBy budget p rounds left × HasMore (IsDemandedBy left n) budget

-- it demands no more
abbrev pub IsRefinedAffordable : LinkedProgram → ℕ → ℕ → Node → Type 0
IsRefinedAffordable p rounds budget n = (left : LinkedProgram) × IsRefinedBy budget p rounds left × HasAtMost (IsDemandedBy left n) budget
