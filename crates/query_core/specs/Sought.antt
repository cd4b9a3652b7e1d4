-- What both queries look for: the sites of one node, or of two.
use Rattle.std.specs.Prelude.{◌≡◌, ℕ, List, [], ◌∷◌, Option, None, Some, slice_get}
use Rattle.link_rules.specs.Linked.{LinkedProgram}
use Rattle.link_sites.specs.declared.site.Site.{Site}
use Rattle.spds_rules.specs.declared.node.Node.{Node}
use Rattle.spds_rules.specs.Answers.{AreSites, IsAnswered, IsShared}
use Rattle.spds_rules.specs.Demand.{Asked, Demand, asked}
use Rattle.lists.specs.Lists.{Counts}
use Rattle.demand_set.specs.Demands.{DemandParts, IsDemandOf}
use Rattle.spds_solve.specs.Solved.{IsSolved, SolvedParts}

-- the node, and the second one where there are two
abbrev pub nodes_of : Node → Option Node → List Node
nodes_of a None = a ∷ []
nodes_of a (Some b) = a ∷ b ∷ []

-- a query of the node, and of the second one where there are two
abbrev pub asked_of : Node → Option Node → Asked
asked_of a b = asked (nodes_of a b)

-- the node may hold an object of the site; both may under one call string where there are two
abbrev pub IsSought : LinkedProgram → Asked → Node → Option Node → Site → Type 0
IsSought p q a None o = IsAnswered p q a o
IsSought p q a (Some b) o = IsShared p q a b o

-- these sites, in the order in which they are printed, and how many nodes the query demands
pub record AreFound (p : LinkedProgram) (a : Node) (b : Option Node) (sites : List Site) (demanded : ℕ) : Type 0 where
  pub are_sites : AreSites p (IsSought p (asked_of a b) a b) sites
  pub size : Counts (Demand p (asked_of a b)) demanded

-- the second node, where there is one, has this number
abbrev pub IsNumbered : List Node → Option Node → Option ℕ → Type 0
IsNumbered nodes None None = Unit {0}
IsNumbered nodes (Some b) (Some number) = slice_get nodes number ≡ Some b
IsNumbered nodes _ _ = ⊥

-- the demand is solved, and the nodes that the query asks for have these numbers in it
pub record IsPosed (p : LinkedProgram) (a : Node) (b : Option Node) (d : DemandParts) (s : SolvedParts) (first : ℕ) (second : Option ℕ) : Type 0 where
  pub demand : IsDemandOf p (asked_of a b) d
  pub solved : IsSolved p (asked_of a b) d s
  pub is_first : slice_get d.nodes first ≡ Some a
  pub is_second : IsNumbered d.nodes b second
