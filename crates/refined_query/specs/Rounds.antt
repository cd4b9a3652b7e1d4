-- The program that is left after some rounds.
use Rattle.std.specs.Prelude.{◌≡◌, ◌⊎◌, List, [], Option, None, Some, ℕ, map, slice_get, sum}
use Rattle.link_rules.specs.declared.code.Code.{Code}
use Rattle.link_rules.specs.Linked.{LinkedMethod, LinkedProgram}
use Rattle.narrow_rules.specs.Narrowed.{targets_at}
use Rattle.spds_rules.specs.declared.node.Node.{Node}
use Rattle.spds_rules.specs.Nodes.{IsNode}

-- what the last round left, or the first program where there was none
abbrev pub left_of : LinkedProgram → Option LinkedProgram → LinkedProgram
left_of p None = p
left_of p (Some q) = q

-- how many targets the statements of a method have
abbrev pub pairs_of : List Code → ℕ
pairs_of codes = sum (map targets_at codes)

-- the method of the node has lost its statements
pub record IsLost (q : LinkedProgram) (n : Node) : Type 0 where
  pub method : LinkedMethod
  pub there : slice_get q.methods n.place.method ≡ Some method
  pub none : method.code ≡ []

-- what becomes of a node: it stands still, or its method has lost its statements
abbrev pub StandsOrIsLost : LinkedProgram → Node → Type 0
StandsOrIsLost q n = IsNode q n ⊎ IsLost q n
