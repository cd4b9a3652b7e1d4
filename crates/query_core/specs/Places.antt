-- The places that queries name.
use Rattle.std.specs.Prelude.{◌≡◌, ℕ, ◌<◌, ◌≤◌, List, Some, length, slice_get}
use Rattle.lists.specs.Lists.{IsLeast, Has}
use Rattle.link_rules.specs.Linked.{LinkedMethod, LinkedProgram}
use Rattle.link_rules.specs.Accessed.{HasText, IsFirstPlace}
use Rattle.link_sites.specs.Places.{before}
use Rattle.spds_rules.specs.declared.node.Node.{Node}
use Rattle.spds_rules.specs.declared.node.Var.TheVariants.{Local}
use Rattle.spds_rules.specs.Nodes.{at}
use Rattle.query_core.specs.declared.places.Which.{Which}
use Rattle.query_core.specs.declared.places.Which.TheVariants as which

-- the first method with this text; the root is never meant
pub record IsMethodOf (p : LinkedProgram) (text : List ℕ) (number : ℕ) (m : LinkedMethod) : Type 0 where
  pub first : IsLeast (HasText p text) number
  pub there : slice_get p.methods number ≡ Some m

-- the node of a local just before a statement: of the first method with this text the statement with this index, and the first local with this name
pub record IsPlaceOf (p : LinkedProgram) (text : List ℕ) (index : ℕ) (name : List ℕ) (n : Node) : Type 0 where
  pub number : ℕ
  pub method : LinkedMethod
  pub is_method : IsMethodOf p text number method
  pub within : index < length method.code
  pub local : ℕ
  pub is_local : IsFirstPlace method.locals name local
  pub is : n ≡ at (before number index) (Local local)

-- the first part of the place that isn't there; a place of one local has no second one, and no field
abbrev pub IsMissing : LinkedProgram → List ℕ → ℕ → List ℕ → Which → Type 0
IsMissing p text index name which.Method = (number : ℕ) → HasText p text number → ⊥
IsMissing p text index name which.Index = (number : ℕ) × (m : LinkedMethod) × IsMethodOf p text number m × (length m.code ≤ index)
IsMissing p text index name which.Local =
    (number : ℕ) × (m : LinkedMethod) × IsMethodOf p text number m × (index < length m.code) × (Has m.locals name → ⊥)
IsMissing p text index name which.Second = ⊥
IsMissing p text index name which.Field = ⊥

-- the nodes of two locals just before one statement
pub record ArePlacesOf (p : LinkedProgram) (text : List ℕ) (index : ℕ) (first second : List ℕ) (a b : Node) : Type 0 where
  pub is_first : IsPlaceOf p text index first a
  pub is_second : IsPlaceOf p text index second b

-- the first part of a place of two locals that isn't there: the second local is looked for last
abbrev pub IsMissingOfTwo : LinkedProgram → List ℕ → ℕ → List ℕ → List ℕ → Which → Type 0
IsMissingOfTwo p text index first second which.Second = (n : Node) × IsPlaceOf p text index first n × IsMissing p text index second which.Local
IsMissingOfTwo p text index first second which.Method = IsMissing p text index first which.Method
IsMissingOfTwo p text index first second which.Index = IsMissing p text index first which.Index
IsMissingOfTwo p text index first second which.Local = IsMissing p text index first which.Local
IsMissingOfTwo p text index first second which.Field = ⊥
