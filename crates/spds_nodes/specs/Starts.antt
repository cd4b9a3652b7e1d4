-- Nodes that the program may have.
use Rattle.std.specs.Prelude.{◌≡◌, ℕ}
use Rattle.link_rules.specs.Linked.{LinkedProgram}
use Rattle.link_sites.specs.Places.{before}
use Rattle.spds_rules.specs.declared.node.Node.{Node}
use Rattle.spds_rules.specs.declared.node.Var.{Var}
use Rattle.spds_rules.specs.Nodes.{IsNode, at}

-- the node, where the program has it
abbrev pub IsThere : LinkedProgram → Node → Node → Type 0
IsThere p node n = IsNode p node × (n ≡ node)

-- the variable before each statement of the method at which the program has it
abbrev pub IsBeforeIn : LinkedProgram → Var → ℕ → Node → Type 0
IsBeforeIn p v method n = (index : ℕ) × IsThere p (at (before method index) v) n

-- before each statement of the program
abbrev pub IsBefore : LinkedProgram → Var → Node → Type 0
IsBefore p v n = (method : ℕ) × IsBeforeIn p v method n
