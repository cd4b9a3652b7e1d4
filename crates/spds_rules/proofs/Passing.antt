-- What a call passes comes to a position.
use Rattle.std.proofs.Common.{ℕ, List, Option}
use Rattle.link_rules.specs.declared.code.Arg.{Arg}
use Rattle.spds_rules.specs.declared.node.Var.{Var}
use Rattle.spds_rules.specs.declared.node.Var.TheVariants.{This, Param}
use Rattle.spds_rules.specs.Edges.{Passes}
use Rattle.spds_rules.specs.Formals.{IsPosition}

-- what a call passes, it passes at a position
pub passed_at_position : (receiver : Option ℕ) (args : List Arg) (v w : Var) → Passes receiver args v w → IsPosition w
passed_at_position receiver args v This h = tt
passed_at_position receiver args v (Param number) h = tt
passed_at_position receiver args v _ h = h
