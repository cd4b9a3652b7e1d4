-- The positions at which calls pass something, as variables.
use Rattle.spds_rules.specs.declared.node.Var.{Var}
use Rattle.spds_rules.specs.declared.node.Var.TheVariants.{This, Param}
use Rattle.spds_nodes.specs.declared.formals.Position.{Position}
use Rattle.spds_nodes.specs.declared.formals.Position.TheVariants as position

-- the position as a variable
abbrev pub var_of : Position → Var
var_of position.This = This
var_of (position.Param number) = Param number
