-- The numbers by which nodes are spread, where they are looked for. Nothing but speed hangs on them.
use Rattle.std.specs.Prelude.{ℕ, ◌+◌, ◌*◌, Bool, true, false}
use Rattle.spds_rules.specs.declared.node.Node.{Node}
use Rattle.spds_rules.specs.declared.node.Var.{Var}
use Rattle.spds_rules.specs.declared.node.Var.TheVariants.{Local, This, Param, Caught, Thrown, Made, Nested, Raised, Text, Class}

-- of a variable
abbrev pub var_spread : Var → ℕ
var_spread (Local x) = x * 32
var_spread This = 1
var_spread (Param number) = number * 32 + 2
var_spread Caught = 3
var_spread Thrown = 4
var_spread Made = 5
var_spread (Nested level) = level * 32 + 6
var_spread (Raised kind) = kind * 32 + 7
var_spread (Text number) = number * 32 + 8
var_spread (Class number) = number * 32 + 9

-- of whether an exception is in flight
abbrev pub raised_spread : Bool → ℕ
raised_spread true = 16
raised_spread false = 0

-- of a node
abbrev pub node_spread : Node → ℕ
node_spread n = n.place.method * 1048576 + n.place.index * 4096 + var_spread n.var + raised_spread n.place.raised
