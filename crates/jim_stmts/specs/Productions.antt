-- Productions that begin alike.
use Rattle.jim_grammar.specs.Forms.{ExprForm, UseExpr, InstanceExpr, BinaryExpr}

-- the productions that begin with an operand and are told apart behind it
abbrev pub IsOperandFirst : ExprForm → Type 0
IsOperandFirst UseExpr = Unit {0}
IsOperandFirst InstanceExpr = Unit {0}
IsOperandFirst BinaryExpr = Unit {0}
IsOperandFirst _ = ⊥
