-- The arrays that a method makes.
use Rattle.std.specs.Prelude.{◌≡◌}
use Rattle.jim_ast.specs.declared.syntax.Expr.TheVariants as expr
use Rattle.jim_ast.specs.declared.syntax.Stmt.{Stmt}
use Rattle.jim_ast.specs.declared.syntax.Stmt.TheVariants as stmt
use Rattle.jim_ast.specs.declared.syntax.Ty.{Ty}

-- the statement makes arrays, and the innermost ones hold values of this type
abbrev pub NamesType : Stmt → Ty → Type 0
NamesType (stmt.Assign x (expr.NewArray ty)) named = named ≡ ty
NamesType (stmt.Assign x (expr.NewMulti ty sized)) named = named ≡ ty
NamesType _ named = ⊥
