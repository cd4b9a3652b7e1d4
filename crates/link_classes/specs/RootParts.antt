-- Parts of the root.
use Rattle.std.specs.Prelude.{ℕ, List, None}
use Rattle.jim_ast.specs.declared.names.NameId.{NameId}
use Rattle.jim_ast.specs.declared.syntax.Base.TheVariants as base
use Rattle.jim_ast.specs.declared.syntax.Imm.{Imm}
use Rattle.jim_ast.specs.declared.syntax.Invoke.TheVariants.{Plain}
use Rattle.jim_ast.specs.declared.syntax.Mode.TheVariants.{Static}
use Rattle.jim_ast.specs.declared.syntax.Stmt.{Stmt}
use Rattle.jim_ast.specs.declared.syntax.Stmt.TheVariants as stmt
use Rattle.jim_ast.specs.declared.syntax.Ty.{Ty}
use Rattle.link_rules.specs.Root.{string_class, void_type}

-- `java.lang.String` with so many pairs of brackets
abbrev pub strings_type_of : ℕ → Ty
strings_type_of dims = record { base = base.Class string_class; dims = dims }

-- a static call without a result
abbrev pub static_call_of : NameId → NameId → List Ty → List Imm → Stmt
static_call_of class name params args = stmt.Call (Plain Static None (record { class = class; result = void_type; name = name; params = params }) args)

abbrev pub plain_return : Stmt
plain_return = stmt.Return None
