-- What the code of a method is made over.
use Rattle.std.specs.Prelude.{ℕ, List}
use Rattle.jim_ast.specs.declared.syntax.Body.{Body}
use Rattle.link_rules.specs.Classes.{DeclaredMethod}
use Rattle.link_rules.specs.Codes.{Scope}
use Rattle.link_rules.specs.World.{World}
use Rattle.link_classes.specs.Classes.{texts_at}
use Rattle.link_codes.specs.declared.constants.Constants.{Constants}
use Rattle.link_codes.specs.declared.scope.MethodScope.{MethodScope}

-- all that a method's code is made over but the constants, which are numbered as they come: what is linked, the rows of the linked methods, the names
-- of the method's program, and its body
pub record Context : Type 0 where
  pub world : World
  pub method_rows : List ℕ
  pub names : List (List ℕ)
  pub body : Body

-- the same with constants
abbrev pub scope_with : Context → Constants → Scope
scope_with c k =
    record { world = c.world; texts = k.texts; class_texts = k.class_texts; method_rows = c.method_rows; names = c.names; body = c.body }

-- what is kept for a method
abbrev pub context_of : MethodScope → Context
context_of s =
    record { world = s.classes.now.world; method_rows = s.numbering.now; names = texts_at s.classes.now.texts s.ids.now; body = s.body }

-- what a method's code is made over, with its body
abbrev pub context_in : World → List ℕ → DeclaredMethod → Body → Context
context_in w method_rows m body = record { world = w; method_rows = method_rows; names = m.names; body = body }
