-- The code of a method.
use Rattle.std.specs.Prelude.{◌≡◌, ℕ, ◌++◌, List}
use Rattle.jim_ast.specs.declared.syntax.Body.{Body}
use Rattle.link_rules.specs.Classes.{DeclaredMethod}
use Rattle.link_rules.specs.Linked.{class_text_in, elements_of, text_in, used_by}
use Rattle.lists.specs.Lists.{FirstSeen}
use Rattle.link_rules.specs.Statements.{HasBody}
use Rattle.link_rules.specs.World.{World}
use Rattle.link_codes.specs.declared.constants.Constants.{Constants}
use Rattle.link_codes.specs.declared.method.MethodCode.{MethodCode}
use Rattle.link_codes.specs.Contexts.{context_in}
use Rattle.link_codes.specs.Constants.{Extends}
use Rattle.link_program.specs.Elements.{elements_in}
use Rattle.link_codes.specs.Made.{MakesCatches, MakesCodes}

-- the code of the method, while each constant keeps its number
pub record IsMethodCode (w : World) (method_rows : List ℕ) (m : DeclaredMethod) (now : Constants) (c : MethodCode) : Type 0 where
  pub body : Body
  pub in_body : HasBody m body
  pub code : MakesCodes (context_in w method_rows m body) now body.stmts c.code.items
  pub catches : MakesCatches (context_in w method_rows m body) body.traps c.catches.items
  pub elements : elements_in c.elements.items ≡ elements_of m.names body.stmts

-- after those that were used before, the constants of the method are used, in order
pub record UsesMethod (m : DeclaredMethod) (old new : Constants) : Type 0 where
  pub kept : Extends old new
  pub texts : (uses : List (List ℕ)) → FirstSeen uses old.texts → FirstSeen (uses ++ used_by text_in m) new.texts
  pub class_texts : (uses : List (List ℕ)) → FirstSeen uses old.class_texts → FirstSeen (uses ++ used_by class_text_in m) new.class_texts
