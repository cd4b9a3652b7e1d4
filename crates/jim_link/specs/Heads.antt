-- What a method of the linked program is besides its code.
use Rattle.std.specs.Prelude.{◌≡◌, ℕ, ◌<◌, ◌^◌, List, length, map, not}
use Rattle.jim_ast.specs.declared.syntax.Body.{Body}
use Rattle.link_program.specs.declared.elements.ElementText.{ElementText}
use Rattle.link_program.specs.declared.method.MethodHead.{MethodHead}
use Rattle.link_rules.specs.Classes.{DeclaredMethod}
use Rattle.link_rules.specs.Names.{text_of}
use Rattle.link_rules.specs.Statements.{HasBody}

-- the locals of the body, by these names
pub record AreLocals (own : List (List ℕ)) (body : Body) (locals : List (List ℕ)) : Type 0 where
  pub names : locals ≡ map (text_of own) body.locals
  pub few : length locals < 2 ^ 32

-- the method without its code, under this text and with these arrays
pub record IsHeadFor (m : DeclaredMethod) (its_text : List ℕ) (arrays : List ElementText) (h : MethodHead) : Type 0 where
  pub text : h.text ≡ its_text
  pub has_this : h.has_this ≡ not m.decl.is_static
  pub params : h.params ≡ length m.decl.params
  pub body : Body
  pub in_body : HasBody m body
  pub locals : AreLocals m.names body h.locals
  pub elements : h.elements ≡ arrays
