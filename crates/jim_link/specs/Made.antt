-- The methods of the linked program while they are made: what is made of one stays, while each constant keeps its number.
use Rattle.std.specs.Prelude.{◌≡◌, ℕ, ◌<◌, ◌++◌, List, [], ◌∷◌, Some, codes, flat_map, length, map, not, slice_get}
use Rattle.class_rules.specs.Rows.{Step}
use Rattle.jim_ast.specs.declared.syntax.Body.{Body}
use Rattle.link_codes.specs.Contexts.{context_in}
use Rattle.link_program.specs.Elements.{elements_in}
use Rattle.link_codes.specs.Made.{MakesCatches, MakesCodes}
use Rattle.link_codes.specs.Methods.{UsesMethod}
use Rattle.link_codes.specs.declared.constants.Constants.{Constants}
use Rattle.link_codes.specs.declared.method.MethodCode.{MethodCode}
use Rattle.link_program.specs.Methods.{AreMethods, methods_in}
use Rattle.link_program.specs.declared.methods.Methods.{Methods}
use Rattle.link_rules.specs.Classes.{DeclaredMethod, method_text, methods_of}
use Rattle.link_rules.specs.Linked.{LinkedMethod, class_text_in, elements_of, text_in, used_by}
use Rattle.lists.specs.Lists.{Each, FirstSeen}
use Rattle.link_rules.specs.Names.{text_of}
use Rattle.link_rules.specs.Root.{root_of}
use Rattle.link_rules.specs.Statements.{HasBody}
use Rattle.link_rules.specs.World.{World}
use Rattle.jim_link.specs.declared.made.Made.{Made}

-- a method under this text, with this code
pub record IsMadeFrom (m : DeclaredMethod) (text : List ℕ) (c : MethodCode) (l : LinkedMethod) : Type 0 where
  pub body : Body
  pub in_body : HasBody m body
  pub named : l.text ≡ text
  pub has_this : l.has_this ≡ not m.decl.is_static
  pub params : l.params ≡ length m.decl.params
  pub locals : l.locals ≡ map (text_of m.names) body.locals
  pub code : l.code ≡ c.code.items
  pub catches : l.catches ≡ c.catches.items
  pub elements : l.elements ≡ elements_in c.elements.items

-- it was put last
pub record PutsMethod (m : DeclaredMethod) (text : List ℕ) (c : MethodCode) (old new : Methods) : Type 0 where
  pub linked : LinkedMethod
  pub made : IsMadeFrom m text c linked
  pub put : methods_in new ≡ methods_in old ++ linked ∷ []

-- the method that a declared one becomes, with these constants or more
pub record IsMadeMethod (w : World) (rows : List ℕ) (text : List ℕ) (m : DeclaredMethod) (now : Constants) (l : LinkedMethod) : Type 0 where
  pub body : Body
  pub in_body : HasBody m body
  pub named : l.text ≡ text
  pub has_this : l.has_this ≡ not m.decl.is_static
  pub params : l.params ≡ length m.decl.params
  pub locals : l.locals ≡ map (text_of m.names) body.locals
  pub code : MakesCodes (context_in w rows m body) now body.stmts l.code
  pub catches : MakesCatches (context_in w rows m body) body.traps l.catches
  pub elements : l.elements ≡ elements_of m.names body.stmts

-- the method was made, and put last
pub record AddsMethod (w : World) (rows : List ℕ) (text : List ℕ) (m : DeclaredMethod) (old new : Made) : Type 0 where
  pub methods : AreMethods new.methods
  pub linked : LinkedMethod
  pub made : IsMadeMethod w rows text m new.constants linked
  pub put : methods_in new.methods ≡ methods_in old.methods ++ linked ∷ []
  pub uses : UsesMethod m old.constants new.constants

-- the method of a row, likewise
pub record IsMadeRow (w : World) (rows : List ℕ) (now : Constants) (row : ℕ) (l : LinkedMethod) : Type 0 where
  pub method : DeclaredMethod
  pub there : slice_get (methods_of w.classes) row ≡ Some method
  pub made : IsMadeMethod w rows (method_text method) method now l

abbrev pub IsMethodOf : World → ℕ → DeclaredMethod → Type 0
IsMethodOf w row m = slice_get (methods_of w.classes) row ≡ Some m

-- the constants are those that the methods of these rows use first, in order
pub record AreUsed (w : World) (done : List ℕ) (now : Constants) : Type 0 where
  pub users : List DeclaredMethod
  pub each : Each (IsMethodOf w) done users
  pub texts : FirstSeen (flat_map (used_by text_in) users) now.texts
  pub class_texts : FirstSeen (flat_map (used_by class_text_in) users) now.class_texts

-- the methods of these rows are made
pub record AreMade (w : World) (rows done : List ℕ) (made : Made) : Type 0 where
  pub methods : AreMethods made.methods
  pub each : Each (IsMadeRow w rows made.constants) done (methods_in made.methods)
  pub used : AreUsed w done made.constants

-- all methods are made, the root last
pub record AreAllMade (w : World) (rows initialized : List ℕ) (made : Made) : Type 0 where
  pub methods : AreMethods made.methods
  pub before : List LinkedMethod
  pub each : Each (IsMadeRow w rows made.constants) rows before
  pub root : LinkedMethod
  pub is_root : IsMadeMethod w rows (codes "root") (root_of w initialized) made.constants root
  pub all : methods_in made.methods ≡ before ++ root ∷ []
  pub used : AreUsed w rows made.constants

-- a class above another is one of those that are linked
abbrev pub AreKnownAbove : World → Type 0
AreKnownAbove w = (a b : ℕ) → Step w.rows.classes w.rows.implements a b → b < length w.classes
