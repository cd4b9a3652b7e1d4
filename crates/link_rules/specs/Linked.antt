-- A linked program, and the one that linking makes.
use Rattle.std.specs.Prelude.{◌≡◌, ℕ, ◌↔◌, ◌++◌, ◌<◌, List, [], ◌∷◌, Option, Some, None, IsTrue, Bool, not, codes, count_by, filter, flat_map, length, map, slice_get}
use Rattle.std.specs.List.{enumerate_from, filter_map}
use Rattle.std.specs.Option.{option_to_list}
use Rattle.class_rules.specs.Rows.{Rows}
use Rattle.lists.specs.Lists.{Has, AreIncreasing, Each, FirstSeen}
use Rattle.jim_ast.specs.declared.syntax.Body.{Body}
use Rattle.jim_ast.specs.declared.syntax.Expr.TheVariants as expr
use Rattle.jim_ast.specs.declared.syntax.Imm.{Imm}
use Rattle.jim_ast.specs.declared.syntax.Imm.TheVariants as imm
use Rattle.jim_ast.specs.declared.syntax.Program.{Program}
use Rattle.jim_ast.specs.declared.syntax.Stmt.{Stmt}
use Rattle.jim_ast.specs.declared.syntax.Stmt.TheVariants as stmt
use Rattle.link_rules.specs.declared.code.Catch.{Catch}
use Rattle.link_rules.specs.declared.code.Code.{Code}
use Rattle.link_rules.specs.declared.refusal.LinkKind.{LinkKind}
use Rattle.link_rules.specs.Classes.{DeclaredClass, DeclaredField, DeclaredMethod, class_name, fields_of, method_text, methods_of}
use Rattle.link_rules.specs.Codes.{IsCatch, IsCode, Scope}
use Rattle.link_rules.specs.Names.{text_of, type_text}
use Rattle.link_rules.specs.Reach.{AreInitialized, Reached}
use Rattle.link_rules.specs.Refusals.{IsAccepted, IsFirst, IsTold, Refusal}
use Rattle.link_rules.specs.Root.{root_of}
use Rattle.link_rules.specs.Statements.{HasBody, operands}
use Rattle.link_rules.specs.Targets.{IsInstantiable}
use Rattle.link_rules.specs.World.{IsWorld, World}

-- a `newarray` or `newmultiarray` at an index, and the text of the type of what the arrays that it makes hold, of the innermost level where it makes several
pub record Element : Type 0 where
  pub index : ℕ
  pub text : List ℕ

-- a method: its text, whether it has a receiver, how many parameters, its locals by their names, its code and its handlers
pub record LinkedMethod : Type 0 where
  pub text : List ℕ
  pub has_this : Bool
  pub params : ℕ
  pub locals : List (List ℕ)
  pub code : List Code
  pub catches : List Catch
  pub elements : List Element

-- a key of methods: the name, and whether it is of static methods
pub record LinkedKey : Type 0 where
  pub name : List ℕ
  pub is_static : Bool

-- a class: its name, and whether it is instantiable
pub record LinkedClass : Type 0 where
  pub name : List ℕ
  pub instantiable : Bool

-- an instance field: the class that declares it, and its name
pub record LinkedField : Type 0 where
  pub class : ℕ
  pub name : List ℕ

-- a program whose names are numbers. The last method is the root; the instance field f, from 1 on, stands at f - 1
pub record LinkedProgram : Type 0 where
  pub methods : List LinkedMethod
  pub classes : List LinkedClass
  pub fields : List LinkedField
  pub static_count : ℕ
  pub keys : List LinkedKey
  pub texts : List (List ℕ)
  pub class_texts : List (List ℕ)
  pub rows : Rows
  -- of each method but the root its row
  pub method_rows : List ℕ

-- the text of an operand that is one
abbrev pub text_in : List (List ℕ) → Imm → Option (List ℕ)
text_in names (imm.Text name) = Some (text_of names name)
text_in names _ = None

-- the class constant of an operand that is one
abbrev pub class_text_in : List (List ℕ) → Imm → Option (List ℕ)
class_text_in names (imm.ClassConst name) = Some (text_of names name)
class_text_in names _ = None

-- the constants that a method uses, in the order of its statements and operands, by what the function gives for each operand
abbrev pub used_by : (List (List ℕ) → Imm → Option (List ℕ)) → DeclaredMethod → List (List ℕ)
used_by kind m = flat_map (λ body. flat_map (λ s. filter_map (kind m.names) (operands s)) body.stmts) (option_to_list m.decl.body)

-- what the innermost arrays hold that the statement at an index makes, if it makes any
abbrev pub element_at : List (List ℕ) → ℕ → Stmt → List Element
element_at names index (stmt.Assign x (expr.NewArray ty)) = record { index = index; text = type_text names ty } ∷ []
element_at names index (stmt.Assign x (expr.NewMulti ty sized)) = record { index = index; text = type_text names ty } ∷ []
element_at names index _ = []

-- those of all statements
abbrev pub elements_of : List (List ℕ) → List Stmt → List Element
elements_of names stmts = flat_map (λ s. element_at names s.0 s.1) (enumerate_from 0 stmts)

-- what the code of a method of the linked program is made over
abbrev pub scope_of : World → LinkedProgram → DeclaredMethod → Body → Scope
scope_of w p m body = record { world = w; texts = p.texts; class_texts = p.class_texts; method_rows = p.method_rows; names = m.names; body = body }

-- the method of the linked program that a declared one becomes
pub record IsLinkedMethod (w : World) (p : LinkedProgram) (text : List ℕ) (m : DeclaredMethod) (l : LinkedMethod) : Type 0 where
  pub body : Body
  pub in_body : HasBody m body
  pub named : l.text ≡ text
  pub has_this : l.has_this ≡ not m.decl.is_static
  pub params : l.params ≡ length m.decl.params
  pub locals : l.locals ≡ map (text_of m.names) body.locals
  pub code : Each (IsCode (scope_of w p m body)) body.stmts l.code
  pub catches : Each (IsCatch (scope_of w p m body)) body.traps l.catches
  pub elements : l.elements ≡ elements_of m.names body.stmts

-- a method of a class by its row, and what it becomes
pub record IsLinkedRow (w : World) (p : LinkedProgram) (row : ℕ) (l : LinkedMethod) : Type 0 where
  pub method : DeclaredMethod
  pub there : slice_get (methods_of w.classes) row ≡ Some method
  pub linked : IsLinkedMethod w p (method_text method) method l

-- the methods are those that a run may reach, in order, and the root behind them
pub record AreLinkedMethods (w : World) (p : LinkedProgram) (initialized : List ℕ) : Type 0 where
  pub ordered : AreIncreasing p.method_rows
  pub reached : (row : ℕ) → Has p.method_rows row ↔ ((row < length (methods_of w.classes)) × Reached w row)
  pub before : List LinkedMethod
  pub each : Each (IsLinkedRow w p) p.method_rows before
  pub root : LinkedMethod
  pub is_root : IsLinkedMethod w p (codes "root") (root_of w initialized) root
  pub all : p.methods ≡ before ++ root ∷ []

-- the constants are numbered in the order of first use, by method, index and operand; the root uses none
pub record AreConstants (w : World) (p : LinkedProgram) : Type 0 where
  pub users : List DeclaredMethod
  pub each : Each (λ row m. slice_get (methods_of w.classes) row ≡ Some m) p.method_rows users
  pub texts : FirstSeen (flat_map (used_by text_in) users) p.texts
  pub class_texts : FirstSeen (flat_map (used_by class_text_in) users) p.class_texts

-- the class of the linked program that a declared one becomes
pub record IsLinkedClass (c : DeclaredClass) (l : LinkedClass) : Type 0 where
  pub name : l.name ≡ class_name c
  pub instantiable : IsTrue l.instantiable ↔ IsInstantiable c

-- a key of methods, by the method whose number it has
abbrev pub key_of : DeclaredMethod → LinkedKey
key_of m = record { name = text_of m.names m.decl.name; is_static = m.decl.is_static }

-- the instance field that a declared one becomes
abbrev pub linked_field_of : DeclaredField → LinkedField
linked_field_of f = record { class = f.class; name = text_of f.names f.decl.name }

-- what the instance fields among the declared ones become, in order
abbrev pub instance_fields : List DeclaredField → List LinkedField
instance_fields fields = map linked_field_of (filter (λ f. not f.decl.is_static) fields)

-- the linked program is that of an accepted one
pub record IsLinkOf (w : World) (p : LinkedProgram) : Type 0 where
  pub accepted : IsAccepted w
  pub initialized : List ℕ
  pub are_initialized : AreInitialized w initialized
  pub methods : AreLinkedMethods w p initialized
  pub constants : AreConstants w p
  pub classes : Each IsLinkedClass w.classes p.classes
  pub rows : p.rows ≡ w.rows
  pub keys : p.keys ≡ map key_of (methods_of w.classes)
  pub fields : p.fields ≡ instance_fields (fields_of w.classes)
  pub static_count : p.static_count ≡ count_by (λ f. f.decl.is_static) (fields_of w.classes)

-- the input, with the prelude and from this class on, is accepted, and this is its linked program
pub record Links (input prelude : Program) (entry : List ℕ) (p : LinkedProgram) : Type 0 where
  pub world : World
  pub is_world : IsWorld input prelude entry world
  pub linked : IsLinkOf world p

-- the input, with the prelude and from this class on, is refused: the first rule that refuses it, and what is told of it
pub record IsRefused (input prelude : Program) (entry : List ℕ) (kind : LinkKind) (place : List ℕ) (index : ℕ) : Type 0 where
  pub world : World
  pub is_world : IsWorld input prelude entry world
  pub refusal : Refusal
  pub first : IsFirst world refusal
  pub told : IsTold world refusal kind place index
