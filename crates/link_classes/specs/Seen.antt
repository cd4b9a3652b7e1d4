-- What is kept of classes, as the definitions of linking see them.
use Rattle.std.specs.Prelude.{◌≡◌, ℕ, ◌<◌, ◌^◌, ◌⊎◌, ◌++◌, [], ◌∷◌, List, Option, Some, None, All, length, map}
use Rattle.lists.specs.Lists.{IsLeast, Has, IsApart, Each}
use Rattle.jim_ast.specs.declared.syntax.Body.{Body}
use Rattle.jim_ast.specs.declared.syntax.MethodDecl.{MethodDecl}
use Rattle.link_rules.specs.Classes.{DeclaredClass, DeclaredField, DeclaredMethod, IsDeclared, IsNamed, IsParentName, class_name}
use Rattle.link_rules.specs.Conditions.{AreWithin, IsReadBody, class_names, field_names}
use Rattle.link_rules.specs.Names.{text_of}
use Rattle.link_rules.specs.World.{IsParentRow}
use Rattle.link_classes.specs.declared.order.ClassOrder.{ClassOrder}
use Rattle.link_classes.specs.declared.seen.ClassIn.{ClassIn}
use Rattle.link_classes.specs.declared.seen.FieldIn.{FieldIn}
use Rattle.link_classes.specs.declared.seen.MethodIn.{MethodIn}
use Rattle.link_classes.specs.Numbered.{AreNumbers}

abbrev pub seen_class : ClassIn → DeclaredClass
seen_class c = record { names = c.names.now; class = c.class.now }

abbrev pub seen_classes : List ClassIn → List DeclaredClass
seen_classes classes = map seen_class classes

-- a method's names are given by their numbers among all names
abbrev pub seen_method : MethodIn → DeclaredMethod
seen_method m = record { class = m.class; owner = m.owner.now; names = map (text_of m.all.now) m.ids.now; decl = m.decl.now }

abbrev pub seen_methods : List MethodIn → List DeclaredMethod
seen_methods methods = map seen_method methods

abbrev pub seen_field : FieldIn → DeclaredField
seen_field f = record { class = f.class; names = f.names.now; decl = f.decl.now }

abbrev pub seen_fields : List FieldIn → List DeclaredField
seen_fields fields = map seen_field fields

-- the class names within its program's names, which are numbered among all names, and its bodies are as they are read
pub record IsSeen (texts : List (List ℕ)) (c : ClassIn) : Type 0 where
  pub numbered : AreNumbers texts c.names.now c.ids.now
  pub within : AreWithin c.names.now (class_names c.class.now)
  pub read : (m : MethodDecl) (body : Body) → Has c.class.now.methods m → m.body ≡ Some body → IsReadBody body

-- the field names within its program's names, which are numbered among all names
pub record IsFieldSeen (texts : List (List ℕ)) (f : FieldIn) : Type 0 where
  pub numbered : AreNumbers texts f.names.now f.ids.now
  pub within : AreWithin f.names.now (field_names f.decl.now)

-- the first class of this name, if there is one
abbrev pub IsFirstNamed : List DeclaredClass → List ℕ → Option ℕ → Type 0
IsFirstNamed classes text (Some n) = IsLeast (IsNamed classes text) n
IsFirstNamed classes text None = IsDeclared classes text → ⊥

-- for each of all names the first class that has it
abbrev pub KnowsClasses : List (List ℕ) → List DeclaredClass → List (Option ℕ) → Type 0
KnowsClasses texts classes numbers = Each (IsFirstNamed classes) texts numbers

-- what is kept of the classes in order
pub record IsOrder (o : ClassOrder) : Type 0 where
  pub apart : IsApart o.all.now.texts
  pub few : length o.classes.items < 2 ^ 32
  pub seen : All (IsSeen o.all.now.texts) o.classes.items
  pub knows : KnowsClasses o.all.now.texts (seen_classes o.classes.items) o.numbers.items

-- the class was put last, unless one of its name was there
abbrev pub IsPutIfNew : List DeclaredClass → DeclaredClass → List DeclaredClass → Type 0
IsPutIfNew old c new = ((IsDeclared old (class_name c) → ⊥) × (new ≡ old ++ c ∷ [])) ⊎ (IsDeclared old (class_name c) × (new ≡ old))

-- the number of the class's parent, by its name
pub record IsParentOf (classes : List DeclaredClass) (c : DeclaredClass) (parent : Option ℕ) : Type 0 where
  pub name : Option (List ℕ)
  pub is_name : IsParentName c name
  pub row : IsParentRow classes name parent
