-- What may be reached as a graph: methods lead to what they call and to the classes that they touch, classes to what is above them and to what
-- their initializers run.
use Rattle.std.specs.Prelude.{ℕ, ◌<◌, List, [], ◌∷◌, length}
use Rattle.class_rules.specs.Rows.{Step}
use Rattle.link_rules.specs.Classes.{DeclaredMethod, IsNamed, methods_of}
use Rattle.link_rules.specs.Reach.{DeclaresBody, IsMethod, IsTarget, Touches}
use Rattle.link_rules.specs.Root.{initializer_key, root_number, root_of}
use Rattle.link_rules.specs.World.{World}

-- a method, or a class that is asked for
pub data Node : Type 0 where
  method : ℕ → Node
  class : ℕ → Node

-- a call of the method may run the row
abbrev pub Runs : World → DeclaredMethod → ℕ → Type 0
Runs w m row = (index : ℕ) × IsTarget w m index row

-- the method touches the class
abbrev pub TouchesClass : World → DeclaredMethod → ℕ → Type 0
TouchesClass w m c = (index : ℕ) × (name : List ℕ) × Touches m index name × IsNamed w.classes name c

-- one node leads to another
abbrev pub Leads : World → Node → Node → Type 0
Leads w (method number) (method row) = (m : DeclaredMethod) × IsMethod w number m × Runs w m row
Leads w (method number) (class c) = (m : DeclaredMethod) × IsMethod w number m × TouchesClass w m c
Leads w (class c) (class above) = Step w.rows.classes w.rows.implements c above
Leads w (class c) (method row) = (initializer : ℕ) × DeclaresBody w c initializer_key initializer × Runs w (root_of w (c ∷ [])) row

-- the nodes to which the root leads, by one step or more
pub data IsLedTo (w : World) : Node → Type 0 where
  begins : {a : Node} → Leads w (method (root_number w)) a → IsLedTo w a
  goes_on : {a b : Node} → IsLedTo w a → Leads w a b → IsLedTo w b

-- the method is one of a class, the class one of those that are linked
abbrev pub IsNodeOf : World → Node → Type 0
IsNodeOf w (method number) = number < length (methods_of w.classes)
IsNodeOf w (class c) = c < length w.classes
