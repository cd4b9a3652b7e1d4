-- What is known of the classes that are linked, as crates above see it.
use Rattle.std.specs.Prelude.{◌≡◌, ℕ, ◌<◌, List, Some, All, length, map}
use Rattle.jim_ast.specs.declared.names.NameId.{NameId}
use Rattle.jim_ast.specs.declared.syntax.Body.{Body}
use Rattle.link_rules.specs.Conditions.{AreWithin, IsReadBody, method_names}
use Rattle.link_rules.specs.Names.{text_of}
use Rattle.link_rules.specs.Root.{root_names, root_of}
use Rattle.link_rules.specs.World.{World}
use Rattle.link_classes.specs.declared.classes.Root.{Root}
use Rattle.link_classes.specs.declared.seen.MethodIn.{MethodIn}

-- all names, each once, and what is linked
pub record ClassTable : Type 0 where
  pub texts : List (List ℕ)
  pub world : World

-- names by their numbers among all names
abbrev pub texts_at : List (List ℕ) → List NameId → List (List ℕ)
texts_at texts ids = map (text_of texts) ids

-- a method that names its names among these, and whose body is as it is read
pub record IsKnown (texts : List (List ℕ)) (m : MethodIn) : Type 0 where
  pub all : m.all.now ≡ texts
  pub numbers : All (λ (id : NameId). id.0 < length texts) m.ids.now
  pub within : AreWithin (texts_at texts m.ids.now) (method_names m.decl.now)
  pub read : (body : Body) → m.decl.now.body ≡ Some body → IsReadBody body

-- the root that initializes these classes
pub record IsRoot (t : ClassTable) (initialized : List ℕ) (root : Root) : Type 0 where
  pub decl : root.decl ≡ (root_of t.world initialized).decl
  pub classes : All (λ class. class < length t.world.classes) initialized
