-- What the search has found.
use Rattle.std.specs.Prelude.{◌≡◌, ℕ, ◌+◌, ◌-◌, ◌<◌, ◌≤◌, ◌↔◌, ◌⊎◌, ◌++◌, List, Some, length, slice_get, take}
use Rattle.lists.specs.Lists.{Has}
use Rattle.class_rules.specs.Rows.{Step}
use Rattle.link_rules.specs.Classes.{DeclaredMethod, methods_of}
use Rattle.link_rules.specs.Root.{root_number}
use Rattle.link_rules.specs.World.{World}
use Rattle.link_reach.specs.declared.search.Found.{Found}
use Rattle.link_reach.specs.declared.search.Search.{Search}
use Rattle.link_reach.specs.Firsts.{IsFirstIn}
use Rattle.link_reach.specs.Graph.{IsLedTo, Leads, Node, Runs, TouchesClass, method, class}

-- the node is found
abbrev pub IsFound : Found → Node → Type 0
IsFound f (method number) = Has f.methods number
IsFound f (class c) = Has f.classes c

-- those that weren't there came behind the others
pub record AddsAll (added old new : List ℕ) : Type 0 where
  pub each : (n : ℕ) → Has new n ↔ (Has old n ⊎ Has added n)
  pub behind : List ℕ
  pub grown : new ≡ old ++ behind

-- the nodes with the fact are found besides, behind the others
pub record Finds (P : Node → Type 0) (old new : Found) : Type 0 where
  pub each : (a : Node) → IsFound new a ↔ (IsFound old a ⊎ P a)
  pub methods_behind : List ℕ
  pub methods_grown : new.methods ≡ old.methods ++ methods_behind
  pub classes_behind : List ℕ
  pub classes_grown : new.classes ≡ old.classes ++ classes_behind

-- what a method runs and touches
abbrev pub FromMethod : World → DeclaredMethod → Node → Type 0
FromMethod w m (method row) = Runs w m row
FromMethod w m (class c) = TouchesClass w m c

-- the classes one step above a class
abbrev pub Above : World → ℕ → Node → Type 0
Above w c (method row) = ⊥
Above w c (class above) = Step w.rows.classes w.rows.implements c above

-- what the initializer of a class runs, if it has one with a body
abbrev pub InitializedBy : World → ℕ → Node → Type 0
InitializedBy w c (method row) = Leads w (class c) (method row)
InitializedBy w c (class above) = ⊥

-- what is found is led to
abbrev pub IsSound : World → Found → Type 0
IsSound w f = (a : Node) → IsFound f a → IsLedTo w a

-- what the first so many methods and classes lead to is found, and what the root leads to
pub record IsClosedTo (w : World) (f : Found) (methods classes : ℕ) : Type 0 where
  pub begun : (a : Node) → Leads w (method (root_number w)) a → IsFound f a
  pub of_methods : (i number : ℕ) → i < methods → slice_get f.methods i ≡ Some number → (a : Node) → Leads w (method number) a → IsFound f a
  pub of_classes : (i c : ℕ) → i < classes → slice_get f.classes i ≡ Some c → (a : Node) → Leads w (class c) a → IsFound f a

-- a method that a call may run is one of those that are linked, and so is a class above one
pub record IsBounded (w : World) : Type 0 where
  pub methods : length w.rows.methods ≡ length (methods_of w.classes)
  pub above : (a b : ℕ) → Step w.rows.classes w.rows.implements a b → b < length w.classes

-- the state of the search
pub record IsSearched (w : World) (s : Search) : Type 0 where
  pub sound : IsSound w s.found
  pub closed : IsClosedTo w s.found s.methods_done s.classes_done
  pub first : IsFirstIn w (take s.methods_done s.found.methods) s.first
  pub methods_there : s.methods_done ≤ length s.found.methods
  pub classes_there : s.classes_done ≤ length s.found.classes

-- how many nodes may still be done
abbrev pub left_of : World → Search → ℕ
left_of w s = (length (methods_of w.classes) - s.methods_done) + (length w.classes - s.classes_done)
