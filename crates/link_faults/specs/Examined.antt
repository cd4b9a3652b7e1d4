-- What linking has to know of a method.
use Rattle.std.specs.Prelude.{ℕ, ◌<◌, ◌↔◌, List, MatchOption}
use Rattle.lists.specs.Lists.{Has}
use Rattle.link_rules.specs.declared.refusal.LinkKind.{LinkKind}
use Rattle.link_rules.specs.Classes.{DeclaredMethod, IsNamed}
use Rattle.link_rules.specs.Reach.{IsTarget, RefusesAt, Touches}
use Rattle.link_rules.specs.Refusals.{IsLexBelow, number_of}
use Rattle.link_rules.specs.World.{World}
use Rattle.link_faults.specs.declared.examined.Examined.{Examined}
use Rattle.link_faults.specs.declared.examined.Fault.{Fault}

-- a rule refuses the method there, and of all that refuse it none comes before, by index and then by number
pub record IsFirstFault (w : World) (m : DeclaredMethod) (f : Fault) : Type 0 where
  pub refuses : RefusesAt w m f.index f.kind
  pub first : (index : ℕ) (kind : LinkKind) → RefusesAt w m index kind → IsLexBelow index (number_of kind < number_of f.kind) f.index → ⊥

-- no rule refuses the method
abbrev pub HasNoFault : World → DeclaredMethod → Type 0
HasNoFault w m = (index : ℕ) (kind : LinkKind) → RefusesAt w m index kind → ⊥

-- the first refusal of a method, the methods that its calls may run, and the classes that it touches
pub record IsExamined (w : World) (m : DeclaredMethod) (e : Examined) : Type 0 where
  pub fault : MatchOption e.fault (HasNoFault w m) (IsFirstFault w m)
  pub targets : (row : ℕ) → Has e.rows.items row ↔ ((index : ℕ) × IsTarget w m index row)
  pub touched : (class : ℕ) → Has e.touched.items class ↔ ((index : ℕ) × (name : List ℕ) × Touches m index name × IsNamed w.classes name class)
