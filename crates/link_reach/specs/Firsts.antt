-- The first refusal in some methods.
use Rattle.std.specs.Prelude.{◌≡◌, ℕ, ◌≤◌, List, Option, Some, MatchOption, slice_get}
use Rattle.lists.specs.Lists.{Has}
use Rattle.link_rules.specs.declared.refusal.LinkKind.{LinkKind}
use Rattle.link_rules.specs.Classes.{DeclaredMethod, methods_of}
use Rattle.link_rules.specs.Reach.{RefusesAt}
use Rattle.link_rules.specs.World.{World}
use Rattle.link_faults.specs.Examined.{HasNoFault, IsFirstFault}
use Rattle.link_reach.specs.declared.firsts.FaultIn.{FaultIn}

-- the method has this row
abbrev pub IsRow : World → ℕ → DeclaredMethod → Type 0
IsRow w row m = slice_get (methods_of w.classes) row ≡ Some m

-- no rule refuses any of the methods with these rows
abbrev pub AreAccepted : World → List ℕ → Type 0
AreAccepted w rows = (row : ℕ) (m : DeclaredMethod) → Has rows row → IsRow w row m → HasNoFault w m

-- the refusal is the first one in the first of these methods that a rule refuses
pub record IsFirstOf (w : World) (rows : List ℕ) (r : FaultIn) : Type 0 where
  pub there : Has rows r.number
  pub method : DeclaredMethod
  pub is_method : IsRow w r.number method
  pub refuses : IsFirstFault w method r.fault
  pub first : (row : ℕ) (m : DeclaredMethod) (index : ℕ) (kind : LinkKind) → Has rows row → IsRow w row m → RefusesAt w m index kind → r.number ≤ row

-- the first refusal in these methods, if there is one
abbrev pub IsFirstIn : World → List ℕ → Option FaultIn → Type 0
IsFirstIn w rows first = MatchOption first (AreAccepted w rows) (IsFirstOf w rows)
