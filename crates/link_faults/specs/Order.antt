-- Which refusal is the first.
use Rattle.std.specs.Prelude.{◌≡◌, ℕ, ◌<◌, ◌⊎◌, Option, Some, None}
use Rattle.link_rules.specs.declared.refusal.LinkKind.{LinkKind}
use Rattle.link_rules.specs.Refusals.{IsLexBelow, number_of}
use Rattle.link_faults.specs.declared.examined.Fault.{Fault}

-- a refusal at an index by a rule comes before another: by index, and then by the rules' numbers
abbrev pub ComesBefore : ℕ → LinkKind → ℕ → LinkKind → Type 0
ComesBefore i j index kind = IsLexBelow i (number_of j < number_of kind) index

-- of these refusals the first
pub record IsFirstOf (R : ℕ → LinkKind → Type 0) (fault : Fault) : Type 0 where
  pub refuses : R fault.index fault.kind
  pub first : (index : ℕ) (kind : LinkKind) → R index kind → ComesBefore index kind fault.index fault.kind → ⊥

-- of these refusals the first, if there is one
abbrev pub IsFirstIn : (ℕ → LinkKind → Type 0) → Option Fault → Type 0
IsFirstIn R (Some fault) = IsFirstOf R fault
IsFirstIn R None = (index : ℕ) (kind : LinkKind) → R index kind → ⊥

-- of two the one that comes first
abbrev pub IsEarlier : Option Fault → Option Fault → Option Fault → Type 0
IsEarlier (Some a) (Some b) result = ((result ≡ Some b) × ComesBefore b.index b.kind a.index a.kind)
    ⊎ ((result ≡ Some a) × (ComesBefore b.index b.kind a.index a.kind → ⊥))
IsEarlier (Some a) None result = result ≡ Some a
IsEarlier None b result = result ≡ b
