-- The first refusal, when one more method was examined.
use Rattle.std.proofs.Common.{◌≡◌, ℕ, ◌<◌, ◌≤◌, ◌⊎◌, Option, Some, None, List, [], ◌∷◌, ◌++◌, length, sym, subst, inl, inr, arith}
use Rattle.lists.specs.Lists.{Has}
use Rattle.lists.proofs.Places.{slice_get-append_left, slice_get-push, slice_get-pushed}
use Rattle.link_rules.specs.declared.refusal.LinkKind.{LinkKind}
use Rattle.link_rules.specs.Classes.{DeclaredMethod}
use Rattle.link_rules.specs.Reach.{RefusesAt}
use Rattle.link_rules.specs.World.{World}
use Rattle.link_faults.specs.declared.examined.Fault.{Fault}
use Rattle.link_faults.specs.Examined.{HasNoFault, IsFirstFault}
use Rattle.link_reach.specs.declared.firsts.FaultIn.{FaultIn}
use Rattle.link_reach.specs.Firsts.{AreAccepted, IsFirstIn, IsFirstOf, IsRow}

-- what the longer list has
pub has_pushed : (xs : List ℕ) (x y : ℕ) → Has (xs ++ x ∷ []) y → Has xs y ⊎ (y ≡ x)
has_pushed xs x y h = elim (slice_get-pushed xs x h.0 y h.1) [ inl old ↦ inl (h.0, old) | inr new ↦ inr new.1 ]

pub has_before : (xs : List ℕ) (x y : ℕ) → Has xs y → Has (xs ++ x ∷ []) y
has_before xs x y h = (h.0, slice_get-append_left xs (x ∷ []) h.0 y h.1)

pub has_last : (xs : List ℕ) (x : ℕ) → Has (xs ++ x ∷ []) x
has_last xs x = (length xs, slice_get-push xs x)

module _ (w : World) (rows : List ℕ) (row : ℕ) (m : DeclaredMethod) (is : IsRow w row m) where
  same_method : (r : ℕ) (other : DeclaredMethod) → r ≡ row → IsRow w r other → other ≡ m
  same_method r other same there = let e : IsRow w row other = subst (λ z. IsRow w z other) same there in cc

  -- a method that no rule refuses
  pub none_more : (first : Option FaultIn) → HasNoFault w m → IsFirstIn w rows first → IsFirstIn w (rows ++ row ∷ []) first
  none_more None none accepted = λ r other h there. elim (has_pushed rows row r h) [
    | inl old ↦ accepted r other old there
    | inr same ↦ subst (HasNoFault w) (sym (same_method r other same there)) none
  ]
  none_more (Some old) none first = record {
    there = has_before rows row old.number first.there;
    method = first.method;
    is_method = first.is_method;
    refuses = first.refuses;
    first = λ r other index kind h there refuses. elim (has_pushed rows row r h) [
      | inl before ↦ first.first r other index kind before there refuses
      | inr same ↦ absurd (none index kind (subst (λ z. RefusesAt w z index kind) (same_method r other same there) refuses))
    ];
  }

  -- a method behind the one with the first refusal
  pub keeps_old : (old : FaultIn) → old.number < row → IsFirstOf w rows old → IsFirstOf w (rows ++ row ∷ []) old
  keeps_old old before first = record {
    there = has_before rows row old.number first.there;
    method = first.method;
    is_method = first.is_method;
    refuses = first.refuses;
    first = λ r other index kind h there refuses. elim (has_pushed rows row r h) [
      | inl before ↦ first.first r other index kind before there refuses
      | inr same ↦ omega (arith, same, before)
    ];
  }

  -- a method that is the first with a refusal
  pub takes_new : (fault : Fault) → IsFirstFault w m fault
      → ((r : ℕ) (other : DeclaredMethod) (index : ℕ) (kind : LinkKind) → Has rows r → IsRow w r other → RefusesAt w other index kind → row ≤ r)
      → IsFirstOf w (rows ++ row ∷ []) (record { number = row; fault = fault })
  takes_new fault refuses before = record {
    there = has_last rows row;
    method = m;
    is_method = is;
    refuses = refuses;
    first = λ r other index kind h there refused. elim (has_pushed rows row r h) [
      | inl old ↦ before r other index kind old there refused
      | inr same ↦ omega (arith, same)
    ];
  }

-- no method before the one with the first refusal is refused
pub before_old : (w : World) (rows : List ℕ) (row : ℕ) (old : FaultIn) → row ≤ old.number → IsFirstOf w rows old
    → (r : ℕ) (other : DeclaredMethod) (index : ℕ) (kind : LinkKind) → Has rows r → IsRow w r other → RefusesAt w other index kind → row ≤ r
before_old w rows row old le first r other index kind h there refused = omega (arith, le, first.first r other index kind h there refused)

pub before_none : (w : World) (rows : List ℕ) (row : ℕ) → AreAccepted w rows
    → (r : ℕ) (other : DeclaredMethod) (index : ℕ) (kind : LinkKind) → Has rows r → IsRow w r other → RefusesAt w other index kind → row ≤ r
before_none w rows row accepted r other index kind h there refused = absurd (accepted r other h there index kind refused)
