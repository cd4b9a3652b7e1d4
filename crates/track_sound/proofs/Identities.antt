-- The identity of a position, where the formal is a settled local: it is alone, and only identities stand before it.
use Rattle.std.proofs.Common.{◌≡◌, ℕ, zero, suc, ◌<◌, ◌&&◌, Bool, true, false, if◌then◌else◌, List, [], ◌∷◌, Option, Some, None, filter_map, is_some, slice_get, refl, sym, ◌∙◌, subst, arith}
use Rattle.std.specs.List.{cons_option}
use Rattle.std.proofs.lemmas.Bool.{and_parts}
use Rattle.link_rules.specs.declared.code.Code.{Code}
use Rattle.spds_rules.specs.declared.node.Var.{Var}
use Rattle.spds_rules.specs.declared.node.Var.TheVariants.{Local}
use Rattle.spds_rules.specs.Formals.{IsPosition, formal, formal_by, identity_of, is_assigned_once, only}
use Rattle.track_systems.specs.Settled.{comes_first, is_identity, is_settled, is_settled_by}

module _ {X Y : Type 0} (f : X → Option Y) where
  -- what gives something leaves it in the list
  some_given : (xs : List X) (k : ℕ) (c : X) (y : Y) → slice_get xs k ≡ Some c → f c ≡ Some y → filter_map f xs ≡ [] → ⊥
  some_given [] k c y there gives none = cc (there)
  some_given (x ∷ xs) zero c y there gives none =
      let same : x ≡ c = cc (there) in
      let first : f x ≡ Some y = subst (λ (x : X). f x ≡ Some y) (sym same) gives in
      let shown : cons_option (Some y) (filter_map f xs) ≡ [] = subst (λ (o : Option Y). cons_option o (filter_map f xs) ≡ []) first none in
      cc (shown)
  some_given (x ∷ xs) (suc k) c y there gives none = by (f x) none (some_given xs k c y there gives)
    where
      by : (o : Option Y) → cons_option o (filter_map f xs) ≡ [] → (filter_map f xs ≡ [] → ⊥) → ⊥
      by None none rest = rest none
      by (Some z) none rest = cc (none)

-- only identities stand before the statement with this index
abbrev pub IsEarly : List Code → ℕ → Type 0
IsEarly statements k = (i : ℕ) (c : Code) → i < k → slice_get statements i ≡ Some c → is_identity c ≡ true

-- so it is before the only identity of a position that comes first
early_by : (v : Var) (x y k : ℕ) (c : Code) (statements : List Code) → filter_map (λ c. identity_of c v) statements ≡ x ∷ [] → comes_first v statements ≡ true
    → slice_get statements k ≡ Some c → identity_of c v ≡ Some y
    → IsEarly statements k
early_by v x y k c [] one first there gives = cc (there)
early_by v x y zero c (d ∷ rest) one first there gives = λ i other below e. absurd (omega (arith, below))
early_by v x y (suc k) c (d ∷ rest) one first there gives =
    by (λ one first. early_by v x y k c rest one first there gives) (identity_of d v) refl one first
  where
    by : (filter_map (λ c. identity_of c v) rest ≡ x ∷ [] → comes_first v rest ≡ true → IsEarly rest k) → (o : Option ℕ) → identity_of d v ≡ o
        → cons_option o (filter_map (λ c. identity_of c v) rest) ≡ x ∷ []
        → (if is_some o then true else (is_identity d && comes_first v rest)) ≡ true
        → IsEarly (d ∷ rest) (suc k)
    by more (Some z) is one first = let none : filter_map (λ c. identity_of c v) rest ≡ [] = cc (one) in absurd (some_given (λ c. identity_of c v) rest k c y there gives none)
    by more None is one first =
        let both = and_parts (is_identity d) (comes_first v rest) first in
        let later = more one both.1 in
        elim [ zero ↦ λ other below e. let same : d ≡ other = cc (e) in subst (λ (c : Code). is_identity c ≡ true) same both.0 | suc i ↦ λ other below e. later i other (omega (arith, below)) e ]

-- where the formal of a position is a local, the code has one identity of it
one_identity : (v : Var) (x : ℕ) (statements : List Code) → IsPosition v → formal statements v ≡ Local x
    → filter_map (λ c. identity_of c v) statements ≡ x ∷ []
one_identity v x statements position is = by_only (filter_map (λ c. identity_of c v) statements) refl is
  where
    not_local : v ≡ Local x → ⊥
    not_local same = subst IsPosition same position

    by_once : (y : ℕ) (b : Bool) → (if b then Local y else v) ≡ Local x → y ∷ [] ≡ x ∷ []
    by_once y true is = let same : y ≡ x = cc (is) in cc
    by_once y false is = absurd (not_local is)

    by_only : (xs : List ℕ) → filter_map (λ c. identity_of c v) statements ≡ xs → formal_by statements v (only xs) ≡ Local x
        → filter_map (λ c. identity_of c v) statements ≡ x ∷ []
    by_only [] e is = absurd (not_local is)
    by_only (y ∷ []) e is = e ∙ by_once y (is_assigned_once statements y) is
    by_only (y ∷ z ∷ ys) e is = absurd (not_local is)

-- so only identities stand before that of a settled one
pub settled_early : (v : Var) (x k : ℕ) (c : Code) (y : ℕ) (statements : List Code) → IsPosition v → formal statements v ≡ Local x → is_settled statements v ≡ true
    → slice_get statements k ≡ Some c → identity_of c v ≡ Some y
    → IsEarly statements k
settled_early v x k c y statements position is settled there gives =
    let first : comes_first v statements ≡ true = subst (λ (w : Var). is_settled_by w statements v ≡ true) is settled in
    early_by v x y k c statements (one_identity v x statements position is) first there gives
