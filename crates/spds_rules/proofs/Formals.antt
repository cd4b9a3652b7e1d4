-- The formals of positions stand apart, and where one is a local, nothing but its identity assigns it.
use Rattle.std.proofs.Common.{◌≡◌, ℕ, zero, suc, ◌≤◌, ◌⊎◌, ◌==◌, Bool, true, false, cond, if◌then◌else◌, List, [], ◌∷◌, Option, Some, None, count_by, filter_map, get_or, slice_get, refl, sym, ap, subst, ◌∙◌, inl, inr, arith}
use Rattle.std.specs.List.{cons_option}
use Rattle.std.proofs.lemmas.Bool.{eq-eqb, eqb-true}
use Rattle.std.proofs.lemmas.List.Sums.{get_or-le-sum_by, sum_by-cons}
use Rattle.std.proofs.lemmas.Option.{get_or_from_slice_get, same_Some}
use Rattle.lists.proofs.Places.{slice_get-below}
use Rattle.link_rules.specs.declared.code.Code.{Code}
use Rattle.link_rules.specs.declared.code.Code.TheVariants as code
use Rattle.spds_rules.specs.declared.node.Var.{Var}
use Rattle.spds_rules.specs.declared.node.Var.TheVariants.{Local, This, Param}
use Rattle.spds_rules.specs.Formals.{IsPosition, assigned, assigns, formal, formal_by, identity_of, is_assigned_once, is_local, only}

module _ {X : Type 0} where
  -- what a function gives of a list it gives of one of its elements
  filter_map-from : {Y : Type 0} (f : X → Option Y) (xs : List X) (i : ℕ) (y : Y) → slice_get (filter_map f xs) i ≡ Some y
      → (j : ℕ) × (x : X) × (slice_get xs j ≡ Some x) × (f x ≡ Some y)
  filter_map-from f [] i y there = absurd (cc (there))
  filter_map-from {Y} f (x ∷ xs) i y there = by (λ k at. filter_map-from f xs k y at) (f x) i refl there
    where
      by : ((k : ℕ) → slice_get (filter_map f xs) k ≡ Some y → (j : ℕ) × (z : X) × (slice_get xs j ≡ Some z) × (f z ≡ Some y)) → (o : Option Y) (i : ℕ)
          → f x ≡ o → slice_get (cons_option o (filter_map f xs)) i ≡ Some y → (j : ℕ) × (z : X) × (slice_get (x ∷ xs) j ≡ Some z) × (f z ≡ Some y)
      by rest None i is at = let r = rest i at in (suc r.0, r.1, r.2, r.3)
      by rest (Some z) zero is at = (0, x, refl, is ∙ at)
      by rest (Some z) (suc i) is at = let r = rest i at in (suc r.0, r.1, r.2, r.3)

  -- an element that passes is counted
  counted : (p : X → Bool) (xs : List X) (i : ℕ) (a : X) → slice_get xs i ≡ Some a → p a ≡ true → 1 ≤ count_by p xs
  counted p xs i a there passes =
      let term : ◌≡◌ {A = ℕ} (cond (p (get_or xs i a)) 1 0) 1 = ap {B = ℕ} (λ x. cond (p x) 1 0) (get_or_from_slice_get xs i a a there) ∙ ap {B = ℕ} (λ (b : Bool). cond b 1 0) passes in
      omega (arith, get_or-le-sum_by (λ x. cond (p x) 1 0) xs i a (slice_get-below xs i a there), term)

  -- where one passes, no other does
  counted_once : (p : X → Bool) (xs : List X) (i j : ℕ) (a b : X) → count_by p xs ≤ 1 → slice_get xs i ≡ Some a → p a ≡ true → slice_get xs j ≡ Some b → p b ≡ true
      → i ≡ j
  counted_once p [] i j a b once here passes there too = absurd (cc (here))
  counted_once p (x ∷ xs) zero zero a b once here passes there too = refl
  counted_once p (x ∷ xs) zero (suc j) a b once here passes there too =
      let first : ◌≡◌ {A = ℕ} (cond (p x) 1 0) 1 = ap {B = ℕ} (λ x. cond (p x) 1 0) (same_Some x a here) ∙ ap {B = ℕ} (λ (b : Bool). cond b 1 0) passes in
      absurd (omega (arith, once, sum_by-cons (λ x. cond (p x) 1 0) x xs, first, counted p xs j b there too))
  counted_once p (x ∷ xs) (suc i) zero a b once here passes there too =
      let first : ◌≡◌ {A = ℕ} (cond (p x) 1 0) 1 = ap {B = ℕ} (λ x. cond (p x) 1 0) (same_Some x b there) ∙ ap {B = ℕ} (λ (b : Bool). cond b 1 0) too in
      absurd (omega (arith, once, sum_by-cons (λ x. cond (p x) 1 0) x xs, first, counted p xs i a here passes))
  counted_once p (x ∷ xs) (suc i) (suc j) a b once here passes there too =
      ap suc (counted_once p xs i j a b (omega (arith, once, sum_by-cons (λ x. cond (p x) 1 0) x xs)) here passes there too)

-- what a choice gives where it gives something
chosen : (b : Bool) (to x : ℕ) → (if b then Some to else None) ≡ Some x → (b ≡ true) × (to ≡ x)
chosen true to x is = (refl, same_Some to x is)
chosen false to x is = absurd (cc (is))

-- an identity of a position is the statement that assigns it
abbrev pub IsIdentity : Code → Var → Type 0
IsIdentity (code.This to) v = v ≡ This
IsIdentity (code.Param to number) v = v ≡ Param number
IsIdentity c v = ⊥

is_identity : (c : Code) (v : Var) (x : ℕ) → identity_of c v ≡ Some x → IsIdentity c v
is_identity (code.This to) This x is = refl
is_identity (code.Param to number) (Param position) x is = ap Param (sym (eqb-true number position (chosen (number == position) to x is).0))
is_identity _ _ x is = absurd (cc (is))

-- it assigns its local
pub identity_assigns : (c : Code) (v : Var) (x : ℕ) → identity_of c v ≡ Some x → assigned c ≡ Some x
identity_assigns (code.This to) This x is = is
identity_assigns (code.Param to number) (Param position) x is = ap Some (chosen (number == position) to x is).1
identity_assigns _ _ x is = absurd (cc (is))

-- and is the identity of no other
one_identity : (c : Code) (v w : Var) → IsIdentity c v → IsIdentity c w → v ≡ w
one_identity (code.This to) v w a b = a ∙ sym b
one_identity (code.Param to number) v w a b = a ∙ sym b
one_identity _ v w a b = absurd a

-- the only statement that assigns the local is an identity of the position
pub record IsTakenAt (statements : List Code) (position : Var) (x index : ℕ) : Type 0 where
  pub statement : Code
  pub there : slice_get statements index ≡ Some statement
  pub identity : identity_of statement position ≡ Some x
  pub alone : (i : ℕ) (c : Code) → slice_get statements i ≡ Some c → assigned c ≡ Some x → i ≡ index

-- the formal of a position is the position itself, or such a local
pub formal_is : (statements : List Code) (v : Var)
    → (formal statements v ≡ v) ⊎ ((x : ℕ) × (formal statements v ≡ Local x) × ((index : ℕ) × IsTakenAt statements v x index))
formal_is statements v = by_only (filter_map (λ c. identity_of c v) statements) refl
  where
    assigns_it : (c : Code) (x : ℕ) → assigned c ≡ Some x → assigns x c ≡ true
    assigns_it c x is = ap (is_local x) is ∙ eq-eqb x x refl

    by_once : (x : ℕ) (b : Bool) → is_assigned_once statements x ≡ b → slice_get (filter_map (λ c. identity_of c v) statements) 0 ≡ Some x
        → ((if b then Local x else v) ≡ v) ⊎ ((y : ℕ) × ((if b then Local x else v) ≡ Local y) × ((index : ℕ) × IsTakenAt statements v y index))
    by_once x false once first = inl refl
    by_once x true once first =
        let found = filter_map-from (λ c. identity_of c v) statements 0 x first in
        let one = eqb-true (count_by (assigns x) statements) 1 once in
        inr (
          x,
          refl,
          (
            found.0,
            record {
              statement = found.1;
              there = found.2;
              identity = found.3;
              alone = λ i c there is.
                  counted_once (assigns x) statements i found.0 c found.1 (omega (arith, one)) there (assigns_it c x is) found.2
                  (assigns_it found.1 x (identity_assigns found.1 v x found.3));
            },
          ),
        )

    by_only : (xs : List ℕ) → filter_map (λ c. identity_of c v) statements ≡ xs
        → (formal_by statements v (only xs) ≡ v) ⊎ ((x : ℕ) × (formal_by statements v (only xs) ≡ Local x) × ((index : ℕ) × IsTakenAt statements v x index))
    by_only [] is = inl refl
    by_only (x ∷ []) is = by_once x (is_assigned_once statements x) refl (ap (λ ys. slice_get ys 0) is)
    by_only (x ∷ y ∷ xs) is = inl refl

-- a local is no position
no_local : (v : Var) (x : ℕ) → IsPosition v → v ≡ Local x → ⊥
no_local v x position is = subst IsPosition is position

-- no two positions have one formal
pub formal_apart : (statements : List Code) (v w : Var) → IsPosition v → IsPosition w → formal statements v ≡ formal statements w → v ≡ w
formal_apart statements v w at_v at_w same = elim (formal_is statements v) [
  | inl a ↦ elim (formal_is statements w) [
    | inl b ↦ sym a ∙ same ∙ b
    | inr b ↦ absurd (no_local v b.0 at_v (sym a ∙ same ∙ b.1))
  ]
  | inr a ↦ elim (formal_is statements w) [
    | inl b ↦ absurd (no_local w a.0 at_w (sym b ∙ sym same ∙ a.1))
    | inr b ↦
        let locals : Local a.0 ≡ Local b.0 = sym a.1 ∙ same ∙ b.1 in
        let equal : a.0 ≡ b.0 = cc (locals) in
        let first = a.2.1 in
        let second = b.2.1 in
        let index = first.alone b.2.0 second.statement second.there (identity_assigns second.statement w b.0 second.identity ∙ ap Some (sym equal)) in
        let statement = same_Some second.statement first.statement (sym second.there ∙ ap (slice_get statements) index ∙ first.there) in
        one_identity first.statement v w (is_identity first.statement v a.0 first.identity)
        (subst (λ c. IsIdentity c w) statement (is_identity second.statement w b.0 second.identity))
  ]
]
