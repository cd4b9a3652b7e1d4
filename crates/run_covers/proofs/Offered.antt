-- A fact of all that a step may do, by the parts of the table.
use Rattle.std.proofs.Common.{◌≡◌, ℕ, zero, suc, ◌++◌, Option, Some, None, List, [], ◌∷◌, map, slice_get, sym, subst, inl, inr}
use Rattle.lists.specs.Lists.{Has}
use Rattle.step_rules.specs.declared.parts.Value.{Value}
use Rattle.step_rules.specs.declared.parts.Value.TheVariants.{Null, Number, Object}
use Rattle.step_rules.specs.Effects.{Effect, is_ill_typed, raises}
use Rattle.step_rules.specs.Offers.{IllTyped, Only, Where, WithObject, WithValue}

module _ (P : Effect → Type 0) where
  -- each of the effects has the fact
  abbrev pub AllOf : List Effect → Type 0
  AllOf [] = Unit {0}
  AllOf (e ∷ es) = P e × AllOf es

  -- one of them has it
  pub one_of : (es : List Effect) (e : Effect) → AllOf es → Has es e → P e
  one_of [] e all h = cc (h.1)
  one_of (x ∷ es) e all (zero, h) = subst P (same h) all.0
    where
      same : slice_get (x ∷ es) zero ≡ Some e → x ≡ e
      same h = cc
  one_of (x ∷ es) e all (suc i, h) = one_of es e all.1 (i, h)

  -- effects of one form, before others
  pub mapped : {X : Type 0} (f : X → Effect) (xs : List X) (others : List Effect) → ((x : X) → P (f x)) → AllOf others → AllOf (map f xs ++ others)
  mapped f [] others each all = all
  mapped f (x ∷ xs) others each all = (each x, mapped f xs others each all)

  -- effects of one form
  pub all_mapped : {X : Type 0} (f : X → Effect) (xs : List X) → ((x : X) → P (f x)) → AllOf (map f xs)
  all_mapped f [] each = tt
  all_mapped f (x ∷ xs) each = (each x, all_mapped f xs each)

  -- these and nothing else
  pub only : (these offered : List Effect) → Only these offered → AllOf these → AllOf offered
  only these offered h all = subst AllOf (sym h) all

  module _ (ill : P is_ill_typed) (null : P (raises 0)) where
    -- a step that isn't well typed
    pub ill_typed : (offered : List Effect) → IllTyped offered → AllOf offered
    ill_typed offered h = only (is_ill_typed ∷ []) offered h (ill, tt)

    pub with_value : (source : Option Value) (Rest : Value → List Effect → Type 0) (offered : List Effect)
        → ((value : Value) → Rest value offered → AllOf offered) → WithValue source Rest offered → AllOf offered
    with_value (Some value) Rest offered f h = f value h
    with_value None Rest offered f h = ill_typed offered h

    pub with_object : (value : Value) (Rest : ℕ → List Effect → Type 0) (offered : List Effect)
        → ((o : ℕ) → Rest o offered → AllOf offered) → WithObject value Rest offered → AllOf offered
    with_object (Object o) Rest offered f h = f o h
    with_object Null Rest offered f h = only (raises 0 ∷ []) offered h (null, tt)
    with_object Number Rest offered f h = ill_typed offered h

    pub where_so : (Fact : Type 0) (these offered : List Effect) → AllOf these → Where Fact these offered → AllOf offered
    where_so Fact these offered all h = elim h [ inl so ↦ only these offered so.1 all | inr other ↦ ill_typed offered other.1 ]
