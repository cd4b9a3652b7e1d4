-- What is left, as it is put together.
use Rattle.std.proofs.Common.{◌≡◌, ℕ, ◌+◌, ◌⊎◌, ◌++◌, List, [], ◌∷◌, Option, Some, length, slice_get, take, sym, ap, ◌∙◌, subst, inl, inr, arith, length-append}
use Rattle.lists.specs.Lists.{Adds, Has}
use Rattle.lists.proofs.Places.{slice_get-pushed, Has-push, take-next}
use Rattle.link_indexes.specs.declared.method.MethodCode.{MethodCode}
use Rattle.jim_ast.specs.declared.syntax.Mode.{Mode}
use Rattle.link_rules.specs.declared.code.Arg.{Arg}
use Rattle.link_rules.specs.declared.code.Code.{Code}
use Rattle.link_rules.specs.declared.code.Code.TheVariants.{Call}
use Rattle.link_rules.specs.Linked.{LinkedProgram}
use Rattle.link_narrow.specs.Bodies.{AreBodies, IsBodyOf}
use Rattle.link_narrow.specs.Names.{AreSpots, spot_of}
use Rattle.link_narrow.specs.declared.names.Spot.{Spot}
use Rattle.narrow_rules.specs.declared.kept.Kept.{Kept}
use Rattle.narrow_rules.specs.Narrowed.{AreThose, IsKept, IsNarrowedCode, StaysIn, none, one, other}

module _ {X : Type 0} (P : X → Type 0) where
  -- one more of those
  pub those_one : (x : X) → P x → {all some : List X} → AreThose P all some → AreThose P (all ++ x ∷ []) (some ++ x ∷ [])
  those_one x h none = one h none
  those_one x h (one k r) = one k (those_one x h r)
  those_one x h (other k r) = other k (those_one x h r)

  -- one more that isn't
  pub those_other : (x : X) → (P x → ⊥) → {all some : List X} → AreThose P all some → AreThose P (all ++ x ∷ []) some
  those_other x h none = other h none
  those_other x h (one k r) = one k (those_other x h r)
  those_other x h (other k r) = other k (those_other x h r)

-- the statements so far
pub record IsFilled (kept : List Kept) (number count : ℕ) (old new : List Code) : Type 0 where
  pub as_many : length new ≡ count
  pub each : (index : ℕ) (c d : Code) → slice_get old index ≡ Some c → slice_get new index ≡ Some d → IsNarrowedCode kept number index c d

-- one more
pub filled_more : (kept : List Kept) (number count : ℕ) (old new : List Code) (c d : Code) → slice_get old count ≡ Some c
    → IsNarrowedCode kept number count c d → IsFilled kept number count old new → IsFilled kept number (count + 1) old (new ++ d ∷ [])
filled_more kept number count old new c d there is f = record {
  as_many = let m = f.as_many in omega (arith, length-append new (d ∷ []), m);
  each = λ index a b at_old at_new. elim (slice_get-pushed new d index b at_new) [
    | inl before ↦ f.each index a b at_old before
    | inr last ↦
        let at : index ≡ count = last.0 ∙ f.as_many in
        let same : a ≡ c = cc (at_old, there, at) in
        subst (λ x. IsNarrowedCode kept number index x b) (sym same) (subst (λ y. IsNarrowedCode kept number index c y) (sym last.1)
        (subst (λ i. IsNarrowedCode kept number i c d) (sym at) is))
  ];
}

-- one more method
pub bodies_more : (p : LinkedProgram) (kept : List Kept) (count : ℕ) (bodies : List MethodCode) (b : MethodCode) → IsBodyOf p kept count b
    → AreBodies p kept count bodies → AreBodies p kept (count + 1) (bodies ++ b ∷ [])
bodies_more p kept count bodies b is are = record {
  as_many = let m = are.as_many in omega (arith, length-append bodies (b ∷ []), m);
  each = λ number c at. elim (slice_get-pushed bodies b number c at) [
    | inl before ↦ are.each number c before
    | inr last ↦ subst (λ x. IsBodyOf p kept number x) (sym last.1) (subst (λ i. IsBodyOf p kept i b) (sym (last.0 ∙ are.as_many)) is)
  ];
}

-- one more that is named
pub spots_more : (kept : List Kept) (at : ℕ) (one_more : Kept) (old new : List Spot) → slice_get kept at ≡ Some one_more → AreSpots (take at kept) old
    → Adds old (spot_of one_more) new → AreSpots (take (at + 1) kept) new
spots_more kept at k old new there are adds = λ s. (
  λ has. elim (was s has) [ inl before ↦ wide s ((are s).0 before) | inr is ↦ last s is ],
  λ has. elim (narrow_down s has) [ inl before ↦ kept_still s ((are s).1 before) | inr is ↦ there_now s is ],
) where
  was : (s : Spot) → Has new s → Has old s ⊎ (s ≡ spot_of k)
  was s has = elim adds [
    | inl a ↦ inl (rw a.1 at has)
    | inr b ↦ (Has-push old (spot_of k) s).0 (rw b.1 at has)
  ]

  kept_still : (s : Spot) → Has old s → Has new s
  kept_still s has = elim adds [ inl a ↦ rw a.1 has | inr b ↦ rw b.1 ((Has-push old (spot_of k) s).1 (inl has)) ]

  there_now : (s : Spot) → s ≡ spot_of k → Has new s
  there_now s is = elim adds [
    | inl a ↦ rw a.1 (subst (Has old) (sym is) a.0)
    | inr b ↦ rw b.1 ((Has-push old (spot_of k) s).1 (inr is))
  ]

  wide : (s : Spot) → IsKept (take at kept) s.method s.index s.target → IsKept (take (at + 1) kept) s.method s.index s.target
  wide s has = rw (take-next kept at k there) ((Has-push (take at kept) k _).1 (inl has))

  last : (s : Spot) → s ≡ spot_of k → IsKept (take (at + 1) kept) s.method s.index s.target
  last s is = rw (take-next kept at k there) ((Has-push (take at kept) k _).1 (inr (ap (λ (t : Spot). record { place = record { method = t.method; index = t.index }; target = t.target }) is)))

  narrow_down : (s : Spot) → IsKept (take (at + 1) kept) s.method s.index s.target → IsKept (take at kept) s.method s.index s.target ⊎ (s ≡ spot_of k)
  narrow_down s has = elim ((Has-push (take at kept) k _).0 (rw (take-next kept at k there) at has)) [
    | inl before ↦ inl before
    | inr is ↦ inr (ap spot_of is)
  ]

-- a call that is left
pub call_left : (kept : List Kept) (number index : ℕ) (to : Option ℕ) (mode : Mode) (class key : ℕ) (receiver : Option ℕ) (args copied : List Arg)
    (targets those some : List ℕ) (c : Code) → c ≡ Call to mode class key receiver args targets → copied ≡ args → some ≡ those
    → AreThose (λ target. StaysIn mode (IsKept kept number index target)) targets those
    → IsNarrowedCode kept number index c (Call to mode class key receiver copied some)
call_left kept number index to mode class key receiver args copied targets those some c is same_args same_targets are =
    subst (λ d. IsNarrowedCode kept number index d (Call to mode class key receiver copied some)) (sym is)
    (those, are, ap (λ xs. Call to mode class key receiver xs some) same_args ∙ ap (λ ts. Call to mode class key receiver args ts) same_targets)
