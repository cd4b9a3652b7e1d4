-- Whether a target stays.
use Rattle.std.proofs.Common.{◌≡◌, ℕ, ◌⊎◌, ◌↔◌, List, [], ◌∷◌, Bool, Option, Some, None, length, slice_get, take, ◌≤◌, refl, sym, ap, ◌∙◌, subst, inl, inr}
use Rattle.std.specs.Bool.{IsTrue}
use Rattle.std.specs.Option.{is_some}
use Rattle.std.proofs.lemmas.List.{take_all}
use Rattle.jim_ast.specs.declared.syntax.Mode.{Mode}
use Rattle.jim_ast.specs.declared.syntax.Mode.TheVariants.{Virtual, Interface}
use Rattle.link_narrow.specs.Names.{AreSpots}
use Rattle.link_narrow.specs.declared.names.Spot.{Spot}
use Rattle.narrow_rules.specs.declared.kept.Kept.{Kept}
use Rattle.narrow_rules.specs.Narrowed.{AreThose, IsKept, StaysIn, none}

-- in the modes that an object decides a target stays where it is named
by_object : (P : Type 0) (mode : Mode) → (mode ≡ Virtual) ⊎ (mode ≡ Interface) → (StaysIn mode P → P) × (P → StaysIn mode P)
by_object P mode is = elim is [
  | inl e ↦ subst (λ m. (StaysIn m P → P) × (P → StaysIn m P)) (sym e) ((λ h. h), (λ h. h))
  | inr e ↦ subst (λ m. (StaysIn m P → P) × (P → StaysIn m P)) (sym e) ((λ h. h), (λ h. h))
]

-- whether there is a value
some_there : (r : Option ℕ) → IsTrue (is_some r) → (i : ℕ) × (r ≡ Some i)
some_there (Some i) h = (i, refl)
some_there None h = cc (h)

-- by a look-up
pub spot_stays : (kept : List Kept) (spots : List Spot) (s : Spot) (mode : Mode) (found : Option ℕ) (b : Bool) → AreSpots kept spots
    → (mode ≡ Virtual) ⊎ (mode ≡ Interface) → ((i : ℕ) → (found ≡ Some i) ↔ (slice_get spots i ≡ Some s)) → b ≡ is_some found
    → IsTrue b ↔ StaysIn mode (IsKept kept s.method s.index s.target)
spot_stays kept spots s mode found b are is finds e = (
  λ yes. (let i = some_there found (subst IsTrue e yes) in
      (by_object (IsKept kept s.method s.index s.target) mode is).1 ((are s).0 (i.0, (finds i.0).0 i.1))),
  λ stays. (let has = (are s).1 ((by_object (IsKept kept s.method s.index s.target) mode is).0 stays) in
      let there = (finds has.0).1 has.1 in
      e ∙ ap (λ r. is_some r) there),
)

-- none so far
pub those_start : {X : Type 0} (P : X → Type 0) (xs some : List X) → some ≡ [] → AreThose P (take 0 xs) some
those_start P [] some e = subst (AreThose P []) (sym e) none
those_start P (x ∷ xs) some e = subst (AreThose P []) (sym e) none

-- all of them
pub those_end : {X : Type 0} (P : X → Type 0) (xs some : List X) (count : ℕ) → length xs ≤ count → AreThose P (take count xs) some → AreThose P xs some
those_end P xs some count end h = subst (λ ys. AreThose P ys some) (take_all count xs end) h
