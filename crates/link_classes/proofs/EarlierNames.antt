-- Classes that have the name of an earlier one.
use Rattle.std.proofs.Common.{◌≡◌, ◌<◌, ◌≤◌, ℕ, List, Some, sym, subst, inl, inr, slice_get, arith}
use Rattle.lists.proofs.Places.{slice_get-below}
use Rattle.link_rules.specs.Classes.{DeclaredClass, IsNamed, class_name}
use Rattle.link_rules.specs.Refusals.{HasEarlierName}
use Rattle.link_rules.specs.World.{IsClassNumber, World}

-- the first class of its name stands before a class: this one has an earlier name
pub earlier : (w : World) (classes : List DeclaredClass) (number first : ℕ) (c : DeclaredClass) → w.classes ≡ classes → slice_get classes number ≡ Some c
    → IsClassNumber classes (class_name c) first → first < number → HasEarlierName w number
earlier w classes number first c same there is before = record {
  class = c;
  there = subst (λ cs. slice_get cs number ≡ Some c) (sym same) there;
  earlier = first;
  before = before;
  same = elim is [
    | inl least ↦ subst (λ cs. IsNamed cs (class_name c) first) (sym same) least.holds
    | inr none ↦ absurd (omega (arith, none.0, slice_get-below classes number c there))
  ];
}

-- it doesn't stand before a class: this one has no earlier name
pub not_earlier : (w : World) (classes : List DeclaredClass) (number first : ℕ) (c : DeclaredClass) → w.classes ≡ classes → slice_get classes number ≡ Some c
    → IsClassNumber classes (class_name c) first → number ≤ first → HasEarlierName w number → ⊥
not_earlier w classes number first c same there is after h =
    let here : slice_get classes number ≡ Some h.class = subst (λ cs. slice_get cs number ≡ Some h.class) same h.there in
    let class_same : h.class ≡ c = cc (here, there) in
    let named : IsNamed classes (class_name c) h.earlier = subst (λ cs. IsNamed cs (class_name c) h.earlier) same (subst (λ k. IsNamed w.classes (class_name k) h.earlier) class_same h.same) in
    elim is [
      | inl least ↦ least.first h.earlier (omega (arith, h.before)) named
      | inr none ↦ none.1 h.earlier named
    ]
