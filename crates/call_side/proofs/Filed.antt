-- Elements that go under their keys.
use Rattle.std.proofs.Common.{◌≡◌, ℕ, List, [], ◌∷◌, ◌++◌, ◌↔◌, inl, inr, refl, sym, ap, subst}
use Rattle.lists.specs.Lists.{Has}
use Rattle.lists.proofs.Places.{slice_get-append_left, slice_get-push, slice_get-pushed}
use Rattle.post_star.specs.declared.bases.BaseStep.{BaseStep}
use Rattle.post_star.specs.declared.key.Key.{Key}
use Rattle.post_star.specs.declared.key.Key.TheVariants.{Node, Marked}
use Rattle.post_star.specs.Derivations.{step_of}
use Rattle.post_star.specs.Groups.{Groups, found_at, IsAdded}
use Rattle.post_star.proofs.Groups.{one_key}
use Rattle.call_side.specs.Indexed.{IsFiledBy, base_key, mark_key}

module _ {X : Type 0} where
  -- the elements of a list that was added to
  pub has_left : (xs : List X) (x y : X) → Has xs y → Has (xs ++ x ∷ []) y
  has_left xs x y h = (h.0, slice_get-append_left xs (x ∷ []) h.0 y h.1)

  pub has_last : (xs : List X) (x : X) → Has (xs ++ x ∷ []) x
  has_last xs x = (_, slice_get-push xs x)

module _ {X : Type 0} (key_of : X → Key) where
  -- one element more, under its key
  pub filed_more : (xs : List X) (old new : Groups X) (x : X) → IsAdded old new (key_of x) x → IsFiledBy key_of xs old → IsFiledBy key_of (xs ++ x ∷ []) new
  filed_more xs old new x added filed key y = elim (one_key (key_of x) key) [
    | inl e ↦ subst (λ (k : Key). Has (found_at new k) y ↔ (Has (xs ++ x ∷ []) y × (key_of y ≡ k))) e.0 here
    | inr n ↦ other n.0
  ]
    where
      here : Has (found_at new (key_of x)) y ↔ (Has (xs ++ x ∷ []) y × (key_of y ≡ key_of x))
      here = subst (λ (ys : List X). Has ys y ↔ (Has (xs ++ x ∷ []) y × (key_of y ≡ key_of x))) (sym added.here) (
        (λ h. elim (slice_get-pushed (found_at old (key_of x)) x h.0 y h.1) [
          | inl a ↦ let was = (filed (key_of x) y).0 (h.0, a) in (has_left xs x y was.0, was.1)
          | inr b ↦ subst (λ (z : X). Has (xs ++ x ∷ []) z × (key_of z ≡ key_of x)) (sym b.1) (has_last xs x, refl)
        ]),
        (λ h. elim (slice_get-pushed xs x h.0.0 y h.0.1) [
          | inl a ↦ has_left (found_at old (key_of x)) x y ((filed (key_of x) y).1 ((h.0.0, a), h.1))
          | inr b ↦ subst (λ (z : X). Has (found_at old (key_of x) ++ x ∷ []) z) (sym b.1) (has_last (found_at old (key_of x)) x)
        ]),
      )

      other : (key_of x ≡ key → ⊥) → Has (found_at new key) y ↔ (Has (xs ++ x ∷ []) y × (key_of y ≡ key))
      other differs = subst (λ (ys : List X). Has ys y ↔ (Has (xs ++ x ∷ []) y × (key_of y ≡ key))) (sym (added.others key (λ e. differs (sym e)))) (
        (λ h. let was = (filed key y).0 h in (has_left xs x y was.0, was.1)),
        (λ h. elim (slice_get-pushed xs x h.0.0 y h.0.1) [
          | inl a ↦ (filed key y).1 ((h.0.0, a), h.1)
          | inr b ↦ absurd (differs (subst (λ (z : X). key_of z ≡ key) b.1 h.1))
        ]),
      )

-- what an index past the end reads
abbrev pub no_step : BaseStep
no_step = step_of 0 0 0

-- a step by its parts
pub step_is : (s : BaseStep) (base mark : ℕ) → s.base ≡ base → s.mark ≡ mark → s ≡ step_of base mark s.below
step_is s base mark b m =
    subst (λ (n : ℕ). s ≡ step_of n mark s.below) b (subst (λ (k : ℕ). s ≡ step_of s.base k s.below) m refl)

-- the steps of a base
pub filed_from : (steps : List BaseStep) (g : Groups BaseStep) (base : ℕ) → IsFiledBy base_key steps g → (step : BaseStep) → Has (found_at g (Node base)) step ↔ (Has steps step × (step.base ≡ base))
filed_from steps g base filed step = (
  (λ h. let was = (filed (Node base) step).0 h in (was.0, let e = was.1 in cc)),
  (λ h. (filed (Node base) step).1 (h.0, ap Node h.1)),
)

-- the steps of a base and a mark
pub filed_by : (steps : List BaseStep) (g : Groups BaseStep) (base mark : ℕ) → IsFiledBy mark_key steps g → (below : ℕ)
    → Has (found_at g (Marked base mark)) (step_of base mark below) ↔ Has steps (step_of base mark below)
filed_by steps g base mark filed below = (
  (λ h. ((filed (Marked base mark) (step_of base mark below)).0 h).0),
  (λ h. (filed (Marked base mark) (step_of base mark below)).1 (h, refl)),
)

pub filed_only : (steps : List BaseStep) (g : Groups BaseStep) (base mark : ℕ) → IsFiledBy mark_key steps g → (step : BaseStep)
    → Has (found_at g (Marked base mark)) step → step ≡ step_of base mark step.below
filed_only steps g base mark filed step h =
    let was = (filed (Marked base mark) step).0 h in
    let e : Marked step.base step.mark ≡ Marked base mark = was.1 in
    let b : step.base ≡ base = cc in
    let m : step.mark ≡ mark = cc in
    step_is step base mark b m
