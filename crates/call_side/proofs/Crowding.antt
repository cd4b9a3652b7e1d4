-- Marks of crowds are flagged one by one.
use Rattle.std.proofs.Common.{◌≡◌, ◌<◌, inl, inr, ℕ, zero, suc, ◌+◌, Bool, true, false, ◌||◌, ◌&&◌, List, [], ◌∷◌, ◌++◌, eqb, leb, get_or, length, slice_set, take, refl, sym, ap, ◌∙◌}
use Rattle.std.proofs.lemmas.Bool.Decides.{eqb_tells}
use Rattle.std.specs.List.{list_any}
use Rattle.std.proofs.lemmas.Grind.{get_or-set_at}
use Rattle.std.proofs.lemmas.List.{get_or-set_other, take_more}
use Rattle.std.proofs.lemmas.List.Folds.{list_any-append}
use Rattle.lists.specs.Groups.{found_at, Grouped}
use Rattle.post_star.specs.declared.bases.BaseStep.{BaseStep}
use Rattle.call_side.specs.Crowds.{crowds, entering, is_crowded}

or_true : (b : Bool) → (b || true) ≡ true
or_true true = refl
or_true false = refl

or_false : (b : Bool) → (b || false) ≡ b
or_false true = refl
or_false false = refl

and_true : (b : Bool) → (b && true) ≡ b
and_true true = refl
and_true false = refl

and_false : (b : Bool) → (b && false) ≡ false
and_false true = refl
and_false false = refl

module _ (steps : List BaseStep) (mark : ℕ) where
  -- one step more was looked at
  front_more : (i : ℕ) (d : BaseStep) → i < length steps
      → list_any (crowds steps mark) (take (i + 1) steps) ≡ (list_any (crowds steps mark) (take i steps) || crowds steps mark (get_or steps i d))
  front_more i d low =
      ap (list_any (crowds steps mark)) (take_more steps i d low) ∙ list_any-append (crowds steps mark) (take i steps) (get_or steps i d ∷ [])
      ∙ ap (λ (b : Bool). list_any (crowds steps mark) (take i steps) || b) (or_false (crowds steps mark (get_or steps i d)))

  -- whose mark was flagged
  pub flagged_more : (i : ℕ) (d : BaseStep) (old new : Bool) → i < length steps → is_crowded steps (get_or steps i d) ≡ true → old ≡ list_any (crowds steps mark) (take i steps)
      → new ≡ (old || eqb (get_or steps i d).mark mark) → new ≡ list_any (crowds steps mark) (take (i + 1) steps)
  flagged_more i d old new low crowded was now =
      now ∙ ap (λ (b : Bool). b || eqb (get_or steps i d).mark mark) was
      ∙ ap (λ (b : Bool). list_any (crowds steps mark) (take i steps) || b)
      (sym (ap (λ (b : Bool). eqb (get_or steps i d).mark mark && b) crowded ∙ and_true (eqb (get_or steps i d).mark mark)))
      ∙ sym (front_more i d low)

  -- or that isn't one of a crowd
  pub flagged_same : (i : ℕ) (d : BaseStep) (old : Bool) → i < length steps → is_crowded steps (get_or steps i d) ≡ false → old ≡ list_any (crowds steps mark) (take i steps)
      → old ≡ list_any (crowds steps mark) (take (i + 1) steps)
  flagged_same i d old low apart was =
      was ∙ sym (or_false (list_any (crowds steps mark) (take i steps)))
      ∙ ap (λ (b : Bool). list_any (crowds steps mark) (take i steps) || b)
      (sym (ap (λ (b : Bool). eqb (get_or steps i d).mark mark && b) apart ∙ and_false (eqb (get_or steps i d).mark mark)))
      ∙ sym (front_more i d low)

-- one more flag, which isn't set
pub pushed_same : (flags : List Bool) (k : ℕ) → get_or (flags ++ false ∷ []) k false ≡ get_or flags k false
pushed_same [] zero = refl
pushed_same [] (suc k) = refl
pushed_same (b ∷ flags) zero = refl
pushed_same (b ∷ flags) (suc k) = pushed_same flags k

-- a flag was set
pub flag_raised : (flags : List Bool) (at k : ℕ) → at < length flags → get_or (slice_set flags at true) k false ≡ (get_or flags k false || eqb at k)
flag_raised flags at k low = elim (eqb_tells at k) [
  | inl same ↦
      let here : k ≡ at = sym same.1 in
      get_or-set_at flags at k true false here low ∙ sym (ap (λ (b : Bool). get_or flags k false || b) same.0 ∙ or_true (get_or flags k false))
  | inr apart ↦
      get_or-set_other flags at k true false (λ e. apart.1 (sym e))
      ∙ sym (ap (λ (b : Bool). get_or flags k false || b) apart.0 ∙ or_false (get_or flags k false))
]

-- whether a step is one of a crowd is told by the groups of marks
pub crowd_told : (groups : Grouped ℕ ℕ) (steps : List BaseStep) (step : BaseStep) (b : Bool) → ((base : ℕ) → found_at eqb groups base ≡ entering steps base)
    → b ≡ (leb 12 (length (found_at eqb groups step.base)) && leb 2 (length (found_at eqb groups step.below))) → is_crowded steps step ≡ b
crowd_told groups steps step b are e =
    sym (e ∙ ap (λ (xs : List ℕ). leb 12 (length xs) && leb 2 (length (found_at eqb groups step.below))) (are step.base)
    ∙ ap (λ (xs : List ℕ). leb 12 (length (entering steps step.base)) && leb 2 (length xs)) (are step.below))
