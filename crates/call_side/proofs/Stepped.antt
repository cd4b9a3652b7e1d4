-- The base steps of a program, caller by caller.
use Rattle.std.proofs.Common.{◌≡◌, ℕ, ◌+◌, ◌≤◌, ◌⊎◌, ◌↔◌, List, [], ◌∷◌, ◌++◌, Some, length, slice_get, take, inl, inr, refl, sym, ap, subst, arith}
use Rattle.std.specs.List.{AllPairs}
use Rattle.std.proofs.lemmas.Bool.{cases_lt}
use Rattle.lists.specs.Lists.{Has}
use Rattle.link_rules.specs.Linked.{LinkedProgram}
use Rattle.link_rules.specs.WellLinked.{HasTarget, IsInForm}
use Rattle.link_indexes.specs.declared.method.Place.{Place as CallPlace}
use Rattle.link_indexes.specs.Facts.{Calls}
use Rattle.link_indexes.specs.Rows.{AreThePlaces, Precedes}
use Rattle.link_indexes.specs.Tables.{IsAt}
use Rattle.lists.proofs.Exactly.{AreExactly-push, AreExactly-same}
use Rattle.lists.proofs.Places.{Has-push, take-next}
use Rattle.lists.proofs.Joined.{AllPairs-at}
use Rattle.link_rules.specs.Accessed.{codes_in}
use Rattle.link_sites.specs.declared.place.Place.{Place}
use Rattle.link_sites.specs.Places.{ComesBefore, before}
use Rattle.post_star.specs.declared.bases.BaseStep.{BaseStep}
use Rattle.post_star.specs.Derivations.{step_of}
use Rattle.call_side.specs.Bases.{AreCallSteps, AreStepsUpTo, IsCallStep, IsStepUpTo, PrecedesStep}
use Rattle.call_side.proofs.Order.{ordered_once, ordered_places, taken_at}
use Rattle.call_side.proofs.Targets.{HasTarget-listed, listed-HasTarget, target_below}

-- a caller by its parts
abbrev pub call_at : ℕ → ℕ → CallPlace
call_at method index = record { method = method; index = index }

-- a step by its parts
step_by : (s : BaseStep) (base mark below : ℕ) → s.base ≡ base → s.mark ≡ mark → s.below ≡ below → s ≡ step_of base mark below
step_by s base mark below b m l =
    subst (λ (n : ℕ). s ≡ step_of n mark below) b (subst (λ (k : ℕ). s ≡ step_of s.base k below) m (subst (λ (k : ℕ). s ≡ step_of s.base s.mark k) l refl))

module _ (p : LinkedProgram) (calls : List Place) (ordered : AllPairs ComesBefore calls) (target : ℕ) (callers : List CallPlace) (are : AreThePlaces (IsAt (Calls target) (codes_in p)) callers) where
  module _ (j method index : ℕ) (there : slice_get callers j ≡ Some (call_at method index)) (steps : List BaseStep) (exact : AreStepsUpTo p calls target (take j callers) steps) where
    -- the callers so far and the next one
    next_caller : (call : CallPlace) → Has (take (j + 1) callers) call ↔ (Has (take j callers) call ⊎ (call ≡ call_at method index))
    next_caller call = rw (take-next callers j _ there) (Has-push (take j callers) (call_at method index) call)

    -- a caller so far comes before the next one
    earlier : (call : CallPlace) → Has (take j callers) call → Precedes call (call_at method index)
    earlier call has =
        let front = taken_at callers j has.0 call has.1 in
        AllPairs-at Precedes callers has.0 j call (call_at method index) are.ordered front.0 front.1 there

    -- the next caller has a mark
    pub steps_more : (mark : ℕ) → slice_get calls mark ≡ Some (before method index) → AreStepsUpTo p calls target (take (j + 1) callers) (steps ++ step_of target mark method ∷ [])
    steps_more mark numbered = AreExactly-push steps (step_of target mark method) exact behind grown
      where
        behind : (y : BaseStep) → IsStepUpTo p calls target (take j callers) y → PrecedesStep y (step_of target mark method)
        behind y is = elim is.1 [
          | inl less ↦ inl less
          | inr same ↦ inr (same.0, ordered_places calls y.mark mark (before y.below is.0.index) (before method index) ordered is.0.numbered numbered (earlier (call_at y.below is.0.index) same.1))
        ]

        this : (y : BaseStep) (is : IsCallStep p calls y) → y.base ≡ target → call_at y.below is.index ≡ call_at method index → y ≡ step_of target mark method
        this y is base same =
            let below : y.below ≡ method = ap (λ (c : CallPlace). c.method) same in
            let at : is.index ≡ index = ap (λ (c : CallPlace). c.index) same in
            let call : slice_get calls y.mark ≡ Some (before method index) = subst (λ (i : ℕ). slice_get calls y.mark ≡ Some (before method i)) at (subst (λ (m : ℕ). slice_get calls y.mark ≡ Some (before m is.index)) below is.numbered) in
            step_by y target mark method base (ordered_once calls y.mark mark (before method index) ordered call numbered) below

        new : IsStepUpTo p calls target (take (j + 1) callers) (step_of target mark method)
        new = (
          record { index = index; numbered = numbered; target = HasTarget-listed p method index target ((are.each (call_at method index)).0 (j, there)) },
          inr (refl, (next_caller (call_at method index)).1 (inr refl)),
        )

        grown : (y : BaseStep) → IsStepUpTo p calls target (take (j + 1) callers) y ↔ (IsStepUpTo p calls target (take j callers) y ⊎ (y ≡ step_of target mark method))
        grown y = (
          (λ is. elim is.1 [
            | inl less ↦ inl (is.0, inl less)
            | inr same ↦ elim ((next_caller (call_at y.below is.0.index)).0 same.1) [
              | inl a ↦ inl (is.0, inr (same.0, a))
              | inr e ↦ inr (this y is.0 same.0 e)
            ]
          ]),
          (λ either. elim either [
            | inl is ↦ (is.0, elim is.1 [ inl less ↦ inl less | inr same ↦ inr (same.0, (next_caller (call_at y.below is.0.index)).1 (inl same.1)) ])
            | inr e ↦ subst (λ (x : BaseStep). IsStepUpTo p calls target (take (j + 1) callers) x) (sym e) new
          ]),
        )

    -- it has none
    pub steps_skip : ((mark : ℕ) → slice_get calls mark ≡ Some (before method index) → ⊥) → AreStepsUpTo p calls target (take (j + 1) callers) steps
    steps_skip none = AreExactly-same steps exact (λ y. (
      (λ is. (
        is.0,
        elim is.1 [
          | inl less ↦ inl less
          | inr same ↦ elim ((next_caller (call_at y.below is.0.index)).0 same.1) [
            | inl a ↦ inr (same.0, a)
            | inr e ↦ absurd (none y.mark (subst (λ (c : CallPlace). slice_get calls y.mark ≡ Some (before c.method c.index)) e is.0.numbered))
          ]
        ],
      )),
      (λ is. (is.0, elim is.1 [ inl less ↦ inl less | inr same ↦ inr (same.0, (next_caller (call_at y.below is.0.index)).1 (inl same.1)) ])),
    ))

  -- all callers of the target were taken
  pub steps_end : (steps : List BaseStep) → AreStepsUpTo p calls target callers steps → AreStepsUpTo p calls (target + 1) [] steps
  steps_end steps exact = AreExactly-same steps exact (λ y. (
    (λ is. (
      is.0,
      elim is.1 [
        | inl less ↦ elim (cases_lt y.base target) [
          | inl lower ↦ inl lower
          | inr more ↦
              let e : y.base ≡ target = omega arith in
              let has : HasTarget p y.below is.0.index target = subst (λ (n : ℕ). HasTarget p y.below is.0.index n) e is.0.target in
              inr (e, (are.each (call_at y.below is.0.index)).1 (listed-HasTarget p y.below is.0.index target has))
        ]
        | inr same ↦ absurd (let there = same.1.1 in cc)
      ],
    )),
    (λ is. (is.0, inl (elim is.1 [ inl less ↦ omega arith | inr same ↦ let e : y.base ≡ target = same.0 in omega arith ]))),
  ))

-- no target was taken
pub steps_none : (p : LinkedProgram) (calls : List Place) (steps : List BaseStep) → steps ≡ [] → AreStepsUpTo p calls 0 [] steps
steps_none p calls steps none = rw none (record {
  each = λ y. ((λ has. let there = has.1 in cc), (λ is. elim is.1 [ inl less ↦ absurd (omega arith) | inr same ↦ absurd (let there = same.1.1 in cc) ]));
  ordered = λ i j d less below. absurd (omega arith);
})

-- all targets were taken
pub steps_all : (p : LinkedProgram) (calls : List Place) (target : ℕ) (steps : List BaseStep) → IsInForm p → length p.methods ≤ target → AreStepsUpTo p calls target [] steps → AreCallSteps p calls steps
steps_all p calls target steps form past exact = AreExactly-same steps exact (λ y. (
  (λ is. (is, inl (let below = target_below p y.below is.index y.base form is.target in omega arith))),
  (λ is. is.0),
))
