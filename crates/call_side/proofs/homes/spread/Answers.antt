use Rattle.std.proofs.Common.{◌≡◌, ◌<◌, ◌≤◌, ◌+◌, ℕ, List, Some, None, length, slice_get, inl, inr, sym, ap, ◌∙◌, arith, subst}
use Rattle.std.proofs.lemmas.Bool.{cases_lt}
use Rattle.lists.specs.Lists.{Has}
use Rattle.lists.proofs.Places.{slice_get-below, slice_get-there}
use Rattle.post_star.specs.declared.bases.BaseStep.{BaseStep}
use Rattle.post_star.specs.declared.key.Key.TheVariants.{Node}
use Rattle.call_side.specs.Indexed.{AreSpread}
use Rattle.call_side.specs.Trails.{AreKept}
use Rattle.call_side.proofs.homes.spread.Goals as goal

-- the bases of the steps to one base more are there
spread_more : (all : List BaseStep) (number base : ℕ) (old new : List ℕ) → AreKept old new → slice_get old number ≡ Some base → AreSpread all number old
    → ((step : BaseStep) → Has all step → step.below ≡ base → Has new step.base) → AreSpread all (number + 1) new
spread_more all number base old new kept there spread next n step less has below =
    elim (cases_lt n number) [ inl before ↦ earlier before | inr other ↦ last (omega arith) ]
  where
    earlier : n < number → Has new step.base
    earlier before =
        let was = slice_get-there old n (omega (arith, slice_get-below old number base there)) in
        let same : was.0 ≡ step.below = let moved = kept n was.0 was.1 in cc in
        let found = spread n step before has (subst (λ x. slice_get old n ≡ Some x) same was.1) in
        (found.0, kept found.0 step.base found.1)

    last : n ≡ number → Has new step.base
    last e =
        let moved : slice_get new n ≡ Some base = subst (λ k. slice_get new k ≡ Some base) (sym e) (kept number base there) in
        let same : step.below ≡ base = cc in
        next step has same

-- no base has the number
past : (bases : List ℕ) (number : ℕ) → slice_get bases number ≡ None → length bases ≤ number
past bases number none = elim (cases_lt number (length bases)) [
  | inl below ↦ let there = (slice_get-there bases number below).1 in cc
  | inr more ↦ more
]

pub loop-base-preserved : goal.loop-base-preserved
loop-base-preserved c =
    let on = c.in_ok-add_all.ensures in
    let there : slice_get c.loop-base.homes.bases.keys c.loop-base.number ≡ Some c.in-Some.base = sym c.in-Some.ensures.value in
    record {
      kept = λ number x was. on.kept number x (c.loop-base.invariant.kept number x was);
      spread = λ all filed. spread_more all c.loop-base.number c.in-Some.base _ _ on.kept there (c.loop-base.invariant.spread all filed)
          (λ step has below. on.there step (rw c.at.ensures ((filed (Node c.in-Some.base) step).1 (has, ap Node below))));
      homes = λ all last filed homes. on.homes all last c.in-Some.base there
          (λ step has. let was = (filed (Node c.in-Some.base) step).0 (rw c.at.ensures at has) in (was.0, let e = was.1 in cc))
          (c.loop-base.invariant.homes all last filed homes);
    }

pub returns-clause-spread : goal.returns-clause-spread
returns-clause-spread c all filed n step less has below =
    let none : slice_get c.loop-base.homes.bases.keys c.loop-base.number ≡ None = sym c.base.ensures.value ∙ c.in_default.is in
    c.loop-base.invariant.spread all filed n step (omega (arith, past c.loop-base.homes.bases.keys c.loop-base.number none)) has below
