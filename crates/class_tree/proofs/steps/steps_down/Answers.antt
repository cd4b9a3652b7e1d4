use Rattle.std.proofs.Common.{◌<◌, ◌≤◌, ◌⊎◌, length, ◌∙◌, arith, length-set, inl, inr, ℕ, refl, get_or}
use Rattle.std.proofs.lemmas.List.{take_all}
use Rattle.lists.proofs.Elements.{Contains-nil}
use Rattle.class_rules.proofs.Parents.{names_at}
use Rattle.class_tree.proofs.StepLists.{steps_more}
use Rattle.class_tree.proofs.steps.steps_down.Goals as goal

below_or : (a n : ℕ) → (a < n) ⊎ (n ≤ a)
below_or a n = grind arith

pub children-requires-clause-known : goal.children-requires-clause-known
children-requires-clause-known c = λ a b p. elim (below_or b (length c.args.classes.now)) [ inl h ↦ h | inr h ↦ absurd (c.requires.known a (b, inl p, h)) ]

pub loop-class-init : goal.loop-class-init
loop-class-init c = record {
  len = c.in_ok-below.ensures.len;
  steps = λ a b. (
    λ u. inl ((c.in_ok-below.ensures.steps a b).0 u),
    λ s. elim s [ inl p ↦ (c.in_ok-below.ensures.steps a b).1 p | inr n ↦ absurd (Contains-nil (a, b) n) ],
  );
}

pub push-requires : goal.push-requires
push-requires c = rw c.loop-class.invariant.len (elim (below_or _ (length c.args.classes.now)) [
  | inl h ↦ h
  | inr h ↦ absurd (c.requires.known _ (names_at _ _ c.loop-class.class-index _ _ c.loop-class-test.true h refl))
])

pub loop-class-preserved : goal.loop-class-preserved
loop-class-preserved c =
    let there : (get_or c.args.implements.now c.loop-class.class-index (0, 0)).1 < length c.loop-class.below = rw c.loop-class.invariant.len (elim (below_or (get_or c.args.implements.now c.loop-class.class-index (0, 0)).1 (length c.args.classes.now)) [
      | inl h ↦ h
      | inr h ↦ absurd (c.requires.known _ (names_at _ _ c.loop-class.class-index _ _ c.loop-class-test.true h refl))
    ]) in
    rw c.in_ok-push.ensures (record {
      len = length-set _ _ _ ∙ c.loop-class.invariant.len;
      steps = steps_more _ _ _ c.loop-class.class-index _ c.loop-class-test.true there c.loop-class.invariant.steps;
    })

pub returns-clause-steps : goal.returns-clause-steps
returns-clause-steps c = let whole = take_all c.loop-class.class-index c.args.implements.now (omega arith) in rw whole at c.loop-class.invariant.steps
