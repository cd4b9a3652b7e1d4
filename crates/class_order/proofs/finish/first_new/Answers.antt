use Rattle.std.proofs.Common.{◌≡◌, ◌+◌, ◌<◌, ◌⊎◌, ℕ, Some, true≢false, slice_get, get_or, sym, ap, ◌∙◌, inl, inr, arith}
use Rattle.std.proofs.lemmas.Option.{get_or_from_slice_get, slice_get-get_or}
use Rattle.class_order.specs.declared.finish.Stage.TheVariants.{New}
use Rattle.class_order.proofs.finish.first_new.Goals as goal
use Rattle.class_order.proofs.finish.first_new.Goals.{in-New, in_default}

below_or_at : (j i : ℕ) → j < i + 1 → (j < i) ⊎ (j ≡ i)
below_or_at j i h = grind arith

pub loop-at-preserved : goal.loop-at-preserved
loop-at-preserved c = record {
  within = omega arith;
  begun = λ j le lt new. elim (below_or_at j c.loop-at.at lt) [
    | inl before ↦ c.loop-at.invariant.begun j le before new
    | inr same ↦ elim c.match-matches.branch [
      | in-New w ↦ true≢false (sym w.matches-is ∙ c.if-not-matches.true)
      | in_default w ↦ w.in_default.not-New (get_or_from_slice_get c.args.stages.now _ New _ (ap (λ k. slice_get c.args.stages.now (get_or c.args.classes.now k 0)) (sym same) ∙ new))
    ]
  ];
}

pub returns-else-not-matches-clause-new : goal.returns-else-not-matches-clause-new
returns-else-not-matches-clause-new c = λ h. elim c.match-matches.branch [
  | in-New w ↦ slice_get-get_or c.args.stages.now _ New (c.requires.known c.loop-at.at 0 h) ∙ ap Some w.in-New.is
  | in_default w ↦ absurd (true≢false (sym c.if-not-matches.false ∙ w.matches-is))
]
