use Rattle.std.proofs.Common.{◌≡◌, Some, true≢false, slice_get, get_or, sym, ap, subst, ◌∙◌, inl, inr}
use Rattle.std.specs.List.{Contains}
use Rattle.std.proofs.lemmas.List.{take_all}
use Rattle.std.proofs.lemmas.Option.{slice_get-get_or}
use Rattle.class_order.specs.declared.finish.Stage.TheVariants.{New, Done}
use Rattle.lists.proofs.Elements.{Contains-take_more}
use Rattle.class_order.proofs.finish.are_done.Goals as goal
use Rattle.class_order.proofs.finish.are_done.Goals.{in-Done, in_default}

pub loop-class-preserved : goal.loop-class-preserved
loop-class-preserved c =
    let x = get_or c.args.classes.now c.loop-class.class-index 0 in
    let here : slice_get c.args.stages.now x ≡ Some Done = elim c.match-matches.branch [
      | in-Done w ↦ slice_get-get_or c.args.stages.now x New (c.requires c.loop-class.class-index 0 c.loop-class-test.true) ∙ ap Some w.in-Done.is
      | in_default w ↦ absurd (true≢false (sym c.if-not-matches.false ∙ w.matches-is))
    ] in
    λ b m. elim (Contains-take_more c.args.classes.now c.loop-class.class-index 0 b c.loop-class-test.true m) [
      | inl old ↦ c.loop-class.invariant b old
      | inr at ↦ subst (λ k. slice_get c.args.stages.now k ≡ Some Done) at here
    ]

pub returns-clause-done : goal.returns-clause-done
returns-clause-done c = λ t b m. c.loop-class.invariant b (subst (λ ys. Contains ys b) (sym (take_all c.loop-class.class-index c.args.classes.now c.loop-class-test.false)) m)
