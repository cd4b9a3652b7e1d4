use Rattle.std.proofs.Common.{◌+◌, true≢false, sym, subst, ◌∙◌, get_or}
use Rattle.std.proofs.lemmas.Option.{slice_get-get_or}
use Rattle.link_bodies.specs.Places.{RepeatsName, label_names}
use Rattle.link_bodies.proofs.Again.{IsLeastOrNone, RepeatsBefore, again_more, all_repeats, none_least, not_again, some_least}
use Rattle.link_bodies.proofs.repeats.least_repeated.Goals as goal
use Rattle.link_bodies.proofs.repeats.least_repeated.Goals.{then-is_again, else-is_again}

pub loop-place-preserved : goal.loop-place-preserved
loop-place-preserved c =
    let labels = c.args.labels.now in
    let at = c.loop-place.place in
    let label = get_or labels at (record { name = record { 0 = 0 }; index = 0 }) in
    let there = slice_get-get_or labels at (record { name = record { 0 = 0 }; index = 0 }) c.loop-place-test.true in
    let again = c.is_again.ensures (label_names labels) c.requires in
    elim c.if-is_again.branch [
      | then-is_again w ↦
          subst (IsLeastOrNone (RepeatsBefore labels (at + 1))) (sym w.least-is)
          (again_more labels at label there c.loop-place.least w.lesser.result c.loop-place.invariant (again.0 w.if-is_again.true) w.lesser.ensures)
      | else-is_again w ↦
          subst (IsLeastOrNone (RepeatsBefore labels (at + 1))) (sym w.least-is)
          (not_again labels at label there c.loop-place.least c.loop-place.invariant (λ h. true≢false (sym (again.1 h) ∙ w.if-is_again.false)))
    ]

pub returns-clause-some : goal.returns-clause-some
returns-clause-some c =
    some_least (RepeatsName c.args.labels.now) c.loop-place.least (all_repeats c.args.labels.now c.loop-place.place c.loop-place.least c.loop-place-test.false c.loop-place.invariant)

pub returns-clause-none : goal.returns-clause-none
returns-clause-none c =
    none_least (RepeatsName c.args.labels.now) c.loop-place.least (all_repeats c.args.labels.now c.loop-place.place c.loop-place.least c.loop-place-test.false c.loop-place.invariant)
