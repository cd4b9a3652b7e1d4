use Rattle.std.proofs.Common.{refl, get_or, sym, subst}
use Rattle.std.proofs.lemmas.List.Elements.{Contains-get_or}
use Rattle.std.proofs.lemmas.Option.{slice_get-get_or}
use Rattle.object_ranges.specs.declared.chosen.Choice.{Choice}
use Rattle.object_ranges.specs.declared.selection.Selection.TheVariants.{Method, Nothing, Several}
use Rattle.link_calls.specs.Receivers.{AreChoices}
use Rattle.link_calls.specs.Selected.{IsSelection}
use Rattle.link_calls.proofs.Choosing.{found_of_all, looked_at_next, looked_at_none}
use Rattle.link_calls.proofs.finding.by_objects.Goals as goal
use Rattle.link_calls.proofs.finding.by_objects.Goals.{in-Method+in_ok-add-in-Method, in-Several, in-Nothing}

pub loop-choice-init : goal.loop-choice-init
loop-choice-init c = λ w key are parts. rw c.new-rows.ensures (looked_at_none w c.args.class key c.as_slice-choice-items.result.now)

pub loop-choice-preserved : goal.loop-choice-preserved
loop-choice-preserved c = λ w0 key are parts.
    let at = c.loop-choice in
    let choices = c.as_slice-choice-items.result.now in
    let d : Choice = record { class = 0; selection = Nothing } in
    let chosen = subst (AreChoices w0 c.args.class key) (sym c.as_slice-choice-items.ensures.value) (c.in_ok-choices.ensures w0 key are parts) in
    let choice = get_or choices at.choice-index d in
    let here = chosen.selected choice (Contains-get_or choices at.choice-index d c.loop-choice-test.true) in
    let next = looked_at_next w0 c.args.class key choices chosen at.choice-index choice (slice_get-get_or choices at.choice-index d c.loop-choice-test.true) at.rows at.several (at.invariant w0 key are parts) in
    elim c.match-choice.branch [
      | in-Method+in_ok-add-in-Method w ↦
          rw (w.rows-is, w.several-is) (next (Method w.in-Method.row) (subst (IsSelection w0.rows choice.class key) w.in-Method.is here) _ _ (w.in_ok-add-in-Method.ensures, refl))
      | in-Several w ↦ rw (w.rows-is, w.several-is) (next Several (subst (IsSelection w0.rows choice.class key) w.in-Several.is here) _ _ (refl, refl))
      | in-Nothing w ↦ rw (w.rows-is, w.several-is) (next Nothing (subst (IsSelection w0.rows choice.class key) w.in-Nothing.is here) _ _ (refl, refl))
    ]

pub returns : goal.returns
returns c = λ w0 key are parts.
    let at = c.loop-choice in
    let choices = c.as_slice-choice-items.result.now in
    let chosen = subst (AreChoices w0 c.args.class key) (sym c.as_slice-choice-items.ensures.value) (c.in_ok-choices.ensures w0 key are parts) in
    found_of_all w0 c.args.class key choices chosen at.choice-index at.rows at.several c.loop-choice-test.false (at.invariant w0 key are parts) _ c.into_vec.ensures refl
