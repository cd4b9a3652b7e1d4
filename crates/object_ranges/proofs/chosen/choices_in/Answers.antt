use Rattle.std.proofs.Common.{◌+◌, ◌++◌, ◌∷◌, ◌∙◌, [], get_or, subst, sym, ap}
use Rattle.std.proofs.lemmas.List.{append_assoc, append-nil, drop_all, drop_more}
use Rattle.object_ranges.specs.declared.parts.Part.{Part}
use Rattle.object_ranges.specs.declared.selection.Selection.TheVariants.{Nothing}
use Rattle.object_ranges.specs.Chosen.{AreChoicesOf, IsChoiceOf, gives, gives_none, none}
use Rattle.object_ranges.proofs.Passing.{choices_passed}
use Rattle.object_ranges.proofs.chosen.choices_in.Goals as goal

pub loop-at-preserved-in-Some : goal.loop-at-preserved-in-Some
loop-at-preserved-in-Some c = λ rest are.
    let objects = c.args.objects.now in
    let parts = c.args.parts.now in
    let spans = c.args.spans.now in
    let at = c.loop-at in
    let d : Part = record { start = 0; end = 0; selection = Nothing } in
    let choice = c.in-Some.choice in
    let more = gives (subst (IsChoiceOf objects spans (get_or parts at.at d)) c.in-Some.is c.choice_of.ensures) are in
    let all = at.invariant (choice ∷ rest) (subst (λ xs. AreChoicesOf objects spans xs (choice ∷ rest)) (sym (drop_more parts at.at d c.loop-at-test.true)) more) in
    subst (AreChoicesOf objects spans parts) (sym (ap (λ xs. xs ++ rest) c.in_ok-push-in-Some.ensures.items ∙ append_assoc at.choices.items (choice ∷ []) rest)) all

pub loop-at-preserved : goal.loop-at-preserved
loop-at-preserved c = λ rest are.
    let objects = c.args.objects.now in
    let parts = c.args.parts.now in
    let spans = c.args.spans.now in
    let at = c.loop-at in
    let d : Part = record { start = 0; end = 0; selection = Nothing } in
    let next = c.next_part-at in
    let later = choices_passed objects spans parts rest (at.at + 1) next.result next.ensures.on (λ k part le lt there some class both. next.ensures.passed k both.0 part le lt there both.1 both.2) are in
    let more = gives_none (subst (IsChoiceOf objects spans (get_or parts at.at d)) c.in-None.is c.choice_of.ensures) later in
    at.invariant rest (subst (λ xs. AreChoicesOf objects spans xs rest) (sym (drop_more parts at.at d c.loop-at-test.true)) more)

pub returns : goal.returns
returns c =
    let at = c.loop-at in
    let all = at.invariant [] (subst (λ xs. AreChoicesOf c.args.objects.now c.args.spans.now xs []) (sym (drop_all at.at c.args.parts.now c.loop-at-test.false)) none) in
    subst (AreChoicesOf c.args.objects.now c.args.spans.now c.args.parts.now) (append-nil at.choices.items) all
