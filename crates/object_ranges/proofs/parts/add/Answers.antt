use Rattle.std.proofs.Common.{◌≡◌, ◌∙◌, ◌++◌, ◌∷◌, [], take, ◌-◌, ap, sym, not, arith}
use Rattle.std.proofs.lemmas.List.{append-nil}
use Rattle.object_ranges.specs.Marks.{StandsIn}
use Rattle.object_ranges.specs.Parts.{HasClass}
use Rattle.object_ranges.proofs.Laid.{last_differs, parts_pushed, parts_skipped, parts_widened}
use Rattle.object_ranges.proofs.Leasts.{none_has, some_has}
use Rattle.object_ranges.proofs.Same.{other_selection, same_selection}
use Rattle.object_ranges.proofs.parts.add.Goals as goal
use Rattle.object_ranges.proofs.parts.add.Goals.{in-Some+else-eq+in_ok-push-2, in_default}

pub returns-then-is_none : goal.returns-then-is_none
returns-then-is_none c = λ select filled gives s. parts_skipped c.args.objects.now select c.args.part filled gives c.args.parts.now.items s
    (λ place class here st. none_has (StandsIn c.args.objects.now c.args.part.start c.args.part.end) c.least.result (c.is_none.ensures ∙ ap not c.if-is_none.true) c.least.ensures class (place, here.0, here.1, st))

pub returns-then-eq : goal.returns-then-eq
returns-then-eq c = λ select filled gives s. rw c.in_ok-push.ensures.items (parts_widened c.args.objects.now select c.args.part filled gives c.pop.new.self.items c.in-Some.last
    (same_selection c.in-Some.last.selection c.args.part.selection (sym c.if-eq.ensures)) (rw c.in-Some.ensures.items at s))

pub returns : goal.returns
returns c = λ select filled gives s.
    let objects = c.args.objects.now in
    let part = c.args.part in
    let least = some_has (StandsIn objects part.start part.end) c.least.result (c.is_none.ensures ∙ ap not c.if-is_none.false) c.least.ensures in
    let has : HasClass objects part = (least.1.0, least.0, (least.1.1, least.1.2), least.1.3) in
    rw c.in_ok-push-3.ensures.items (elim c.match-pop.branch [
      | in-Some+else-eq+in_ok-push-2 w ↦
          let last = w.in-Some.last in
          let front = c.pop.new.self.items in
          rw (w.parts-is, w.in_ok-push-2.ensures.items) (parts_pushed objects select part filled gives (front ++ last ∷ []) (rw w.in-Some.ensures.items at s) has
          (last_differs front last part (other_selection last.selection part.selection (sym w.eq.ensures ∙ w.if-eq.false))))
      | in_default w ↦
          let none : c.pop.new.self.items ≡ [] = w.in_default.ensures.rest ∙ ap (λ n. take (n - 1) c.args.parts.now.items) w.in_default.ensures.cases.0 in
          rw (w.parts-is, none) (parts_pushed objects select part filled gives [] (rw (w.in_default.ensures.items ∙ append-nil c.pop.new.self.items ∙ none) at s) has
          (λ i last at_end. absurd (omega (arith, at_end))))
    ])
