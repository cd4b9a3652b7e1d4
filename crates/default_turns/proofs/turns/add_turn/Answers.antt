use Rattle.std.proofs.Common.{◌∙◌, sym}
use Rattle.default_turns.proofs.Told.{turn_as_last, turn_of_none, turn_pushed}
use Rattle.default_turns.proofs.turns.add_turn.Goals as goal
use Rattle.default_turns.proofs.turns.add_turn.Goals.{in-Some, in-None}

pub returns-in_ok-push : goal.returns-in_ok-push
returns-in_ok-push c = rw c.in_ok-push.ensures.items (turn_pushed c.args.turn c.args.turns.now.items)

pub returns-else-not-are_same : goal.returns-else-not-are_same
returns-else-not-are_same c =
    let same = c.are_same.ensures.0 c.if-not-are_same.false in
    elim c.match-last.branch [
      | in-Some w ↦ turn_as_last c.args.turn c.args.turns.now.items w.in-Some.last.now (rw c.deref.ensures.value at (sym w.in-Some.ensures.value)) (sym w.before-is ∙ same)
      | in-None w ↦ turn_of_none c.args.turn c.args.turns.now.items (rw c.deref.ensures.value at (sym w.in-None.ensures.value)) (sym w.before-is ∙ same)
    ]
