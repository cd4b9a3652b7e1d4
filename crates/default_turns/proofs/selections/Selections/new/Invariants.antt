use Rattle.default_turns.specs.Selections.{AreKeptTurns}
use Rattle.default_turns.proofs.selections.Selections.new.Given as goal

abbrev pub invariant-loop-key : goal.invariant-loop-key
invariant-loop-key l = AreKeptTurns l.tree l.layout.places.now l.turns
