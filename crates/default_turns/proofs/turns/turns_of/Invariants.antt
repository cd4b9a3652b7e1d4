use Rattle.std.proofs.Common.{ℕ, List, take}
use Rattle.class_rules.specs.Rows.{Rows}
use Rattle.default_turns.specs.Furthest.{AreFurthest}
use Rattle.default_turns.specs.Stays.{AreStays}
use Rattle.default_turns.proofs.Begun.{TellTo}
use Rattle.default_turns.proofs.turns.turns_of.Given as goal

abbrev pub invariant-loop-at : goal.invariant-loop-at
invariant-loop-at l = record {
  furthest : AreFurthest (take l.at l.stays) l.furthest;
  told : (rows : Rows) (places : List ℕ) (key : ℕ) → AreStays rows places key l.stays → TellTo rows places key l.stays l.at l.turns.items;
}
