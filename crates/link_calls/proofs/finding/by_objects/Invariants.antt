use Rattle.std.proofs.Common.{ℕ}
use Rattle.link_rules.specs.World.{World}
use Rattle.link_calls.specs.Receivers.{ArePartsOf, AreReceivers}
use Rattle.link_calls.proofs.Choosing.{AreLookedAt}
use Rattle.link_calls.proofs.finding.by_objects.Given as goal

abbrev pub invariant-loop-choice : goal.invariant-loop-choice
invariant-loop-choice l = (w : World) (key : ℕ) → AreReceivers w l.receivers → ArePartsOf w l.receivers key l.parts → AreLookedAt w l.class key l.choice-items l.choice-index l.rows l.several
