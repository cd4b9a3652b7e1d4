use Rattle.std.proofs.Common.{◌≡◌, ◌<◌, ℕ}
use Rattle.link_rules.specs.Refusals.{HasEarlierName}
use Rattle.link_rules.specs.World.{World}
use Rattle.link_classes.specs.Seen.{seen_classes}
use Rattle.link_classes.proofs.repeated.first_repeated.Given as goal

abbrev pub invariant-loop-number : goal.invariant-loop-number
invariant-loop-number l = (w : World) (n : ℕ) → w.classes ≡ seen_classes l.order.classes.items → n < l.number → HasEarlierName w n → ⊥
