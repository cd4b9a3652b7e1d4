use Rattle.std.proofs.Common.{take}
use Rattle.narrow_rules.specs.Narrowed.{AreThose, IsKept, StaysIn}
use Rattle.link_narrow.proofs.codes.kept_targets.Given as goal

abbrev pub invariant-loop-target : goal.invariant-loop-target
invariant-loop-target l =
    AreThose (λ target. StaysIn l.mode (IsKept l.named l.place.method l.place.index target)) (take l.target-index l.targets) l.some.items
