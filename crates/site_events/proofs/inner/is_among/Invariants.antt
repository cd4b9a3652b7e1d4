use Rattle.std.proofs.Common.{ℕ, take}
use Rattle.lists.specs.Lists.{Has}
use Rattle.site_events.proofs.inner.is_among.Given as goal

-- none of the first methods is loud
abbrev pub invariant-loop-method : goal.invariant-loop-method
invariant-loop-method l = (m : ℕ) → Has (take l.method-index l.methods) m → Has l.loud.keys m → ⊥
