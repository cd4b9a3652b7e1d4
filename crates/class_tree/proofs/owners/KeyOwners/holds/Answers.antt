use Rattle.std.proofs.Common.{sym, inl, inr, true≢false}
use Rattle.class_tree.proofs.owners.KeyOwners.holds.Goals as goal

pub returns-else-holds : goal.returns-else-holds
returns-else-holds c = (
  λ yes. inr (c.any_holds.ensures.0 yes),
  λ held. elim held [
    | inl united ↦ absurd (true≢false (sym (c.if-holds.ensures.1 united)))
    | inr any ↦ c.any_holds.ensures.1 any
  ],
)
