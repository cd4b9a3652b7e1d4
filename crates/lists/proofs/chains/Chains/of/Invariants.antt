use Rattle.std.proofs.Common.{◌≡◌, length, take}
use Rattle.lists.specs.Chains.{IsFiled}
use Rattle.lists.proofs.chains.Chains.of.Given as goal

abbrev pub invariant-loop-number : goal.invariant-loop-number
invariant-loop-number g l = record {
  slots : length l.chains.heads.items ≡ l.slots;
  filed : IsFiled g.K.Key.spread (take l.number l.keys) l.chains.heads.items l.chains.next.items;
}
