use Rattle.std.proofs.Common.{ℕ, ◌+◌, ◌-◌, ◌*◌, ◌<◌, ◌≤◌, length}
use Rattle.default_turns.specs.Blocks.{AreKnown}
use Rattle.default_turns.specs.Stretches.{AddsReached}
use Rattle.default_turns.proofs.blocks.+blocks.Given as goal

abbrev pub decreases-add_block : goal.decreases-add_block
decreases-add_block l = 2 * (length l.line.holders.now - l.at)

abbrev pub decreases-add_stretch : goal.decreases-add_stretch
decreases-add_stretch l = 2 * (length l.line.holders.now - l.stretch.from) + 1

abbrev pub invariant-add_stretch-loop-at : goal.invariant-add_stretch-loop-at
invariant-add_stretch-loop-at l = record {
  after : l.stretch.from ≤ l.at;
  within : (i : ℕ) → l.stretch.from ≤ i → i < l.at → i < l.stretch.to;
  known : AreKnown l.line l.blocks;
  adds : AddsReached l.line.placed.tree.now l.line.placed.layout.places.now l.line.holders.now l.stretch.from l.at l.initial.reached.items l.reached.items;
}

abbrev pub decreases-add_stretch-loop-at : goal.decreases-add_stretch-loop-at
decreases-add_stretch-loop-at l = l.stretch.to - l.at
