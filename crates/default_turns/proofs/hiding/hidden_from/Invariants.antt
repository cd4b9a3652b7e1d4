use Rattle.std.proofs.Common.{take}
use Rattle.default_turns.specs.Blocks.{AreKnown}
use Rattle.default_turns.proofs.Hiders.{AreHidden}
use Rattle.default_turns.proofs.hiding.hidden_from.Given as goal

abbrev pub invariant-loop-span : goal.invariant-loop-span
invariant-loop-span l = record {
  known : AreKnown l.line l.blocks;
  hidden : AreHidden l.line.placed.tree.now l.line.placed.layout.places.now l.line.holders.now l.interface (take l.span-index l.span-items) l.hidden.items;
}
