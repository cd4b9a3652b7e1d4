use Rattle.std.proofs.Common.{take}
use Rattle.default_turns.specs.Blocks.{AreKnown}
use Rattle.default_turns.proofs.Staying.{AreStaysOf}
use Rattle.default_turns.proofs.stays.all_stays.Given as goal

abbrev pub invariant-loop-holder : goal.invariant-loop-holder
invariant-loop-holder l = record {
  known : AreKnown l.line l.blocks;
  stays : AreStaysOf l.line.placed.tree.now l.line.placed.layout.places.now l.key l.line.holders.now (take l.holder-index l.line.holders.now) l.stays.items;
}
