use Rattle.std.proofs.Common.{take}
use Rattle.default_turns.proofs.Placing.{ArePlacedOf}
use Rattle.default_turns.proofs.holders.holders_of.Given as goal

abbrev pub invariant-loop-interface : goal.invariant-loop-interface
invariant-loop-interface l = ArePlacedOf l.placed.layout.places.now (take l.interface-index l.interface-items) l.holders.items
