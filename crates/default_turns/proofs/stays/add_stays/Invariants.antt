use Rattle.std.proofs.Common.{take}
use Rattle.default_turns.specs.Stays.{AddsAt}
use Rattle.default_turns.proofs.Staying.{BareIn}
use Rattle.default_turns.proofs.stays.add_stays.Given as goal

abbrev pub invariant-loop-span : goal.invariant-loop-span
invariant-loop-span l = AddsAt l.row (BareIn (take l.span-index l.span-items) l.hidden.items) l.initial.stays.items l.stays.items
