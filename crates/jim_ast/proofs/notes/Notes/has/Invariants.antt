use Rattle.std.proofs.Common.{◌≢◌, ◌<◌, ℕ, suc, length, slice_index}
use Rattle.jim_ast.specs.Notes.{slot_of}
use Rattle.jim_ast.proofs.notes.Notes.has.Given as goal

abbrev pub invariant-loop-step : goal.invariant-loop-step
invariant-loop-step l = (s : ℕ) → s < l.step → slice_index l.self.slots.items (slot_of l.hash s (length l.self.slots.items)) ≢ suc l.number
