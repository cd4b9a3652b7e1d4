use Rattle.std.proofs.Common.{◌≡◌, ◌≢◌, ◌<◌, ℕ, suc, Some, length, map, slice_get, slice_index, string_bytes}
use Rattle.jim_ast.specs.Notes.{slot_of}
use Rattle.jim_ast.proofs.notes.Notes.find.Given as goal

abbrev pub invariant-loop-step : goal.invariant-loop-step
invariant-loop-step l = (s i : ℕ) → s < l.step → slice_index l.self.slots.items (slot_of l.hash s (length l.self.slots.items)) ≡ suc i → slice_get (map string_bytes l.texts) i ≢ Some l.text
