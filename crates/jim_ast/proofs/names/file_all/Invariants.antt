use Rattle.std.proofs.Common.{◌≡◌, ◌<◌, ℕ, List, Some, map, slice_get, string_bytes}
use Rattle.std.specs.BTreeMap.{get_by_text}
use Rattle.jim_ast.specs.Notes.{IsFiled}
use Rattle.jim_ast.proofs.names.file_all.Given as goal

abbrev pub invariant-loop-number : goal.invariant-loop-number
invariant-loop-number l = record {
  sound : (t : List ℕ) (i : ℕ) → get_by_text l.others t ≡ Some i → slice_get (map string_bytes l.texts) i ≡ Some t;
  kept : (t : List ℕ) (i : ℕ) → get_by_text l.initial.others t ≡ Some i → get_by_text l.others t ≡ Some i;
  each : (i : ℕ) (t : List ℕ) → i < l.number → slice_get (map string_bytes l.texts) i ≡ Some t → IsFiled l.notes.slots.items (get_by_text l.others) t i;
}
