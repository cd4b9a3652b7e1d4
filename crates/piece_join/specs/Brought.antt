-- Items of a list by their numbers, which go on from one that is given. It is this project's own.
use Rattle.std.specs.Prelude.{◌≡◌, ◌+◌, ℕ, List, Some, slice_get}

-- the fact holds of each item, at its number
abbrev pub AllAt : {T : Type 0} → (ℕ → T → Type 0) → ℕ → List T → Type 0
AllAt {T} fact first items = (i : ℕ) (item : T) → slice_get items i ≡ Some item → fact (first + i) item

-- each item became what the relation says, by its number, of the item at its place before
abbrev pub AllBecome : {T : Type 0} → (ℕ → T → T → Type 0) → ℕ → List T → List T → Type 0
AllBecome {T} becomes first before after = (i : ℕ) (old new : T) → slice_get before i ≡ Some old → slice_get after i ≡ Some new → becomes (first + i) old new
