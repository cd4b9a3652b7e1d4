-- How the number of a text is found.
use Rattle.std.specs.Prelude.{◌≡◌, ℕ, suc, ◌+◌, ◌-◌, ◌%◌, ◌^◌, ◌<◌, ◌⊎◌, List, Option, Some, bit_and, length, slice_get, slice_index}
use Rattle.std.specs.Hash.FoldHasher.{initial, write, finish}
use Rattle.lists.specs.Lists.{IsApart}

-- the hash of a text's bytes
abbrev pub hash : List ℕ → ℕ
hash text = finish (write initial text)

-- in so many slots, from that of its hash on, a text's note is looked for
abbrev pub looks : ℕ
looks = 8

-- the slot so many steps behind that of a hash, of so many
abbrev pub slot_of : ℕ → ℕ → ℕ → ℕ
slot_of hash step slots = bit_and ((hash + step) % 2 ^ 64) (slots - 1)

-- a slot that is looked at for the hash has a note of the number
abbrev pub IsNoted : List ℕ → ℕ → ℕ → Type 0
IsNoted slots hash number = (step : ℕ) × (step < looks) × (slice_index slots (slot_of hash step (length slots)) ≡ suc number)

-- a text has its number in a note, or among the others
abbrev pub IsFiled : List ℕ → (List ℕ → Option ℕ) → List ℕ → ℕ → Type 0
IsFiled slots others text number = IsNoted slots (hash text) number ⊎ (others text ≡ Some number)

-- no text stands twice, each of them is filed under its place, and no other number is among the others
pub record IsIndexed (texts : List (List ℕ)) (slots : List ℕ) (others : List ℕ → Option ℕ) : Type 0 where
  pub apart : IsApart texts
  pub sound : (text : List ℕ) (i : ℕ) → others text ≡ Some i → slice_get texts i ≡ Some text
  pub each : (i : ℕ) (text : List ℕ) → slice_get texts i ≡ Some text → IsFiled slots others text i
