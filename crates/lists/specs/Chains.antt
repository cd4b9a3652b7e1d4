-- Chains of numbers, by which a key is found among many.
use Rattle.std.specs.Prelude.{◌≡◌, ℕ, suc, ◌-◌, ◌*◌, ◌/◌, ◌%◌, ◌^◌, ◌≤◌, List, Some, bit_and, length, slice_get, slice_index_or}

-- the slot of a key with this spread, of so many: the upper half of a product, cut to the number of slots
abbrev pub slot_of : ℕ → ℕ → ℕ
slot_of spread slots = bit_and ((spread * 11400714819323198485) % 2 ^ 64 / 2 ^ 32) (slots - 1)

-- the number stands on the chain that begins so: 0 is the end, and above it stands the number larger by one, with what `next` has for it behind it
pub data OnChain (next : List ℕ) : ℕ → ℕ → Type 0 where
  here : (i : ℕ) → OnChain next (suc i) i
  behind : (i j : ℕ) → OnChain next (slice_index_or next j 0) i → OnChain next (suc j) i

-- each key stands on the chain of its slot, and all chains fall
pub record IsFiled {K : Type 0} (spread : K → ℕ) (keys : List K) (heads next : List ℕ) : Type 0 where
  pub as_many : length next ≡ length heads
  pub within : length keys ≤ length next
  pub low : (s : ℕ) → slice_index_or heads s 0 ≤ length keys
  pub falls : (i : ℕ) → slice_index_or next i 0 ≤ i
  pub each : (i : ℕ) (k : K) → slice_get keys i ≡ Some k → OnChain next (slice_index_or heads (slot_of (spread k) (length heads)) 0) i
