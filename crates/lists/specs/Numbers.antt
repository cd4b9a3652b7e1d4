-- Keys by number.
use Rattle.std.specs.Prelude.{ℕ, ◌-◌, ◌<◌, ◌≤◌, ◌^◌, List, length, max, min}
use Rattle.lists.specs.Chains.{IsFiled}
use Rattle.lists.specs.Lists.{IsApart}

-- keys, each numbered by its place, and for how many more there is room
pub record Numbers (K : Type 0) : Type 0 where
  pub keys : List K
  pub room : ℕ

-- how many keys can stand there before slots are made anew: 8 are looked at one by one
abbrev pub limit : List ℕ → ℕ
limit heads = max (length heads) 8

-- what the fields mean: there is room as far as the capacity, the slots and 32 bits go
abbrev pub numbers_of : {K : Type 0} → List K → ℕ → List ℕ → Numbers K
numbers_of keys capacity heads = record { keys = keys; room = min (min capacity (limit heads)) (2 ^ 32 - 1) - length keys }

-- each key has one number of 32 bits, and is filed where there are slots
pub record IsNumbered {K : Type 0} (spread : K → ℕ) (keys : List K) (heads next : List ℕ) : Type 0 where
  pub apart : IsApart keys
  pub few : length keys < 2 ^ 32
  pub filed : 0 < length heads → IsFiled spread keys heads next
  pub wide : 0 < length heads → 8 ≤ length heads
