-- Which stays reach furthest.
use Rattle.std.specs.Prelude.{◌≡◌, ◌≢◌, ◌<◌, ◌≤◌, ℕ, List, Contains}
use Rattle.default_turns.specs.declared.furthest.Furthest.{Furthest}
use Rattle.default_turns.specs.declared.stays.Stay.{Stay}

-- a stay of the default method ends behind the place
abbrev pub StaysPast : List Stay → ℕ → ℕ → Type 0
StaysPast stays place row = (s : Stay) × Contains stays s × (s.row ≡ row) × (place < s.end)

-- no stay of the row ends later than the first end, and no other one than the second, which is no later; and there such stays end, if it isn't 0
pub record AreFurthest (stays : List Stay) (f : Furthest) : Type 0 where
  pub own : (s : Stay) → Contains stays s → s.row ≡ f.row → s.end ≤ f.end
  pub others : (s : Stay) → Contains stays s → s.row ≢ f.row → s.end ≤ f.others_end
  pub less : f.others_end ≤ f.end
  pub is_end : 0 < f.end → (s : Stay) × Contains stays s × (s.row ≡ f.row) × (s.end ≡ f.end)
  pub is_others_end : 0 < f.others_end → (s : Stay) × Contains stays s × (s.row ≢ f.row) × (s.end ≡ f.others_end)
