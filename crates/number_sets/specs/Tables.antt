-- What is kept for numbers.
use Rattle.std.specs.Prelude.{◌≡◌, ◌==◌, ℕ, cond, IfSome, List, Option, Some}
use Rattle.std.specs.BTreeMap.{is_at}
use Rattle.std.specs.Map.{lookup}
use Rattle.std.specs.Ordering.{nat_cmp}

-- numbers, each with what is kept for it
abbrev pub Entries : Type 0 → Type 0
Entries T = List (ℕ × T)

module _ {T : Type 0} where
  -- what is kept for the number
  abbrev pub kept_for : Entries T → ℕ → Option T
  kept_for entries number = lookup (is_at (nat_cmp number)) entries

  -- the value is kept for the number, and for the others what was kept before
  abbrev pub Puts : Entries T → ℕ → T → Entries T → Type 0
  Puts old number value new = (n : ℕ) → kept_for new n ≡ cond (number == n) (Some value) (kept_for old n)

  -- whatever is kept for a number, this is true of it
  abbrev pub AreKept : (ℕ → T → Type 0) → Entries T → Type 0
  AreKept What entries = (number : ℕ) → IfSome (kept_for entries number) (What number)
