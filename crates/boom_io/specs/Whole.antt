-- What one write, a whole read or a whole write does to the bytes of a stream, told (`Some`) or not (`None`).
use Rattle.std.specs.Prelude.{◌≡◌, ℕ, ◌+◌, ◌<◌, ◌≤◌, ◌↔◌, List, length, take, drop, None, Some, Err, IfOk, Result}
use Rattle.std.specs.declared.option.Option.{Option}
use Rattle.std.specs.Global.{Vec}
use Rattle.std.specs.Io.KnownBytes.{Appends, Consumes}
use Rattle.boom_io.specs.declared.whole.ReadAll.{ReadAll}
use Rattle.boom_io.specs.declared.whole.ReadAll.TheVariants.{TooLong}

-- a write took at least one byte of the piece, and no more than it has
abbrev pub WritesSome : {E : Type 0} → Result ℕ E → List ℕ → Type 0
WritesSome result piece = IfOk result (λ n. (0 < n) × (n ≤ length piece))

-- the first n bytes of what was left were taken, and there were as many
abbrev pub TakesFirst : ℕ → Option (List ℕ) → Option (List ℕ) → Type 0
TakesFirst n None new = Unit {0}
TakesFirst n (Some xs) None = ⊥
TakesFirst n (Some xs) (Some ys) = (n ≤ length xs) × (ys ≡ drop n xs)

-- what was taken by a read of at most `limit` bytes, and what its answer says of that: `Ok` has exactly the bytes
-- that were taken, and `TooLong` comes exactly where they are one more than the limit
pub record TakesWithin (limit : ℕ) (old new : Option (List ℕ)) (result : Result (Vec ℕ) ReadAll) : Type 0 where
  pub taken : List ℕ
  pub consumed : Consumes old new taken
  pub within : length taken ≤ limit + 1
  pub ok : IfOk result (λ v. v.items ≡ taken)
  pub too_long : (result ≡ Err TooLong) ↔ (length taken ≡ limit + 1)

-- some of the first bytes were appended, in order, and not all
abbrev pub AppendsProperPrefix : Option (List ℕ) → Option (List ℕ) → List ℕ → Type 0
AppendsProperPrefix old new bytes = (n : ℕ) × (n < length bytes) × Appends old new (take n bytes)
