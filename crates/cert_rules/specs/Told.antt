-- Lengths as 32 bits tell them.
use Rattle.std.specs.Prelude.{ℕ, ◌-◌, ◌^◌, min}

-- the number, or the greatest of 32 bits where it is greater
abbrev pub as_told : ℕ → ℕ
as_told length = min length (2 ^ 32 - 1)
