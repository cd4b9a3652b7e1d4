-- What a source or a sink in memory is, as callers see it.
use Rattle.std.specs.Prelude.{ℕ, List}

-- a source: the bytes that are left, the numbers of the calls that fail, the number of the next call, the most bytes
-- of one call, and the count of faults
pub record Tape : Type 0 where
  pub left : List ℕ
  pub failing : List ℕ
  pub calls : ℕ
  pub most : ℕ
  pub faults : ℕ

-- a sink: the bytes that were written, how many there is room for in all, and the rest as in a source
pub record Page : Type 0 where
  pub written : List ℕ
  pub room : ℕ
  pub failing : List ℕ
  pub calls : ℕ
  pub most : ℕ
  pub faults : ℕ
