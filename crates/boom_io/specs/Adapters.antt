-- What an adapter over a reader or a writer of std is, as callers see it.
use Rattle.std.specs.Prelude.{ℕ}

-- the reader or the writer, and how many of its calls failed
pub record Counted (T : Type 0) : Type 0 where
  pub inner : T
  pub faults : ℕ
