-- The least sum as a weight.
use Rattle.std.specs.Prelude.{◌+◌, ◌-◌, ◌^◌, ◌<◌, min}
use Rattle.weight_laws.specs.declared.least.Least.{Least}
use Rattle.weight_laws.specs.Law.{Domain}

-- the largest number of 32 bits stands for no sum at all
abbrev pub least_domain : Domain Least
least_domain = record {
  IsMeant = λ x. x.0 < 2 ^ 32;
  zero = record { 0 = 2 ^ 32 - 1 };
  one = record { 0 = 0 };
  combine = λ x y. record { 0 = min x.0 y.0 };
  extend = λ x y. record { 0 = min (x.0 + y.0) (2 ^ 32 - 1) };
  height = λ x. x.0;
}
