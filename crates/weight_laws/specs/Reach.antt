-- Truth as a weight: whether something is reached.
use Rattle.std.specs.Prelude.{true, false, ◌||◌, ◌&&◌, if◌then◌else◌}
use Rattle.weight_laws.specs.declared.reach.Reach.{Reach}
use Rattle.weight_laws.specs.Law.{Domain}

abbrev pub reach_domain : Domain Reach
reach_domain = record {
  IsMeant = λ _. Unit {0};
  zero = record { 0 = false };
  one = record { 0 = true };
  combine = λ x y. record { 0 = x.0 || y.0 };
  extend = λ x y. record { 0 = x.0 && y.0 };
  height = λ x. if x.0 then 0 else 1;
}
