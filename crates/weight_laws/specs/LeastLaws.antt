-- The least sum is a lawful domain.
use Rattle.std.proofs.Common.{◌≡◌, ℕ, ◌+◌, ◌-◌, ◌<◌, ◌≤◌, ◌^◌, min, true, ap, rules, arith}
use Rattle.weight_laws.specs.declared.least.Least.{Least}
use Rattle.weight_laws.specs.contracts.least.LeastPartialEq.TheImpl.{eq-value}
use Rattle.weight_laws.specs.Law.{IsLawful}
use Rattle.weight_laws.specs.Least.{least_domain}

-- facts on numbers, with m for the largest
assoc_min : (x y z : ℕ) → min (min x y) z ≡ min x (min y z)
assoc_min x y z = omega arith

comm_min : (x y : ℕ) → min x y ≡ min y x
comm_min x y = omega arith

self_min : (x : ℕ) → min x x ≡ x
self_min x = omega arith

min_top : (x m : ℕ) → x ≤ m → min x m ≡ x
min_top x m h = omega arith

assoc_sum : (x y z m : ℕ) → min (min (x + y) m + z) m ≡ min (x + min (y + z) m) m
assoc_sum x y z m = omega arith

sum_none : (x m : ℕ) → x ≤ m → min (x + 0) m ≡ x
sum_none x m h = omega arith

none_sum : (x m : ℕ) → x ≤ m → min (0 + x) m ≡ x
none_sum x m h = omega arith

sum_min : (x y z m : ℕ) → min (x + min y z) m ≡ min (min (x + y) m) (min (x + z) m)
sum_min x y z m = omega arith

min_sum : (x y z m : ℕ) → min (min x y + z) m ≡ min (min (x + z) m) (min (y + z) m)
min_sum x y z m = omega arith

sum_top : (x m : ℕ) → min (x + m) m ≡ m
sum_top x m = omega arith

top_sum : (x m : ℕ) → min (m + x) m ≡ m
top_sum x m = omega arith

min_falls : (x y : ℕ) → min x y ≡ y → (x ≡ y → ⊥) → y < x
min_falls x y e n = grind arith

within : (x : ℕ) → x < 2 ^ 32 → x ≤ 2 ^ 32 - 1
within x h = omega arith

abbrev least : ℕ → Least
least n = record { 0 = n }

pub least_lawful : IsLawful Least least_domain
least_lawful = record {
  zero_meant = omega arith;
  one_meant = omega arith;
  combine_meant = λ x y h k. omega arith;
  extend_meant = λ x y h k. omega arith;
  combine_assoc = λ x y z _ _ _. ap least (assoc_min x.0 y.0 z.0);
  combine_comm = λ x y _ _. ap least (comm_min x.0 y.0);
  combine_self = λ x _. ap least (self_min x.0);
  combine_zero = λ x h. ap least (min_top x.0 _ (within x.0 h));
  extend_assoc = λ x y z _ _ _. ap least (assoc_sum x.0 y.0 z.0 _);
  extend_one = λ x h. ap least (sum_none x.0 _ (within x.0 h));
  one_extend = λ x h. ap least (none_sum x.0 _ (within x.0 h));
  extend_combine = λ x y z _ _ _. ap least (sum_min x.0 y.0 z.0 _);
  combine_extend = λ x y z _ _ _. ap least (min_sum x.0 y.0 z.0 _);
  extend_zero = λ x _. ap least (sum_top x.0 _);
  zero_extend = λ x _. ap least (top_sum x.0 _);
  falls = λ x y _ _ e n. min_falls x.0 y.0 (ap (λ (r : Least). r.0) e) (λ h. n (ap least h));
}

pub least_same : (x y : Least) → least_domain.IsMeant x → least_domain.IsMeant y → (eq-value).it x y ≡ true → x ≡ y
least_same x y _ _ e = search rules

pub least_small : (x : Least) → least_domain.IsMeant x → least_domain.height x ≤ 2 ^ 62
least_small x h = omega arith
