-- Truth is a lawful domain.
use Rattle.std.proofs.Common.{◌≡◌, ◌<◌, ◌≤◌, ◌^◌, Bool, true, false, ◌||◌, ◌&&◌, refl, ap, rules, arith, if◌then◌else◌}
use Rattle.weight_laws.specs.declared.reach.Reach.{Reach}
use Rattle.weight_laws.specs.contracts.reach.ReachPartialEq.TheImpl.{eq-value}
use Rattle.weight_laws.specs.Law.{IsLawful}
use Rattle.weight_laws.specs.Reach.{reach_domain}

assoc_or : (x y z : Bool) → ((x || y) || z) ≡ (x || (y || z))
assoc_or true y z = refl
assoc_or false y z = refl

comm_or : (x y : Bool) → (x || y) ≡ (y || x)
comm_or true true = refl
comm_or true false = refl
comm_or false true = refl
comm_or false false = refl

self_or : (x : Bool) → (x || x) ≡ x
self_or true = refl
self_or false = refl

or_false : (x : Bool) → (x || false) ≡ x
or_false true = refl
or_false false = refl

assoc_and : (x y z : Bool) → ((x && y) && z) ≡ (x && (y && z))
assoc_and true y z = refl
assoc_and false y z = refl

and_true : (x : Bool) → (x && true) ≡ x
and_true true = refl
and_true false = refl

and_false : (x : Bool) → (x && false) ≡ false
and_false true = refl
and_false false = refl

and_or : (x y z : Bool) → (x && (y || z)) ≡ ((x && y) || (x && z))
and_or true y z = refl
and_or false y z = refl

or_and : (x y z : Bool) → ((x || y) && z) ≡ ((x && z) || (y && z))
or_and true true true = refl
or_and true true false = refl
or_and true false z = sym_or_false z
  where
    sym_or_false : (z : Bool) → z ≡ (z || false)
    sym_or_false true = refl
    sym_or_false false = refl
or_and false y z = refl

falls : (x y : Bool) → (x || y) ≡ y → (x ≡ y → ⊥) → (if y then 0 else 1) < (if x then 0 else 1)
falls true true e n = absurd (n refl)
falls true false e n = absurd (n e)
falls false true e n = omega arith
falls false false e n = absurd (n refl)

low : (x : Bool) → (if x then 0 else 1) ≤ 2 ^ 62
low true = omega arith
low false = omega arith

abbrev reach : Bool → Reach
reach b = record { 0 = b }

pub reach_lawful : IsLawful Reach reach_domain
reach_lawful = record {
  zero_meant = tt;
  one_meant = tt;
  combine_meant = λ x y _ _. tt;
  extend_meant = λ x y _ _. tt;
  combine_assoc = λ x y z _ _ _. ap reach (assoc_or x.0 y.0 z.0);
  combine_comm = λ x y _ _. ap reach (comm_or x.0 y.0);
  combine_self = λ x _. ap reach (self_or x.0);
  combine_zero = λ x _. ap reach (or_false x.0);
  extend_assoc = λ x y z _ _ _. ap reach (assoc_and x.0 y.0 z.0);
  extend_one = λ x _. ap reach (and_true x.0);
  one_extend = λ x _. refl;
  extend_combine = λ x y z _ _ _. ap reach (and_or x.0 y.0 z.0);
  combine_extend = λ x y z _ _ _. ap reach (or_and x.0 y.0 z.0);
  extend_zero = λ x _. ap reach (and_false x.0);
  zero_extend = λ x _. refl;
  falls = λ x y _ _ e n. falls x.0 y.0 (ap (λ (r : Reach). r.0) e) (λ h. n (ap reach h));
}

pub reach_same : (x y : Reach) → reach_domain.IsMeant x → reach_domain.IsMeant y → (eq-value).it x y ≡ true → x ≡ y
reach_same x y _ _ e = search rules

pub reach_small : (x : Reach) → reach_domain.IsMeant x → reach_domain.height x ≤ 2 ^ 62
reach_small x _ = low x.0
