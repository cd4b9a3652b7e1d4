-- Classes below themselves, looked for from the last of a depth-first order back.
use Rattle.std.proofs.Common.{◌≡◌, ℕ, ◌+◌, ◌<◌, ◌≤◌, ◌⊎◌, ◌↔◌, Some, List, [], length, slice_get, ap, subst, ◌∙◌, inl, inr, arith}
use Rattle.std.specs.List.{Contains}
use Rattle.std.proofs.lemmas.Option.{slice_get-get_or, slice_get_within}
use Rattle.class_rules.specs.Paths.{Path, ProperPath, here, step}
use Rattle.lists.specs.Lists.{IsLeast}
use Rattle.class_order.specs.Tables.{IsDepthFirst, IsOver, Under}
use Rattle.class_order.proofs.Listed.{group-past}
use Rattle.lists.proofs.Elements.{Contains-nil}
use Rattle.class_order.proofs.Placed.{taken_at, Contains-taken}
use Rattle.class_order.proofs.Reached.{path_push, proper_map, proper_last, proper_push}

-- the same path by steps turned round
path_turned : {S T : ℕ → ℕ → Type 0} {a b : ℕ} → ((x y : ℕ) → S x y → T y x) → Path S a b → Path T b a
path_turned turn here = here
path_turned turn (step {a} {b} s p) = path_push (path_turned turn p) (turn a b s)

proper_turned : {S T : ℕ → ℕ → Type 0} {a c : ℕ} → ((x y : ℕ) → S x y → T y x) → ProperPath S a c → ProperPath T c a
proper_turned {a = a} turn (b, s, p) = proper_push (path_turned turn p) (turn a b s)

pub depth_first_map : (S T : ℕ → ℕ → Type 0) (order : List ℕ) → ((a b : ℕ) → S a b → T a b) → ((a b : ℕ) → T a b → S a b) → IsDepthFirst S order → IsDepthFirst T order
depth_first_map S T order to from s = record {
  once = s.once;
  back = λ i c d e p none. proper_map S T to c c (s.back i c d e (proper_map T S from d c p) none);
}

-- a class with others one step below it is known
pub upper_known : (below : List (List ℕ)) (a b : ℕ) → Under below a b → b < length below
upper_known below a b u = elim (below_or b (length below)) [ inl h ↦ h | inr past ↦ absurd (Contains-nil a (subst (λ ys. Contains ys a) (group-past below b past) u)) ]
  where
    below_or : (i n : ℕ) → (i < n) ⊎ (n ≤ i)
    below_or i n = grind arith

-- a class from which a step upwards leads back to it is known
cyclic_known : (above : List (List ℕ)) → ((a b : ℕ) → Under above b a → b < length above) → (a : ℕ) → ProperPath (IsOver above) a a → a < length above
cyclic_known above known a (b, u, p) = let q = proper_last {Step = IsOver above} u p in known q.0 a q.2

-- the classes from index `at` of the order on were looked at: what is above them was met, and the least of them that is below itself is known
pub record IsLooked (above : List (List ℕ)) (order : List ℕ) (at least : ℕ) (met : List ℕ) : Type 0 where
  pub within : at ≤ length order
  pub known : least ≤ length above
  pub are_met : (c : ℕ) → Contains met c ↔ ((j : ℕ) × (w : ℕ) × (at ≤ j) × (slice_get order j ≡ Some w) × ProperPath (Under above) c w)
  pub first : (j c : ℕ) → at ≤ j → slice_get order j ≡ Some c → ProperPath (IsOver above) c c → least ≤ c
  pub cyclic : least < length above → ProperPath (IsOver above) least least

pub looked_none : (above : List (List ℕ)) (order : List ℕ) (at least : ℕ) → at ≡ length order → least ≡ length above → IsLooked above order at least []
looked_none above order at least all none = record {
  within = omega (arith, all);
  known = omega (arith, none);
  are_met = λ c. (λ m. absurd (Contains-nil c m), λ (j, w, le, e, p). absurd (omega (arith, le, all, slice_get_within order j w e)));
  first = λ j c le e p. absurd (omega (arith, le, all, slice_get_within order j c e));
  cyclic = λ lt. absurd (omega (arith, lt, none));
}

-- what was met is closed under steps upwards
pub met_closed : (above : List (List ℕ)) (order : List ℕ) (at least : ℕ) (met : List ℕ) → IsLooked above order at least met → (a b : ℕ) → Contains met a → Under above b a → Contains met b
met_closed above order at least met s a b m u = let p = (s.are_met a).0 m in (s.are_met b).1 (p.0, p.1, p.2, p.3, (a, u, path_of p.4))
  where
    path_of : {x y : ℕ} → ProperPath (Under above) x y → Path (Under above) x y
    path_of (z, t, q) = step t q

module _ (above : List (List ℕ)) (order : List ℕ) (f : IsDepthFirst (IsOver above) order) (at next class least : ℕ) (old met : List ℕ) (before : next + 1 ≡ at)
    (there : slice_get order next ≡ Some class) (s : IsLooked above order at least old) (more : (c : ℕ) → Contains met c ↔ (Contains old c ⊎ ProperPath (Under above) c class)) where
  this_or_later : (j : ℕ) → next ≤ j → (j ≡ next) ⊎ (at ≤ j)
  this_or_later j le = elim (split next j le) [ inl same ↦ inl same | inr past ↦ inr (omega (arith, past, before)) ]
    where
      split : (n j : ℕ) → n ≤ j → (j ≡ n) ⊎ (n + 1 ≤ j)
      split n j h = grind arith

  same_class : (j c : ℕ) → j ≡ next → slice_get order j ≡ Some c → c ≡ class
  same_class j c e g = let h = ap (slice_get order) e in cc (g, h, there)

  met_now : (c : ℕ) → Contains met c ↔ ((j : ℕ) × (w : ℕ) × (next ≤ j) × (slice_get order j ≡ Some w) × ProperPath (Under above) c w)
  met_now c = (
    λ m. elim ((more c).0 m) [
      | inl was ↦ let p = (s.are_met c).0 was in (p.0, p.1, omega (arith, p.2, before), p.3, p.4)
      | inr p ↦ (next, class, omega arith, there, p)
    ],
    λ (j, w, le, e, p). (more c).1 (elim (this_or_later j le) [
      | inl same ↦ inr (subst (ProperPath (Under above) c) (same_class j w same e) p)
      | inr past ↦ inl ((s.are_met c).1 (j, w, past, e, p))
    ]),
  )

  -- a class is met when it is looked at, where it is below itself
  met_cyclic : ProperPath (IsOver above) class class → Contains met class
  met_cyclic p = (more class).1 (inr (proper_turned {T = Under above} (λ x y u. u) p))

  -- and only there
  cyclic_met : Contains met class → ProperPath (IsOver above) class class
  cyclic_met m =
      let p = (met_now class).0 m in
      f.back next class p.1 there (proper_turned {T = IsOver above} (λ x y u. u) p.4) (λ earlier.
      let k = taken_at order next p.1 (omega (arith, slice_get_within order next class there)) earlier in
      f.once p.0 p.1 p.3 (Contains-taken order p.0 k.0 p.1 (omega (arith, k.1, p.2)) (omega (arith, slice_get_within order p.0 p.1 p.3)) k.2))

  within_now : next ≤ length order
  within_now = omega (arith, slice_get_within order next class there)

  -- it is the least one
  pub looked_hit : Contains met class → class < least → IsLooked above order next class met
  looked_hit m less = record {
    within = within_now;
    known = omega (arith, less, s.known);
    are_met = met_now;
    first = λ j c le e p. elim (this_or_later j le) [
      | inl same ↦ omega (arith, same_class j c same e)
      | inr past ↦ omega (arith, less, s.first j c past e p)
    ];
    cyclic = λ lt. cyclic_met m;
  }

  -- it isn't
  pub looked_kept : (Contains met class → class < least → ⊥) → IsLooked above order next least met
  looked_kept not_less = record {
    within = within_now;
    known = s.known;
    are_met = met_now;
    first = λ j c le e p. elim (this_or_later j le) [
      | inl same ↦ let is = same_class j c same e in
          elim (less_or class least) [
            | inl less ↦ absurd (not_less (met_cyclic (subst (λ x. ProperPath (IsOver above) x x) is p)) less)
            | inr from ↦ omega (arith, is, from)
          ]
      | inr past ↦ s.first j c past e p
    ];
    cyclic = s.cyclic;
  }
    where
      less_or : (a b : ℕ) → (a < b) ⊎ (b ≤ a)
      less_or a b = grind arith

-- all were looked at
pub looked_all : (above : List (List ℕ)) (order : List ℕ) (at least : ℕ) (met : List ℕ) → ((a b : ℕ) → Under above b a → b < length above) → ((c : ℕ) → c < length above → Contains order c)
    → (a : ℕ) × ProperPath (IsOver above) a a → at ≡ 0 → IsLooked above order at least met → IsLeast (λ a. ProperPath (IsOver above) a a) least
looked_all above order at least met known all (a, p) none s = record {
  holds = s.cyclic (omega (arith, first a p, cyclic_known above known a p));
  first = λ m less q. absurd (omega (arith, less, first m q));
}
  where
    first : (c : ℕ) → ProperPath (IsOver above) c c → least ≤ c
    first c q = let m = all c (cyclic_known above known c q) in s.first m.0 c (omega (arith, none)) (slice_get-get_or order m.0 c m.1 ∙ ap Some m.2) q
