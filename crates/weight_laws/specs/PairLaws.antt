-- Two lawful domains, part by part, are one.
use Rattle.std.proofs.Common.{◌≡◌, ℕ, ◌+◌, ◌<◌, ◌⊎◌, inl, inr, Bool, true, false, ◌&&◌, refl, ap, sym, subst, arith}
use Rattle.weight_laws.specs.declared.pair.Pair.{Pair}
use Rattle.weight_laws.specs.Law.{Domain, IsLawful}
use Rattle.weight_laws.specs.Pair.{pair_domain}

below_or_not : (a b : ℕ) → (a < b) ⊎ (a < b → ⊥)
below_or_not a b = grind arith

sum_first : (a b c d : ℕ) → a < b → (d < c → ⊥) → a + c < b + d
sum_first a b c d h n = grind arith

sum_second : (a b c d : ℕ) → (b < a → ⊥) → c < d → a + c < b + d
sum_second a b c d n h = grind arith

not_below_itself : (a : ℕ) → a < a → ⊥
not_below_itself a h = omega arith

not_both : (a b : ℕ) → a < b → b < a → ⊥
not_both a b h k = omega arith

-- above, the height is no larger
no_rise : {W : Type 0} {d : Domain W} → IsLawful W d → (x y : W) → d.IsMeant x → d.IsMeant y → d.combine x y ≡ y → d.height x < d.height y → ⊥
no_rise {W} {d} l x y mx my e h =
    let apart : x ≡ y → ⊥ = λ s. not_below_itself (d.height x) (subst (λ (z : W). d.height x < d.height z) (sym s) h) in
    not_both _ _ h (l.falls x y mx my e apart)

module _ (A B : Type 0) (a : Domain A) (b : Domain B) (la : IsLawful A a) (lb : IsLawful B b) where
  same_parts : (x y : Pair A B) → x.0 ≡ y.0 → x.1 ≡ y.1 → x ≡ y
  same_parts x y e f = λ i. record { 0 = e i; 1 = f i }

  pair_falls : (x y : Pair A B) → a.IsMeant x.0 × b.IsMeant x.1 → a.IsMeant y.0 × b.IsMeant y.1 → a.combine x.0 y.0 ≡ y.0 → b.combine x.1 y.1 ≡ y.1
      → (x ≡ y → ⊥) → a.height y.0 + b.height y.1 < a.height x.0 + b.height x.1
  pair_falls x y mx my e f n =
      elim (below_or_not (a.height y.0) (a.height x.0)) [
        | inl h ↦ sum_first _ _ _ _ h (no_rise lb x.1 y.1 mx.1 my.1 f)
        | inr not_a ↦ elim (below_or_not (b.height y.1) (b.height x.1)) [
          | inl h ↦ sum_second _ _ _ _ (no_rise la x.0 y.0 mx.0 my.0 e) h
          | inr not_b ↦ absurd (not_a (la.falls x.0 y.0 mx.0 my.0 e (λ s. not_b (lb.falls x.1 y.1 mx.1 my.1 f (λ t. n (same_parts x y s t))))))
        ]
      ]

  pub pair_lawful : IsLawful (Pair A B) (pair_domain A B a b)
  pair_lawful = record {
    zero_meant = (la.zero_meant, lb.zero_meant);
    one_meant = (la.one_meant, lb.one_meant);
    combine_meant = λ x y h k. (la.combine_meant x.0 y.0 h.0 k.0, lb.combine_meant x.1 y.1 h.1 k.1);
    extend_meant = λ x y h k. (la.extend_meant x.0 y.0 h.0 k.0, lb.extend_meant x.1 y.1 h.1 k.1);
    combine_assoc = λ x y z h k m. same_parts _ _ (la.combine_assoc x.0 y.0 z.0 h.0 k.0 m.0) (lb.combine_assoc x.1 y.1 z.1 h.1 k.1 m.1);
    combine_comm = λ x y h k. same_parts _ _ (la.combine_comm x.0 y.0 h.0 k.0) (lb.combine_comm x.1 y.1 h.1 k.1);
    combine_self = λ x h. same_parts _ _ (la.combine_self x.0 h.0) (lb.combine_self x.1 h.1);
    combine_zero = λ x h. same_parts _ _ (la.combine_zero x.0 h.0) (lb.combine_zero x.1 h.1);
    extend_assoc = λ x y z h k m. same_parts _ _ (la.extend_assoc x.0 y.0 z.0 h.0 k.0 m.0) (lb.extend_assoc x.1 y.1 z.1 h.1 k.1 m.1);
    extend_one = λ x h. same_parts _ _ (la.extend_one x.0 h.0) (lb.extend_one x.1 h.1);
    one_extend = λ x h. same_parts _ _ (la.one_extend x.0 h.0) (lb.one_extend x.1 h.1);
    extend_combine = λ x y z h k m. same_parts _ _ (la.extend_combine x.0 y.0 z.0 h.0 k.0 m.0) (lb.extend_combine x.1 y.1 z.1 h.1 k.1 m.1);
    combine_extend = λ x y z h k m. same_parts _ _ (la.combine_extend x.0 y.0 z.0 h.0 k.0 m.0) (lb.combine_extend x.1 y.1 z.1 h.1 k.1 m.1);
    extend_zero = λ x h. same_parts _ _ (la.extend_zero x.0 h.0) (lb.extend_zero x.1 h.1);
    zero_extend = λ x h. same_parts _ _ (la.zero_extend x.0 h.0) (lb.zero_extend x.1 h.1);
    falls = λ x y h k e n. pair_falls x y h k (ap (λ (r : Pair A B). r.0) e) (ap (λ (r : Pair A B). r.1) e) n;
  }

  both_true : (p q : Bool) → (p && q) ≡ true → (p ≡ true) × (q ≡ true)
  both_true true q e = (refl, e)
  both_true false q e = cc

  pub pair_same : (f : A → A → Bool) (g : B → B → Bool) → ((x y : A) → a.IsMeant x → a.IsMeant y → f x y ≡ true → x ≡ y)
      → ((x y : B) → b.IsMeant x → b.IsMeant y → g x y ≡ true → x ≡ y)
      → (x y : Pair A B) → a.IsMeant x.0 × b.IsMeant x.1 → a.IsMeant y.0 × b.IsMeant y.1 → (f x.0 y.0 && g x.1 y.1) ≡ true → x ≡ y
  pair_same f g sf sg x y h k e =
      let p = both_true _ _ e in same_parts x y (sf x.0 y.0 h.0 k.0 p.0) (sg x.1 y.1 h.1 k.1 p.1)
