-- What is told of a refusal is one.
use Rattle.std.proofs.Common.{◌≡◌, ℕ, List, sym, ap, ◌∙◌, subst, inl, inr, arith}
use Rattle.lists.proofs.Places.{slice_get-below}
use Rattle.link_rules.specs.Classes.{IsNamed, class_name, method_text, methods_of}
use Rattle.link_rules.specs.Refusals.{IsFirst, IsPlaceOf, IsTextOf, IsTold, Refusal, whole, within}
use Rattle.link_rules.specs.World.{World}
use Rattle.link_rules.specs.declared.refusal.LinkKind.{LinkKind}
use Rattle.link_rules.specs.declared.refusal.LinkKind.TheVariants as rule
use Rattle.link_rules.proofs.OneWorld.{world_one}
use Rattle.link_rules.proofs.Order.{first_one}
use Rattle.link_laws.specs.One.{HasOneRefusal}

-- a number is that of one class
named_one : (w : World) (number : ℕ) (x y : List ℕ) → IsNamed w.classes x number → IsNamed w.classes y number → x ≡ y
named_one w number x y p q =
    let same : p.class ≡ q.class = cc (p.there, q.there) in
    sym p.named ∙ ap class_name same ∙ q.named

-- a number is that of one method
text_one : (w : World) (number : ℕ) (x y : List ℕ) → IsTextOf w number x → IsTextOf w number y → x ≡ y
text_one w number x y (inl p) (inl q) = let same : p.0 ≡ q.0 = cc (p.1, q.1) in p.2 ∙ ap method_text same ∙ sym q.2
text_one w number x y (inl p) (inr q) = let below = slice_get-below (methods_of w.classes) number p.0 p.1 in let at = q.0 in absurd (omega (arith, below, at))
text_one w number x y (inr p) (inl q) = let below = slice_get-below (methods_of w.classes) number q.0 q.1 in let at = p.0 in absurd (omega (arith, below, at))
text_one w number x y (inr p) (inr q) = p.1 ∙ sym q.1

-- the place of a refusal of the program is one
place_one : (w : World) (kind : LinkKind) (number : ℕ) (x y : List ℕ) → IsPlaceOf w kind number x → IsPlaceOf w kind number y → x ≡ y
place_one w rule.NoEntry number x y p q = p ∙ sym q
place_one w _ number x y p q = named_one w number x y p q

-- what is told of one refusal is one
told_one : (w : World) (r : Refusal) (j k : LinkKind) (x y : List ℕ) (m n : ℕ) → IsTold w r j x m → IsTold w r k y n → (j ≡ k) × (x ≡ y) × (m ≡ n)
told_one w (whole cause number) j k x y m n p q = (p.0 ∙ sym q.0, place_one w cause number x y p.1 q.1, p.2 ∙ sym q.2)
told_one w (within number at cause) j k x y m n p q = (p.0 ∙ sym q.0, text_one w number x y p.1 q.1, p.2 ∙ sym q.2)

pub refused_one : HasOneRefusal
refused_one input prelude entry j k x y m n p q =
    let worlds = world_one input prelude entry p.world q.world p.is_world q.is_world in
    let first = subst (λ (w : World). IsFirst w p.refusal) worlds p.first in
    let told = subst (λ (w : World). IsTold w p.refusal j x m) worlds p.told in
    let same = first_one q.world p.refusal q.refusal first q.first in
    told_one q.world q.refusal j k x y m n (subst (λ (r : Refusal). IsTold q.world r j x m) same told) q.told
