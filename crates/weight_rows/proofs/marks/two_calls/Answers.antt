use Rattle.std.proofs.Common.{◌≡◌, ◌<◌, ◌&&◌, ℕ, zero, suc, Bool, true, false, List, [], ◌∷◌, Some, ltb, refl, slice_get, subst, sym}
use Rattle.std.proofs.lemmas.Bool.{ltb-true}
use Rattle.auto_table.specs.declared.rule.Rule.{Rule}
use Rattle.auto_table.specs.declared.rule.Rule.TheVariants.{Flow, Pop, Push}
use Rattle.rule_marks.specs.Joined.{source, target}
use Rattle.rule_marks.specs.Sharing.{AreBelow}
use Rattle.weight_laws.specs.declared.least.Least.{Least}
use Rattle.weight_rows.proofs.marks.two_calls.Goals as goal

are_below : List (Rule Least) → Bool
are_below [] = true
are_below (r ∷ rules) = (ltb (source r) 4 && ltb (target r) 4) && are_below rules

both : (a b : Bool) → (a && b) ≡ true → (a ≡ true) × (b ≡ true)
both true b e = (refl, e)
both false b e = absurd (let no : false ≡ true = e in cc)

told_below : (rules : List (Rule Least)) → are_below rules ≡ true → AreBelow 4 rules
unfolding are_below
told_below [] e r has = cc has.1
told_below (q ∷ rules) e r has = by has.0 has.1 (λ more. told_below rules (both (ltb (source q) 4 && ltb (target q) 4) (are_below rules) e).1 r more)
  where
    ends : (ltb (source q) 4 ≡ true) × (ltb (target q) 4 ≡ true)
    ends = both (ltb (source q) 4) (ltb (target q) 4) (both (ltb (source q) 4 && ltb (target q) 4) (are_below rules) e).0

    by : (i : ℕ) → slice_get (q ∷ rules) i ≡ Some r → (((i : ℕ) × (slice_get rules i ≡ Some r)) → (source r < 4) × (target r < 4)) → (source r < 4) × (target r < 4)
    by zero at rest =
        let same : q ≡ r = cc in
        subst (λ (p : Rule Least). (source p < 4) × (target p < 4)) same (ltb-true (source q) 4 ends.0, ltb-true (target q) 4 ends.1)
    by (suc i) at rest = rest (i, at)

abbrev weight : ℕ → Least
weight n = record { 0 = n }

given : (a b d e f : Rule Least) → a ≡ Push 0 2 7 (weight 1) → b ≡ Push 1 2 8 (weight 2) → d ≡ Pop 3 7 0 (weight 4) → e ≡ Pop 3 8 1 (weight 5) → f ≡ Push 2 0 6 (weight 6)
    → AreBelow 4 (a ∷ b ∷ Flow 2 3 (weight 3) ∷ d ∷ e ∷ f ∷ [])
unfolding are_below
given a b d e f p q r s t =
    let list = λ (x y z v w : Rule Least). x ∷ y ∷ Flow 2 3 (weight 3) ∷ z ∷ v ∷ w ∷ [] in
    subst (λ (x : Rule Least). AreBelow 4 (list x b d e f)) (sym p)
    (subst (λ (x : Rule Least). AreBelow 4 (list (Push 0 2 7 (weight 1)) x d e f)) (sym q)
    (subst (λ (x : Rule Least). AreBelow 4 (list (Push 0 2 7 (weight 1)) (Push 1 2 8 (weight 2)) x e f)) (sym r)
    (subst (λ (x : Rule Least). AreBelow 4 (list (Push 0 2 7 (weight 1)) (Push 1 2 8 (weight 2)) (Pop 3 7 0 (weight 4)) x f)) (sym s)
    (subst (λ (x : Rule Least). AreBelow 4 (list (Push 0 2 7 (weight 1)) (Push 1 2 8 (weight 2)) (Pop 3 7 0 (weight 4)) (Pop 3 8 1 (weight 5)) x)) (sym t)
    (told_below (list (Push 0 2 7 (weight 1)) (Push 1 2 8 (weight 2)) (Pop 3 7 0 (weight 4)) (Pop 3 8 1 (weight 5)) (Push 2 0 6 (weight 6))) refl)))))

pub returns : goal.returns
returns c = given c.push.result c.push-2.result c.pop.result c.pop-2.result c.push-3.result c.push.ensures c.push-2.ensures c.pop.ensures c.pop-2.ensures c.push-3.ensures
