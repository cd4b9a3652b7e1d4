-- What is known by class and key.
use Rattle.std.proofs.Common.{◌≡◌, ℕ, Bool, true, false, ◌&&◌, ◌==◌, Option, Some, None, cond, refl, sym, ap, ◌∙◌, rules, subst, IfSome, Bor}
use Rattle.std.specs.BTreeMap.{Updates, is_at}
use Rattle.std.specs.Cmp.{tied_then, unsigned_ties}
use Rattle.std.specs.Option.{option_copied}
use Rattle.std.specs.Ordering.{eq_by_cmp, nat_cmp}
use Rattle.jim_ast.specs.declared.syntax.Mode.TheVariants.{Virtual}
use Rattle.link_rules.specs.World.{World}
use Rattle.link_calls.specs.declared.finding.Found.{Found}
use Rattle.link_calls.specs.declared.targets.Asked.{Asked}
use Rattle.link_calls.specs.declared.targets.Known.{Known}
use Rattle.link_calls.specs.Known.{AreKnown, IsFound, known_at, pair_cmp}

both_same : (class key c k : ℕ) → ((class == c) && (key == k)) ≡ true → (class ≡ c) × (key ≡ k)
both_same class key c k h = search rules

-- the order tells all pairs apart
same_pairs : (class key c k : ℕ) → is_at (pair_cmp (record { class = class; key = key })) (record { class = c; key = k }) ≡ true → (class ≡ c) × (key ≡ k)
same_pairs class key c k h =
    both_same class key c k
    (ap (λ b. b && (key == k)) (unsigned_ties class c) ∙ ap (λ b. eq_by_cmp nat_cmp class c && b) (unsigned_ties key k) ∙ tied_then (nat_cmp class c) (nat_cmp key k) ∙ h)

module _ (w : World) (old new : Known) (class key : ℕ) (found : Found) where
  abbrev asked : ℕ → ℕ → Asked
  asked c k = record { class = c; key = k }

  -- what is put is known, and all that was known still is
  pub known_put : AreKnown w old → IsFound w Virtual class key found
      → Updates pair_cmp old.found new.found (asked class key) (Some found) → AreKnown w new
  known_put known is_found updates c k = by (is_at (pair_cmp (asked class key)) (asked c k)) refl
    where
      by : (b : Bool) → is_at (pair_cmp (asked class key)) (asked c k) ≡ b → IfSome (known_at new c k) (IsFound w Virtual c k)
      by true e =
          let s = same_pairs class key c k e in
          let here : known_at new c k ≡ Some found = updates.0 _ ∙ ap (λ b. cond b (Some found) (known_at old c k)) e in
          rw here (rw (← s.0, ← s.1) is_found)
      by false e = subst (λ o. IfSome o (IsFound w Virtual c k)) (sym (updates.2 _ e)) (known c k)

-- what is read is known
pub known_read : (w : World) (known : Known) (class key : ℕ) (r : Option (Bor Found)) → AreKnown w known
    → option_copied r ≡ known_at known class key → IfSome r (λ found. IsFound w Virtual class key found.now)
known_read w known class key (Some v) are e = let here = are class key in subst (λ o. IfSome o (IsFound w Virtual class key)) (sym e) here
known_read w known class key None are e = cc
