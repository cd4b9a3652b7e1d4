-- Sums over truth: what holds of some weight of the kind.
use Rattle.std.proofs.Common.{◌≡◌, ◌≢◌, ◌↔◌, ◌⊎◌, ℕ, List, [], Bool, true, false, ◌||◌, IsTrue, refl, sym, ap, inl, inr, subst, true≢false, Option, Some, None, Vec, Global, IfSome, IfNone}
use Rattle.std.specs.Option.{is_some}
use Rattle.auto_table.specs.Cells.{Cells, weight_at}
use Rattle.auto_table.specs.declared.entry.Entry.{Entry}
use Rattle.auto_table.specs.declared.entry.Entry.TheVariants.{Base}
use Rattle.auto_table.specs.declared.rule.Rule.{Rule}
use Rattle.call_side.specs.Words.{Holds}
use Rattle.post_star.specs.declared.bases.BaseStep.{BaseStep}
use Rattle.post_star.specs.declared.bases.Start.{Start}
use Rattle.post_star.specs.Derivations.{Leads, Combines, none, one, both, Derives, DerivesAny, any_word, IsSumOf}
use Rattle.post_star.specs.Readings.{IsSaturated, IsTableAny, IsTableValue, Reads, ReadsAt}
use Rattle.weight_laws.specs.declared.reach.Reach.{Reach}
use Rattle.weight_laws.specs.Reach.{reach_domain}

-- the truth of a weight
abbrev pub of_bool : Bool → Reach
of_bool b = record { 0 = b }

or_cases : (x y : Bool) → (x || y) ≡ true → (x ≡ true) ⊎ (y ≡ true)
or_cases true y h = inl refl
or_cases false y h = inr h

or_true : (x : Bool) → (x || true) ≡ true
or_true true = refl
or_true false = refl

module _ (kind : Reach → Type 0) where
  -- a combination that is true has a weight that is
  combined_true : {v : Reach} → Combines reach_domain kind v → v.0 ≡ true → kind reach_domain.one
  combined_true none h = absurd (true≢false (sym h))
  combined_true (one {x} k) h = subst kind (ap of_bool h) k
  combined_true (both {x} {y} a b) h = elim (or_cases x.0 y.0 h) [ inl e ↦ combined_true a e | inr e ↦ combined_true b e ]

  -- a sum is true exactly where one of its weights is
  pub sum_true : (v : Reach) → IsSumOf reach_domain kind v → IsTrue v.0 ↔ kind reach_domain.one
  sum_true v s = ((λ h. combined_true s.finite h), (λ k. sym (ap (λ (r : Reach). r.0) (s.above reach_domain.one k))))

  -- where a weight is true, so is the sum
  pub true_sum : kind reach_domain.one → IsSumOf reach_domain kind reach_domain.one
  true_sum k = record { finite = one k; above = λ x _. ap of_bool (or_true x.0) }

-- a weight that isn't zero is true
pub some_true : (v : Reach) → (v ≢ reach_domain.zero) → v.0 ≡ true
some_true v h = by v.0 refl
  where
    by : (b : Bool) → v.0 ≡ b → b ≡ true
    by true e = refl
    by false e = absurd (h (ap of_bool e))

pub one_some : reach_domain.one ≢ reach_domain.zero
one_some e = true≢false (ap (λ (r : Reach). r.0) e)

module _ (rules : List (Rule Reach)) (starts : List (Start Reach)) (steps : List BaseStep) (last : ℕ) (t : Cells Reach)
    (saturated : IsSaturated reach_domain rules starts steps last t) where
  -- what a saturated table reads is what is derived
  pub value_derives : (node : ℕ) (word : List ℕ) (v : Reach) → IsTableValue reach_domain steps last t node word v
      → IsTrue v.0 ↔ Derives reach_domain rules starts steps last node word reach_domain.one
  value_derives node word v is = sum_true (Derives reach_domain rules starts steps last node word) v ((saturated.value node word v).0 is)

  pub any_derives : (node : ℕ) (v : Reach) → IsTableAny reach_domain t node v
      → IsTrue v.0 ↔ ((word : List ℕ) × Derives reach_domain rules starts steps last node word reach_domain.one)
  any_derives node v is =
      let same = sum_true (DerivesAny reach_domain rules starts steps last node) v ((saturated.any_value node v).0 is) in
      ((λ h. by (same.0 h) refl), (λ w. same.1 (any_word w.1)))
    where
      by : {x : Reach} → DerivesAny reach_domain rules starts steps last node x → x ≡ reach_domain.one
          → (word : List ℕ) × Derives reach_domain rules starts steps last node word reach_domain.one
      by (any_word {word} d) e = (word, subst (Derives reach_domain rules starts steps last node word) e d)

  -- a word is held exactly where it is derived
  pub holds_derives : (node : ℕ) (word : List ℕ) → Holds steps last t node word ↔ Derives reach_domain rules starts steps last node word reach_domain.one
  holds_derives node word = (
    (λ h. (value_derives node word h.value h.is_value).0 (some_true h.value h.some)),
    (λ d. record {
      value = reach_domain.one;
      is_value = (saturated.value node word reach_domain.one).1 (true_sum (Derives reach_domain rules starts steps last node word) d);
      some = one_some;
    }),
  )

self_or : (x : Bool) → (x || x) ≡ x
self_or true = refl
self_or false = refl

-- what a table reads for the empty word is the weight of the last base
module _ (steps : List BaseStep) (last : ℕ) (t : Cells Reach) (node : ℕ) where
  read_below : {entry : Entry} {word : List ℕ} {x : Reach} → Reads reach_domain steps last t entry word x → word ≡ []
      → reach_domain.combine (reach_domain.extend x (weight_at reach_domain t entry node)) (weight_at reach_domain t (Base last) node)
      ≡ weight_at reach_domain t (Base last) node
  read_below (Reads.at_base {b} {word} leads) e =
      let here : b ≡ last = subst (λ (w : List ℕ). Leads steps b w last) e leads in
      subst (λ (l : ℕ). reach_domain.combine (weight_at reach_domain t (Base b) node) (weight_at reach_domain t (Base l) node) ≡ weight_at reach_domain t (Base l) node) here
      (ap of_bool (self_or (weight_at reach_domain t (Base b) node).0))
  read_below (Reads.at_link r) e = cc

  at_below : (x : Reach) → ReadsAt reach_domain steps last t node [] x
      → reach_domain.combine x (weight_at reach_domain t (Base last) node) ≡ weight_at reach_domain t (Base last) node
  at_below x (ReadsAt.from_entry r) = read_below r refl

  pub base_value : IsTableValue reach_domain steps last t node [] (weight_at reach_domain t (Base last) node)
  base_value = record {
    finite = one (ReadsAt.from_entry (Reads.at_base refl));
    above = at_below;
  }

-- a common word was looked for
pub word_found : (First Second : List ℕ → Type 0) (r : Option (Vec ℕ Global)) → IfSome r (λ word. First word.items) → IfSome r (λ word. Second word.items)
    → IfNone r ((word : List ℕ) → First word → Second word → ⊥) → IsTrue (is_some r) ↔ ((word : List ℕ) × First word × Second word)
word_found First Second (Some word) p q nothing = ((λ _. (word.items, p, q)), (λ _. refl))
word_found First Second None p q nothing = ((λ h. absurd (true≢false (sym h))), (λ w. absurd (nothing w.0 w.1 w.2)))
