-- The first refusal of the program as a whole.
use Rattle.std.proofs.Common.{◌≡◌, ℕ, ◌<◌, inl, inr, refl, subst, arith}
use Rattle.lists.specs.Lists.{IsLeast}
use Rattle.class_rules.specs.Rows.{IsOwnAncestor, NamesUnknown}
use Rattle.link_rules.specs.declared.refusal.LinkKind.{LinkKind}
use Rattle.link_rules.specs.declared.refusal.LinkKind.TheVariants as rule
use Rattle.link_rules.specs.Refusals.{HasEarlierName, IsBefore, IsEntry, IsFirst, Refusal, Refuses, RefusesWhole, number_of, whole, within}
use Rattle.link_rules.specs.World.{World}
use Rattle.link_classes.specs.RowTables.{IsSound}

module _ (w : World) where
  -- of two rules of the program with one number there is one
  same_rule : (j k : LinkKind) (m n : ℕ) → RefusesWhole w j m → RefusesWhole w k n → number_of j ≡ number_of k → j ≡ k
  same_rule rule.DuplicateClass k m n p q e = after k n q e
    where
      after : (k : LinkKind) (n : ℕ) → RefusesWhole w k n → 1 ≡ number_of k → rule.DuplicateClass ≡ k
      after rule.DuplicateClass n q e = refl
      after k n q e = absurd (omega (arith, e))
  same_rule rule.UnknownParent k m n p q e = after k n q e
    where
      after : (k : LinkKind) (n : ℕ) → RefusesWhole w k n → 2 ≡ number_of k → rule.UnknownParent ≡ k
      after rule.UnknownParent n q e = refl
      after k n q e = absurd (omega (arith, e))
  same_rule rule.CyclicClass k m n p q e = after k n q e
    where
      after : (k : LinkKind) (n : ℕ) → RefusesWhole w k n → 3 ≡ number_of k → rule.CyclicClass ≡ k
      after rule.CyclicClass n q e = refl
      after k n q e = absurd (omega (arith, e))
  same_rule rule.NoEntry k m n p q e = after k n q e
    where
      after : (k : LinkKind) (n : ℕ) → RefusesWhole w k n → 5 ≡ number_of k → rule.NoEntry ≡ k
      after rule.NoEntry n q e = refl
      after k n q e = absurd (omega (arith, e))
  same_rule j k m n p q e = absurd p

  -- a refusal that none of an earlier rule, and none of its own rule at a smaller number, comes before
  pub first_whole : (k : LinkKind) (n : ℕ) → RefusesWhole w k n → ((j : LinkKind) (m : ℕ) → RefusesWhole w j m → number_of j < number_of k → ⊥)
      → ((m : ℕ) → m < n → RefusesWhole w k m → ⊥) → IsFirst w (whole k n)
  first_whole k n refuses none least = record { refuses = refuses; first = first }
    where
      first : (other : Refusal) → Refuses w other → IsBefore other (whole k n) → ⊥
      first (within number index kind) r before = before
      first (whole j m) r before = elim before [
        | inl lower ↦ none j m r lower
        | inr same ↦ least m same.1 (subst (λ z. RefusesWhole w z m) (same_rule j k m n r refuses same.0) r)
      ]

  number_positive : (j : LinkKind) → 0 < number_of j
  number_positive rule.DuplicateClass = omega arith
  number_positive _ = omega arith

  none_below_1 : (j : LinkKind) (m : ℕ) → RefusesWhole w j m → number_of j < 1 → ⊥
  none_below_1 j m r lower = omega (arith, lower, number_positive j)

  none_below_2 : ((m : ℕ) → HasEarlierName w m → ⊥) → (j : LinkKind) (m : ℕ) → RefusesWhole w j m → number_of j < 2 → ⊥
  none_below_2 single rule.DuplicateClass m r lower = single m r
  none_below_2 single j m r lower = omega (arith, lower)

  none_below_3 : ((m : ℕ) → HasEarlierName w m → ⊥) → ((m : ℕ) → NamesUnknown w.rows.classes w.rows.implements m → ⊥)
      → (j : LinkKind) (m : ℕ) → RefusesWhole w j m → number_of j < 3 → ⊥
  none_below_3 single known rule.DuplicateClass m r lower = single m r
  none_below_3 single known rule.UnknownParent m r lower = known m r
  none_below_3 single known j m r lower = omega (arith, lower)

  -- none of the first three rules refuses
  pub none_below_5 : IsSound w → (j : LinkKind) (m : ℕ) → RefusesWhole w j m → number_of j < 5 → ⊥
  none_below_5 sound rule.DuplicateClass m r lower = sound.single m r
  none_below_5 sound rule.UnknownParent m r lower = sound.known m r
  none_below_5 sound rule.CyclicClass m r lower = sound.acyclic m r
  none_below_5 sound j m r lower = omega (arith, lower)

  pub first_duplicate : (n : ℕ) → IsLeast (HasEarlierName w) n → IsFirst w (whole rule.DuplicateClass n)
  first_duplicate n least = first_whole rule.DuplicateClass n least.holds none_below_1 least.first

  pub first_unknown : (n : ℕ) → ((m : ℕ) → HasEarlierName w m → ⊥) → IsLeast (NamesUnknown w.rows.classes w.rows.implements) n → IsFirst w (whole rule.UnknownParent n)
  first_unknown n single least = first_whole rule.UnknownParent n least.holds (none_below_2 single) least.first

  pub first_cyclic : (n : ℕ) → ((m : ℕ) → HasEarlierName w m → ⊥) → ((m : ℕ) → NamesUnknown w.rows.classes w.rows.implements m → ⊥)
      → IsLeast (IsOwnAncestor w.rows.classes w.rows.implements) n → IsFirst w (whole rule.CyclicClass n)
  first_cyclic n single known least = first_whole rule.CyclicClass n least.holds (none_below_3 single known) least.first

  pub first_no_entry : IsSound w → ((row : ℕ) → IsEntry w row → ⊥) → IsFirst w (whole rule.NoEntry 0)
  first_no_entry sound none = first_whole rule.NoEntry 0 (refl, none) (none_below_5 sound) (λ m before r. omega (arith, before))

  -- no rule refuses
  pub none_refuses : IsSound w → (row : ℕ) → IsEntry w row → (j : LinkKind) (m : ℕ) → RefusesWhole w j m → ⊥
  none_refuses sound row entry rule.DuplicateClass m r = sound.single m r
  none_refuses sound row entry rule.UnknownParent m r = sound.known m r
  none_refuses sound row entry rule.CyclicClass m r = sound.acyclic m r
  none_refuses sound row entry rule.NoEntry m r = r.1 row entry
  none_refuses sound row entry j m r = r
