-- Numbers that are gathered in order.
use Rattle.std.proofs.Common.{ℕ, ◌<◌, ◌+◌, List, [], ◌∷◌, ◌++◌, sym, subst, inl, inr, arith}
use Rattle.std.proofs.lemmas.List.Quantifiers.{all_pairs_push}
use Rattle.std.proofs.lemmas.Option.{slice_get-get_or}
use Rattle.lists.specs.Lists.{Has}
use Rattle.link_reach.specs.Reaches.{AreThose}
use Rattle.link_reach.proofs.FirstFaults.{has_pushed, has_before, has_last}
use Rattle.link_reach.proofs.Searching.{at_most}

module _ (P : ℕ → Type 0) where
  pub those_none : AreThose P 0 []
  those_none = record {
    ordered = λ i j d before below. absurd (omega (arith, before, below));
    each = λ n. ((λ h. cc (h.1)), (λ p. absurd (omega (arith, p.0))));
  }

  module _ (count : ℕ) (numbers : List ℕ) (those : AreThose P count numbers) where
    -- a number with the fact
    pub those_more : P count → AreThose P (count + 1) (numbers ++ count ∷ [])
    those_more p = record {
      ordered = all_pairs_push (λ a b. a < b) numbers count those.ordered (λ k d below. ((those.each _).0 (k, slice_get-get_or numbers k d below)).0);
      each = λ n. (
        (λ h. elim (has_pushed numbers count n h) [
          | inl old ↦ let q = (those.each n).0 old in (omega (arith, q.0), q.1)
          | inr same ↦ (omega (arith, same), subst P (sym same) p)
        ]),
        (λ q. elim (at_most n count q.0) [
          | inl below ↦ has_before numbers count n ((those.each n).1 (below, q.1))
          | inr same ↦ subst (Has (numbers ++ count ∷ [])) (sym same) (has_last numbers count)
        ]),
      );
    }

    -- a number without it
    pub those_same : (P count → ⊥) → AreThose P (count + 1) numbers
    those_same none = record {
      ordered = those.ordered;
      each = λ n. (
        (λ h. let q = (those.each n).0 h in (omega (arith, q.0), q.1)),
        (λ q. elim (at_most n count q.0) [
          | inl below ↦ (those.each n).1 (below, q.1)
          | inr same ↦ absurd (none (subst P same q.1))
        ]),
      );
    }
