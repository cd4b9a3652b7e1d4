-- Rules that are told one by one.
use Rattle.std.proofs.Common.{◌≡◌, ◌+◌, ◌<◌, ◌≤◌, ℕ, List, get_or, take, length, slice_get, Some, sym, ◌∙◌, subst, inl, inr}
use Rattle.std.proofs.lemmas.List.{take_all, take_more}
use Rattle.auto_table.specs.declared.rule.Rule.{Rule}
use Rattle.post_star.specs.Works.{AreTold, weight_of}
use Rattle.weight_laws.specs.Law.{Domain}
use Rattle.rule_cells.proofs.Entering.{has_pushed}

module _ {W : Type 0} (d : Domain W) (rules : List (Rule W)) where
  pub told_none : AreTold d (take 0 rules)
  told_none r has = cc has.1

  pub told_more : (i : ℕ) (rule : Rule W) → i < length rules → rule ≡ get_or rules i rule → d.IsMeant (weight_of rule) → AreTold d (take i rules)
      → AreTold d (take (i + 1) rules)
  told_more i rule below is meant was r has =
      elim (has_pushed (take i rules) (get_or rules i rule) r (subst (λ (rs : List (Rule W)). (k : ℕ) × (slice_get rs k ≡ Some r)) (take_more rules i rule below) has)) [
        | inl old ↦ was r old
        | inr new ↦ subst (λ (q : Rule W). d.IsMeant (weight_of q)) (is ∙ sym new) meant
      ]

  pub told_all : (i : ℕ) → length rules ≤ i → AreTold d (take i rules) → AreTold d rules
  told_all i all was = subst (λ (rs : List (Rule W)). AreTold d rs) (take_all i rules all) was
