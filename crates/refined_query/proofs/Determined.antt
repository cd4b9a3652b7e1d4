-- An answer over the program that is left isn't over the budget too.
use Rattle.std.proofs.Common.{ℕ, ◌<◌, List, subst}
use Rattle.demand_set.proofs.Counts.{HasMore-not}
use Rattle.link_rules.specs.Linked.{LinkedProgram}
use Rattle.link_sites.specs.declared.site.Site.{Site}
use Rattle.query_core.proofs.Determined.{counts_more}
use Rattle.refine_rules.proofs.Once.{rounds_determined}
use Rattle.spds_rules.specs.declared.node.Node.{Node}
use Rattle.lists.specs.Lists.{HasMore}
use Rattle.refined_query.specs.Answers.{IsDemandedBy, IsRefinedAffordable, IsRefinedAnswer, IsRefinedOver}

module _ (p : LinkedProgram) (rounds budget : ℕ) (n : Node) where
  -- the size of the demand of an answer is above the budget that it is over
  pub answer_over : (narrowed : ℕ) (sites : List Site) (demanded : ℕ) → IsRefinedAnswer p rounds budget n narrowed sites demanded
      → IsRefinedOver p rounds budget n → budget < demanded
  answer_over narrowed sites demanded a over =
      let same = rounds_determined p over.0 a.left budget rounds over.1 a.refined in
      counts_more (IsDemandedBy a.left n) demanded budget a.answer.size (subst (λ (q : LinkedProgram). HasMore (IsDemandedBy q n) budget) same over.2)

  -- and a demand that the budget is enough for isn't over it
  pub affordable_over : IsRefinedAffordable p rounds budget n → IsRefinedOver p rounds budget n → ⊥
  affordable_over few over =
      let same = rounds_determined p over.0 few.0 budget rounds over.1 few.1 in
      HasMore-not budget (subst (λ (q : LinkedProgram). HasMore (IsDemandedBy q n) budget) same over.2) few.2
