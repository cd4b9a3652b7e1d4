-- A query has one answer, and either an answer within the budget or a demand that is over it.
use Rattle.std.proofs.Common.{◌≡◌, ℕ, ◌<◌, ◌≤◌, List, [], ◌∷◌, arith}
use Rattle.link_rules.specs.Linked.{LinkedProgram}
use Rattle.link_sites.specs.declared.site.Site.{Site}
use Rattle.link_sites.specs.Sites.{Precedes}
use Rattle.spds_rules.specs.declared.node.Node.{Node}
use Rattle.spds_rules.specs.Answers.{AreSites}
use Rattle.lists.specs.Lists.{Counts, HasMore}
use Rattle.demand_set.specs.Walks.{HasAtMost}
use Rattle.demand_set.proofs.Counts.{length-IsApart}
use Rattle.query_core.specs.Answers.{AreSharedBy, IsAffordable, IsAnswerTo, IsOver}
use Rattle.query_core.proofs.OneWay.{sites_one_way}
use Rattle.query_core.proofs.Ordered.{ordered_one}

module _ {X : Type 0} (P : X → Type 0) where
  -- no count is greater than another
  counts_most : (a b : ℕ) → Counts P a → Counts P b → a ≤ b
  counts_most a b (xs, here, is) (ys, there, are) =
      let le = length-IsApart xs ys here.apart (λ x has. there.all x (here.each x has)) in
      omega (arith, le, is, are)

  -- the elements with a fact have one count
  pub counts_one : (a b : ℕ) → Counts P a → Counts P b → a ≡ b
  counts_one a b here there =
      let most = counts_most a b here there in
      let least = counts_most b a there here in
      omega arith

  -- where more have the fact than the bound, it is below their count
  pub counts_more : (size bound : ℕ) → Counts P size → HasMore P bound → bound < size
  counts_more size bound (xs, are, is) more =
      let le = length-IsApart more.some xs more.apart (λ x has. are.all x (more.each x has)) in
      omega (arith, le, is, more.more)

  -- where at most the bound have it, it isn't
  pub counts_few : (size bound : ℕ) → Counts P size → HasAtMost P bound → size ≤ bound
  counts_few size bound (xs, are, is) few =
      let le = length-IsApart xs few.some are.apart (λ x has. few.all x (are.each x has)) in
      omega (arith, le, is, few.few)

  -- a count up to the bound
  pub counts_within : (size bound : ℕ) → Counts P size → size ≤ bound → HasAtMost P bound
  counts_within size bound (xs, are, is) within = record { some = xs; all = are.all; few = omega (arith, is) }

-- the sites with a fact stand in one order
pub sites_one : (p : LinkedProgram) (P : Site → Type 0) (xs ys : List Site) → AreSites p P xs → AreSites p P ys → xs ≡ ys
sites_one p P xs ys here there =
    ordered_one (Precedes p) (sites_one_way p) xs ys here.ordered there.ordered (λ o has. (there.each o).1 ((here.each o).0 has))
    (λ o has. (here.each o).1 ((there.each o).0 has))

module _ (p : LinkedProgram) where
  -- a query of a node has one answer
  pub answer_one : (n : Node) (xs ys : List Site) (a b : ℕ) → IsAnswerTo p n xs a → IsAnswerTo p n ys b → (xs ≡ ys) × (a ≡ b)
  answer_one n xs ys a b here there = (sites_one p _ xs ys here.answer there.answer, counts_one _ a b here.size there.size)

  -- and its size is above a budget that it is over
  pub answer_over : (n : Node) (xs : List Site) (size budget : ℕ) → IsAnswerTo p n xs size → IsOver p (n ∷ []) budget → budget < size
  answer_over n xs size budget here over = counts_more _ size budget here.size over

  -- a budget that is no less than its size is enough
  pub answer_affordable : (n : Node) (xs : List Site) (size budget : ℕ) → IsAnswerTo p n xs size → size ≤ budget → IsAffordable p (n ∷ []) budget
  answer_affordable n xs size budget here within = counts_within _ size budget here.size within

  -- the same of a query of two nodes
  pub shared_one : (m n : Node) (xs ys : List Site) (a b : ℕ) → AreSharedBy p m n xs a → AreSharedBy p m n ys b → (xs ≡ ys) × (a ≡ b)
  shared_one m n xs ys a b here there = (sites_one p _ xs ys here.shared there.shared, counts_one _ a b here.size there.size)

  pub shared_over : (m n : Node) (xs : List Site) (size budget : ℕ) → AreSharedBy p m n xs size → IsOver p (m ∷ n ∷ []) budget → budget < size
  shared_over m n xs size budget here over = counts_more _ size budget here.size over

  pub shared_affordable : (m n : Node) (xs : List Site) (size budget : ℕ) → AreSharedBy p m n xs size → size ≤ budget
      → IsAffordable p (m ∷ n ∷ []) budget
  shared_affordable m n xs size budget here within = counts_within _ size budget here.size within
