-- What holds of the program that rounds leave.
use Rattle.std.proofs.Common.{ℕ, ◌+◌, ◌≤◌, add-one, inl, inr, arith}
use Rattle.link_rules.specs.Linked.{LinkedProgram}
use Rattle.link_rules.specs.WellLinked.{IsWellLinked}
use Rattle.link_sites.specs.declared.site.Site.{Site}
use Rattle.link_sites.specs.Sites.{IsSite}
use Rattle.narrow_rules.specs.Narrowed.{pairs_in}
use Rattle.narrow_rules.proofs.Well.{narrowed_well}
use Rattle.refine_rules.specs.Refined.{IsRefined, IsRefinedBy, none, round}
use Rattle.spds_rules.specs.declared.node.Node.{Node}
use Rattle.spds_rules.specs.Nodes.{IsNode}
use Rattle.refined_query.specs.Rounds.{StandsOrIsLost}
use Rattle.refined_query.proofs.Fewer.{narrowed_fewer}
use Rattle.refined_query.proofs.Standing.{narrowed_lost, narrowed_node, site_was}

module _ (budget : ℕ) (p : LinkedProgram) where
  -- it is well linked
  pub left_well : IsWellLinked p → {rounds : ℕ} {q : LinkedProgram} → IsRefinedBy budget p rounds q → IsWellLinked q
  left_well well none = well
  left_well well (round {rounds} {q} {r} earlier last) = narrowed_well q r last.0 (left_well well earlier) last.2

  -- it has no more pairs of a call and a target
  pub left_fewer : {rounds : ℕ} {q : LinkedProgram} → IsRefinedBy budget p rounds q → pairs_in q ≤ pairs_in p
  left_fewer none = omega arith
  left_fewer (round {rounds} {q} {r} earlier last) =
      let before = left_fewer earlier in
      let after = narrowed_fewer q r last.0 last.2 in
      omega (arith, before, after)

  -- a node stands, or its method has lost its statements
  pub left_node : (n : Node) → IsNode p n → {rounds : ℕ} {q : LinkedProgram} → IsRefinedBy budget p rounds q → StandsOrIsLost q n
  left_node n is none = inl is
  left_node n is (round {rounds} {q} {r} earlier last) = elim (left_node n is earlier) [
    | inl stands ↦ narrowed_node q r last.0 last.2 n stands
    | inr lost ↦ inr (narrowed_lost q r last.0 last.2 n lost)
  ]

  -- a site is one of the first program
  pub left_site : (s : Site) → {rounds : ℕ} {q : LinkedProgram} → IsRefinedBy budget p rounds q → IsSite q s → IsSite p s
  left_site s none is = is
  left_site s (round {rounds} {q} {r} earlier last) is = left_site s earlier (site_was q r last.0 last.2 s is)

  -- one round more
  pub one_more : {rounds : ℕ} {q r : LinkedProgram} → IsRefinedBy budget p rounds q → IsRefined q budget r → IsRefinedBy budget p (rounds + 1) r
  one_more earlier last = rw add-one (round earlier last)
