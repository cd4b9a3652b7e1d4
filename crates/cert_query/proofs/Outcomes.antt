-- A certificate has one outcome.
use Rattle.std.proofs.Common.{◌≡◌, ℕ, sym, ◌∙◌, inl, inr, arith}
use Rattle.link_rules.specs.Linked.{LinkedProgram}
use Rattle.link_sites.specs.declared.site.Site.{Site}
use Rattle.spds_rules.specs.declared.node.Node.{Node}
use Rattle.demand_set.proofs.Counts.{length-IsApart}
use Rattle.cert_rules.specs.declared.certificate.Certificate.{Certificate}
use Rattle.cert_query.specs.Replays.{IsAccepted, IsAskable, IsOverBudget, IsRejectedAt}
use Rattle.cert_query.proofs.Rejections.{certified_kept, rejected_one}

module _ (p : LinkedProgram) (budget : ℕ) (c : Certificate) where
  -- what the budget covers isn't over it
  askable_within : (demanded : ℕ) → IsAskable p budget c demanded → IsOverBudget p budget c → ⊥
  askable_within demanded asked over =
      let size = asked.size in
      let le = length-IsApart over.over.some size.0 over.over.apart (λ x has. size.1.all x (over.over.each x has)) in
      omega (arith, le, size.2, over.over.more, asked.affordable)

  pub rejected_at_one : (i k : ℕ) → IsRejectedAt p budget c i → IsRejectedAt p budget c k → i ≡ k
  rejected_at_one i k (inl a) (inl b) = a.0 ∙ sym b.0
  rejected_at_one i k (inl a) (inr b) = absurd (a.1 b.1.is_node)
  rejected_at_one i k (inr a) (inl b) = absurd (b.1 a.1.is_node)
  rejected_at_one i k (inr a) (inr b) = rejected_one p c.target c.lines i k a.2 b.2

  pub rejected_over : (i : ℕ) → IsRejectedAt p budget c i → IsOverBudget p budget c → ⊥
  rejected_over i (inl a) over = a.1 over.is_node
  rejected_over i (inr a) over = askable_within a.0 a.1 over

  pub rejected_accepted : (i : ℕ) (n : Node) (o : Site) (demanded : ℕ) → IsRejectedAt p budget c i → IsAccepted p budget c n o demanded → ⊥
  rejected_accepted i n o demanded (inl a) is = a.1 is.askable.is_node
  rejected_accepted i n o demanded (inr a) is = certified_kept p c.target c.lines o i is.certified a.2

  pub over_accepted : (n : Node) (o : Site) (demanded : ℕ) → IsOverBudget p budget c → IsAccepted p budget c n o demanded → ⊥
  over_accepted n o demanded over is = askable_within demanded is.askable over
