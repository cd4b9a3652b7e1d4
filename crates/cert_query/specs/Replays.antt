-- What the replay of a certificate finds, in the order of its checks.
use Rattle.std.specs.Prelude.{◌≡◌, ℕ, ◌≤◌, ◌⊎◌}
use Rattle.link_rules.specs.Linked.{LinkedProgram}
use Rattle.link_sites.specs.declared.site.Site.{Site}
use Rattle.spds_rules.specs.declared.node.Node.{Node}
use Rattle.spds_rules.specs.Demand.{Demand, about}
use Rattle.lists.specs.Lists.{Counts, HasMore}
use Rattle.cert_rules.specs.declared.certificate.Certificate.{Certificate}
use Rattle.cert_rules.specs.Certified.{IsCertified, IsRejected}
use Rattle.report_text.specs.Answers.{IsQueryNode}

-- its target is a node that a query may name, and demands so many nodes, no more than the budget allows
pub record IsAskable (p : LinkedProgram) (budget : ℕ) (c : Certificate) (demanded : ℕ) : Type 0 where
  pub is_node : IsQueryNode p c.target
  pub size : Counts (Demand p (about c.target)) demanded
  pub affordable : demanded ≤ budget

-- it is such a node, and demands more
pub record IsOverBudget (p : LinkedProgram) (budget : ℕ) (c : Certificate) : Type 0 where
  pub is_node : IsQueryNode p c.target
  pub over : HasMore (Demand p (about c.target)) budget

-- the line that refuses it: 0, where no query may name its target; within the budget the first, from 1, that isn't justified, or where all are the number
-- behind the last, where that is no claim of the target
abbrev pub IsRejectedAt : LinkedProgram → ℕ → Certificate → ℕ → Type 0
IsRejectedAt p budget c line =
    ((line ≡ 0) × (IsQueryNode p c.target → ⊥)) ⊎ ((demanded : ℕ) × IsAskable p budget c demanded × IsRejected p c.target c.lines line)

-- within the budget its lines show that the site is in the answer of its target, which is this node
pub record IsAccepted (p : LinkedProgram) (budget : ℕ) (c : Certificate) (n : Node) (site : Site) (demanded : ℕ) : Type 0 where
  pub is_target : n ≡ c.target
  pub askable : IsAskable p budget c demanded
  pub certified : IsCertified p c.target c.lines site
