use Rattle.std.proofs.Common.{◌≡◌, ℕ, ◌-◌, ◌<◌, ◌^◌, Some, slice_get}
use Rattle.link_rules.specs.Linked.{LinkedProgram}
use Rattle.link_sites.specs.declared.site.Site.{Site}
use Rattle.spds_rules.specs.declared.node.Node.{Node}
use Rattle.spds_rules.specs.Answers.{IsAnswered}
use Rattle.spds_rules.specs.Demand.{Asked}
use Rattle.spds_solve.specs.Solved.{IsSolved}
use Rattle.cert_work.specs.Wants.{IsEverywhere}
use Rattle.cert_trace.proofs.answered.want_answered.Given as goal

-- those of the first sites
abbrev pub invariant-loop-number : goal.invariant-loop-number
invariant-loop-number l = record {
  ahead : l.wants.ahead ≡ l.fn.wants.ahead;
  wanted : (p : LinkedProgram) (q : Asked) (n : Node) → IsSolved p q l.demand l.solved → slice_get l.demand.nodes l.target ≡ Some n
      → (i : ℕ) (o : Site) → i < l.number → slice_get l.demand.sites i ≡ Some o → IsAnswered p q n o → IsEverywhere l.wants o;
}

abbrev pub decreases-loop-number : goal.decreases-loop-number
decreases-loop-number l = 2 ^ 32 - l.number
