-- What the evidence for an answer is.
use Rattle.std.specs.Prelude.{◌≡◌, All}
use Rattle.lists.specs.Lists.{IsApart}
use Rattle.link_rules.specs.Linked.{LinkedProgram}
use Rattle.spds_rules.specs.declared.node.Node.{Node}
use Rattle.cert_rules.specs.Spelled.{FitsLine}
use Rattle.cert_trace.specs.Traces.{IsTraceOf}
use Rattle.cert_trace.specs.declared.evidence.Evidence.{Evidence}

-- it is of the target, and has the trace of the target's answer, in which no line stands twice and each can be written
pub record IsEvidence (p : LinkedProgram) (t : Node) (e : Evidence) : Type 0 where
  pub is_target : e.target ≡ t
  pub trace : IsTraceOf p t e.work
  pub apart : IsApart e.work.written.lines
  pub fits : All FitsLine e.work.written.lines
